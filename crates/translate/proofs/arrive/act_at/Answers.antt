use Rattle.table.specs.View.{view}
use Rattle.walk.specs.Bodies.{env_of}
use Rattle.translate.proofs.Sorts.{act_taken}
use Rattle.translate.proofs.Steps.{stmt_is}
use Rattle.translate.proofs.arrive.act_at.Goals as goal

pub returns-clause-tree : goal.returns-clause-tree
returns-clause-tree c =
    stmt_is (view c.args.body.now.table.now) (env_of (view c.args.body.now.table.now) c.args.body.now.context) c.args.left c.args.at _ (act_taken _ _ c.node_as.ensures.is)
