use Rattle.table.specs.View.{view}
use Rattle.walk.specs.Bodies.{env_of}
use Rattle.translate.proofs.Sorts.{value_taken}
use Rattle.translate.proofs.Steps.{expr_is}
use Rattle.translate.proofs.arrive.value_at.Goals as goal

pub returns-clause-tree : goal.returns-clause-tree
returns-clause-tree c =
    expr_is (view c.args.body.now.table.now) (env_of (view c.args.body.now.table.now) c.args.body.now.context) c.args.left c.args.at _ (value_taken _ _ c.node_as.ensures.is)
