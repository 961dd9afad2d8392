use Rattle.table.specs.View.{view}
use Rattle.walk.specs.Bodies.{env_of}
use Rattle.translate.proofs.Sorts.{body_taken}
use Rattle.translate.proofs.Steps.{block_is}
use Rattle.translate.proofs.arrive.count_at.Goals as goal

pub returns-clause-tree : goal.returns-clause-tree
returns-clause-tree c =
    block_is (view c.args.body.now.table.now) (env_of (view c.args.body.now.table.now) c.args.body.now.context) c.args.left c.args.at _ (body_taken _ _ c.node_as.ensures.is)
