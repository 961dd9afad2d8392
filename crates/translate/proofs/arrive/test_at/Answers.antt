use Rattle.table.specs.View.{view}
use Rattle.walk.specs.Bodies.{env_of}
use Rattle.translate.proofs.Sorts.{test_taken}
use Rattle.translate.proofs.Steps.{cond_is}
use Rattle.translate.proofs.arrive.test_at.Goals as goal

pub returns-clause-tree : goal.returns-clause-tree
returns-clause-tree c =
    cond_is (view c.args.body.now.table.now) (env_of (view c.args.body.now.table.now) c.args.body.now.context) c.args.left c.args.at _ (test_taken _ _ c.node_as.ensures.is)
