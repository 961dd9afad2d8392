use Rattle.std.proofs.Common.{rules}
use Rattle.table.specs.View.{view}
use Rattle.translate.proofs.Steps.{no_node}
use Rattle.translate.proofs.arrive.shape_at.Goals as goal

pub returns-in_err-node-clause-is : goal.returns-in_err-node-clause-is
returns-in_err-node-clause-is c =
    let n = no_node (view c.args.body.now.table.now) c.args.left c.args.at (search rules) (search rules) in search rules
