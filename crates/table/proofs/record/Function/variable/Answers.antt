use Rattle.std.proofs.Common.{rules}
use Rattle.table.proofs.Slots.{variable_in}
use Rattle.table.proofs.record.Function.variable.Goals as goal

pub returns : goal.returns
returns c = let e = variable_in c.args.self.now c.args.slot in search rules
