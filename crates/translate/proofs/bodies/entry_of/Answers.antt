use Rattle.std.proofs.Common.{rules}
use Rattle.translate.proofs.Programs.{variables-many}
use Rattle.translate.proofs.bodies.entry_of.Goals as goal

pub returns : goal.returns
returns c = search (rules, variables-many)
