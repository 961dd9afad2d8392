use Rattle.std.proofs.Common.{arith}
use Rattle.std.proofs.lemmas.Grind.{common_steps}
use Rattle.line.proofs.Rounds.{length-around, get_or-around}
use Rattle.line.proofs.ring.RingLine.waiting_at.Goals as goal

pub returns : goal.returns
returns c = grind (arith, common_steps, length-around, get_or-around)
