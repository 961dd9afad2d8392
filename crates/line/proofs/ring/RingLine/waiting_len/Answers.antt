use Rattle.std.proofs.Common.{arith}
use Rattle.line.proofs.Rounds.{length-around}
use Rattle.line.proofs.ring.RingLine.waiting_len.Goals as goal

pub returns : goal.returns
returns c = grind (arith, length-around)
