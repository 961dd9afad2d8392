use Rattle.std.proofs.Common.{arith}
use Rattle.line.proofs.Rounds.{length-around, drop-around, around_same}
use Rattle.line.proofs.ring.RingLine.take.Goals as goal

pub returns-then-n-self-clause-waits : goal.returns-then-n-self-clause-waits
returns-then-n-self-clause-waits c = grind (arith, length-around)

pub returns-clause-waits : goal.returns-clause-waits
returns-clause-waits c = (grind (arith, length-around), grind (arith, drop-around, around_same), omega arith, omega arith)
