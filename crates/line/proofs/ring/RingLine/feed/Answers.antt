use Rattle.std.proofs.Common.{arith}
use Rattle.line.proofs.Rounds.{around_more}
use Rattle.line.proofs.ring.RingLine.feed.Goals as goal

pub returns-clause-waits : goal.returns-clause-waits
returns-clause-waits c = (grind (arith, around_more), omega arith)
