use Rattle.std.proofs.Common.{rules}
use Rattle.line.specs.Places.{around}
use Rattle.line.proofs.ring.Ring.new.Goals as goal

pub returns-clause-waiting : goal.returns-clause-waiting
unfolding around
returns-clause-waiting c = search rules
