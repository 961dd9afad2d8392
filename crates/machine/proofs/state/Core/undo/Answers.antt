use Rattle.std.proofs.Common.{refl}
use Rattle.machine.specs.View.{view, tops}
use Rattle.machine.proofs.state.Core.undo.Goals as goal

pub returns-in-Some : goal.returns-in-Some
unfolding view tops
returns-in-Some c = rw c.in-Some.is refl
