use Rattle.std.proofs.Common.{refl}
use Rattle.machine.specs.View.{view}
use Rattle.machine.proofs.state.Core.conclude.Goals as goal

pub returns-in-Ok : goal.returns-in-Ok
unfolding view
returns-in-Ok c = rw (c.in-Ok.is, c.after-self.ensures) refl
