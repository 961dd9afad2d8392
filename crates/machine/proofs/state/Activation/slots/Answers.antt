use Rattle.std.proofs.Common.{refl}
use Rattle.machine.specs.View.{seen}
use Rattle.machine.proofs.state.Activation.slots.Goals as goal

pub returns : goal.returns
unfolding seen
returns c = refl
