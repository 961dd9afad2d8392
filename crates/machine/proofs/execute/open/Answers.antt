use Rattle.std.proofs.Common.{refl}
use Rattle.machine.specs.View.{seen}
use Rattle.machine.proofs.execute.open.Goals as goal

pub returns : goal.returns
unfolding seen
returns c = rw (c.from-variables.ensures, c.is_some.ensures) refl
