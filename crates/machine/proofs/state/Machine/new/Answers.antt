use Rattle.std.proofs.Common.{rules}
use Rattle.machine.specs.View.{view, tops}
use Rattle.machine.proofs.state.Machine.new.Goals as goal

pub returns-clause-rests : goal.returns-clause-rests
unfolding view tops
returns-clause-rests c = search rules
