use Rattle.simulation.proofs.Whole.{simulates}
use Rattle.simulation.proofs.simulation.Goals as goal

pub returns : goal.returns
returns c = simulates
