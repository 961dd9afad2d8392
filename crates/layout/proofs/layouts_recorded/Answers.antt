use Rattle.layout.proofs.Recorded.{layouts_recorded}
use Rattle.layout.proofs.layouts_recorded.Goals as goal

pub returns : goal.returns
returns c = layouts_recorded
