use Rattle.language.proofs.Ranges.{values_in_range}
use Rattle.language.proofs.values_in_range.Goals as goal

pub returns : goal.returns
returns c = values_in_range
