use Rattle.language.proofs.Laws.{causes_known}
use Rattle.language.proofs.causes_known.Goals as goal

pub returns : goal.returns
returns c = causes_known
