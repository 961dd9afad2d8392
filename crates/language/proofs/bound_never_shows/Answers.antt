use Rattle.language.proofs.Laws.{bound_never_shows}
use Rattle.language.proofs.bound_never_shows.Goals as goal

pub returns : goal.returns
returns c = bound_never_shows
