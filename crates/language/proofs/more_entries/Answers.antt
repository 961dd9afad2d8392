use Rattle.language.proofs.Laws.{more-entries}
use Rattle.language.proofs.more_entries.Goals as goal

pub returns : goal.returns
returns c = more-entries
