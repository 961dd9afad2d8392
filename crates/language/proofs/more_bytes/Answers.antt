use Rattle.language.proofs.Laws.{more_bytes}
use Rattle.language.proofs.more_bytes.Goals as goal

pub returns : goal.returns
returns c = more_bytes
