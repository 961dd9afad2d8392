use Rattle.language.proofs.Laws.{taken_and_sent}
use Rattle.language.proofs.taken_and_sent.Goals as goal

pub returns : goal.returns
returns c = taken_and_sent
