use Rattle.layout.proofs.Read.{layouts_read}
use Rattle.layout.proofs.layouts_read.Goals as goal

pub returns : goal.returns
returns c = layouts_read
