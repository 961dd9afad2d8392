use Rattle.layout.proofs.Written.{layouts_written}
use Rattle.layout.proofs.layouts_written.Goals as goal

pub returns : goal.returns
returns c = layouts_written
