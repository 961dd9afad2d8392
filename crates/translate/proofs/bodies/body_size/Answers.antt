use Rattle.std.proofs.Common.{rules}
use Rattle.translate.specs.Functions.{body_at}
use Rattle.translate.proofs.bodies.body_size.Goals as goal

pub block_size-requires : goal.block_size-requires
unfolding body_at
block_size-requires c = search rules

pub returns : goal.returns
unfolding body_at
returns c = record { words = search rules; next = search rules }
