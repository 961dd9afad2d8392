use Rattle.std.proofs.Common.{rules}
use Rattle.translate.proofs.Steps.{stmts_step}
use Rattle.translate.proofs.size.+act_size_block_size.Goals as goal

pub block_size-loop-preserved : goal.block_size-loop-preserved
block_size-loop-preserved t c = search (rules, stmts_step)
