use Rattle.std.proofs.Common.{rules}
use Rattle.translate.proofs.Steps.{args_step}
use Rattle.translate.proofs.size.+arguments_size_value_size.Goals as goal

pub arguments_size-loop-preserved : goal.arguments_size-loop-preserved
arguments_size-loop-preserved t c = search (rules, args_step)
