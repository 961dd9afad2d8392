use Rattle.std.proofs.Common.{◌+◌, ◌-◌, ◌*◌}
use Rattle.translate.specs.Source.{expr_in, args_from}
use Rattle.translate.proofs.Arguments.{ArgumentsLeft}
use Rattle.translate.proofs.value.+arguments_operands_value.Given as goal

abbrev pub decreases-arguments : goal.decreases-arguments
decreases-arguments l = 2 * l.left + 1

abbrev pub decreases-operands : goal.decreases-operands
decreases-operands l = 2 * l.left + 1

abbrev pub decreases-value : goal.decreases-value
decreases-value l = 2 * l.left

abbrev pub invariant-arguments-loop : goal.invariant-arguments-loop
invariant-arguments-loop l =
    ArgumentsLeft l.initial.out l.out (args_from (expr_in l.body l.left) (l.count - l.counter) l.next) (args_from (expr_in l.body l.left) l.count l.at)
