use Rattle.std.proofs.Common.{◌≡◌, ◌+◌, ◌-◌, ◌*◌}
use Rattle.language.specs.Measures.{words_a}
use Rattle.translate.specs.Source.{expr_in, args_from}
use Rattle.translate.proofs.size.+arguments_size_value_size.Given as goal

abbrev pub decreases-arguments_size : goal.decreases-arguments_size
decreases-arguments_size l = 2 * l.left + 1

abbrev pub decreases-value_size : goal.decreases-value_size
decreases-value_size l = 2 * l.left

abbrev pub invariant-arguments_size-loop : goal.invariant-arguments_size-loop
invariant-arguments_size-loop l =
    (l.words + words_a (args_from (expr_in l.body l.left) (l.count - l.counter) l.next).0 ≡ words_a (args_from (expr_in l.body l.left) l.count l.at).0)
    × ((args_from (expr_in l.body l.left) (l.count - l.counter) l.next).1 ≡ (args_from (expr_in l.body l.left) l.count l.at).1)
