use Rattle.std.proofs.Common.{◌≡◌, ◌+◌, ◌-◌}
use Rattle.language.specs.Measures.{words_ss}
use Rattle.language.specs.Reader.{read_ss}
use Rattle.translate.specs.Source.{stmt_in}
use Rattle.translate.proofs.size.+act_size_block_size.Given as goal

abbrev pub decreases-act_size : goal.decreases-act_size
decreases-act_size l = l.left

abbrev pub decreases-block_size : goal.decreases-block_size
decreases-block_size l = l.left

abbrev pub invariant-block_size-loop : goal.invariant-block_size-loop
invariant-block_size-loop l =
    (l.words + words_ss (read_ss (stmt_in l.body (l.left - 1)) (l.count - l.counter) l.next).0
    ≡ words_ss (read_ss (stmt_in l.body (l.left - 1)) l.count (l.at + 1)).0)
    × ((read_ss (stmt_in l.body (l.left - 1)) (l.count - l.counter) l.next).1
    ≡ (read_ss (stmt_in l.body (l.left - 1)) l.count (l.at + 1)).1)
