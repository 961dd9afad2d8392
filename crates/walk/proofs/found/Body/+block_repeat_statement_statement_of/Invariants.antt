use Rattle.std.proofs.Common.{◌≡◌, ◌+◌, ◌-◌, ◌*◌, ◌≤◌}
use Rattle.walk.specs.Names.{names}
use Rattle.walk.specs.Reads.{act_walk}
use Rattle.walk.specs.Walk.{items_from, size}
use Rattle.walk.proofs.found.Body.+block_repeat_statement_statement_of.Given as goal

abbrev pub decreases-block : goal.decreases-block
decreases-block l = 3 * l.left

abbrev pub decreases-statement : goal.decreases-statement
decreases-statement l = 3 * l.left

abbrev pub decreases-statement_of : goal.decreases-statement_of
decreases-statement_of l = 3 * l.left + 2

abbrev pub decreases-repeat : goal.decreases-repeat
decreases-repeat l = 3 * l.left + 1

abbrev pub invariant-block-loop-i : goal.invariant-block-loop-i
invariant-block-loop-i l =
    (items_from (act_walk l.self (l.left - 1) (names l.initial.loops)) l.count (size 0 0) (l.at + 1)
    ≡ items_from (act_walk l.self (l.left - 1) (names l.initial.loops)) (l.count - l._i) l.size l.next)
    × (names l.loops ≡ names l.initial.loops)
    × (l.size.height + l.at + 1 ≤ l.next) × (l.size.words + l.at + 1 ≤ l.next) × (l.next ≤ l.self.table.now.nodes)
