use Rattle.std.proofs.Common.{◌≡◌, ◌+◌, ◌*◌, ◌≤◌, drop}
use Rattle.language.specs.Rules.{parameter_kinds}
use Rattle.walk.specs.Bodies.{signature_of}
use Rattle.walk.specs.Reads.{value_walk}
use Rattle.walk.specs.Walk.{args_from, no_arguments, needed}
use Rattle.walk.proofs.found.Body.+arguments_expression_expression_of.Given as goal

abbrev pub decreases-arguments : goal.decreases-arguments
decreases-arguments l = 3 * l.left + 1

abbrev pub decreases-expression : goal.decreases-expression
decreases-expression l = 3 * l.left

abbrev pub decreases-expression_of : goal.decreases-expression_of
decreases-expression_of l = 3 * l.left + 2

abbrev pub invariant-arguments-loop-i : goal.invariant-arguments-loop-i
invariant-arguments-loop-i l =
    (args_from (value_walk l.self l.left) (parameter_kinds (signature_of l.callee)) 0 no_arguments l.at
    ≡ args_from (value_walk l.self l.left) (drop l.i (parameter_kinds (signature_of l.callee))) l.i l.taken l.next)
    × (l.i + l.at ≤ l.next) × ((needed l.taken).height + l.at ≤ l.next) × ((needed l.taken).words + l.at ≤ l.next)
    × (l.at ≤ l.self.table.now.nodes → l.next ≤ l.self.table.now.nodes)
