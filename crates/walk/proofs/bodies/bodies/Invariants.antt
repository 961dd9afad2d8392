use Rattle.std.proofs.Common.{◌≡◌, ◌+◌, ◌-◌, ◌≤◌}
use Rattle.table.specs.View.{view}
use Rattle.walk.specs.Bodies.{bodies_from}
use Rattle.walk.proofs.bodies.bodies.Given as goal

abbrev pub invariant-loop-f : goal.invariant-loop-f
invariant-loop-f l =
    (bodies_from (view l.t) l.t.functions 0 l.t.functions 0 ≡ bodies_from (view l.t) (l.t.functions - l.f) l.f l.words l.next)
    × (l.words ≤ 32 + l.next) × (l.next ≤ l.t.nodes)
