use Rattle.std.proofs.Common.{◌≡◌, ◌≤◌, length, take}
use Rattle.line.proofs.text.peek.Given as goal

-- what has been looked at
abbrev pub invariant-loop-i : goal.invariant-loop-i
invariant-loop-i g l = (take l.i l.byte-items ≡ take l.i (g.L.Line.waiting l.line)) × (l.i ≤ length (g.L.Line.waiting l.line)) × (length l.byte-items ≡ 8)
