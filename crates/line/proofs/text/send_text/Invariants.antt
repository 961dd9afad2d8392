use Rattle.std.proofs.Common.{◌≡◌, ◌+◌, ◌++◌, take}
use Rattle.line.proofs.text.send_text.Given as goal

-- what has been sent
abbrev pub invariant-loop-b : goal.invariant-loop-b
invariant-loop-b g l =
    (g.L.Line.sent l.line ≡ g.L.Line.sent l.initial.line ++ take l.b-index l.text)
    × (g.L.Line.room l.initial.line ≡ g.L.Line.room l.line + l.b-index)
    × (g.L.Line.waiting l.line ≡ g.L.Line.waiting l.initial.line)
    × (g.L.Line.hold l.line ≡ g.L.Line.hold l.initial.line)
