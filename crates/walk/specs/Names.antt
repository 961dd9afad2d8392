-- The names of the open loops, the innermost first.
use Rattle.std.specs.Prelude.{ℕ, List, reverse}
use Rattle.walk.specs.declared.loops.Loops.{Loops}

abbrev pub names : Loops → List ℕ
names l = reverse l.names.items
