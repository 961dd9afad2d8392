-- The open loops that are kept, the innermost first.
use Rattle.std.specs.Prelude.{List, reverse}
use Rattle.translate.specs.declared.targets.Target.{Target}
use Rattle.translate.specs.declared.targets.Targets.{Targets}

abbrev pub aims : Targets → List Target
aims t = reverse t.items.items
