-- The number and the place that each fault of a table tells.
use Rattle.std.specs.Prelude.{ℕ}
use Rattle.table.specs.declared.record.TableFault.{TableFault}
use Rattle.table.specs.declared.record.TableFault.TheVariants.{Length, Version, Counts, Record}

abbrev pub told_of_table : TableFault → ℕ × ℕ
told_of_table (Length n) = (1, n)
told_of_table Version = (2, 0)
told_of_table Counts = (3, 0)
told_of_table (Record f) = (4, f)
