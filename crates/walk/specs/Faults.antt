-- The number and the place that each fault of the check tells.
use Rattle.std.specs.Prelude.{ℕ}
use Rattle.table.specs.Faults.{told_of_table}
use Rattle.walk.specs.declared.fault.CheckFault.{CheckFault}
use Rattle.walk.specs.declared.fault.CheckFault.TheVariants.{Table, NoNode, Nesting, Field, Sort, Variable, Child, Function, Loop, Exit, Height}

abbrev pub told : CheckFault → ℕ × ℕ
told (Table e) = told_of_table e
told (Field i) = (10, i)
told (Sort i) = (11, i)
told (NoNode i) = (12, i)
told (Nesting i) = (13, i)
told (Variable i) = (14, i)
told (Child i) = (15, i)
told (Function i) = (16, i)
told (Loop i) = (17, i)
told (Exit i) = (18, i)
told (Height i) = (19, i)
