use Rattle.std.proofs.Common.{◌-◌}
use Rattle.table.specs.View.{view}
use Rattle.translate.specs.Functions.{functions_from, program_in}
use Rattle.translate.proofs.Functions.{BodiesLeft}
use Rattle.translate.proofs.bodies.bodies.Given as goal

abbrev pub invariant-loop-f : goal.invariant-loop-f
invariant-loop-f l = BodiesLeft l.initial.out l.out (functions_from (view l.table) (l.table.functions - l.f) l.f l.at) (program_in l.table)
