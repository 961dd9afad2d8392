use Rattle.std.proofs.Common.{◌-◌}
use Rattle.table.specs.View.{view}
use Rattle.translate.specs.Functions.{functions_from, program_in}
use Rattle.translate.proofs.Functions.{EntriesLeft}
use Rattle.translate.proofs.bodies.entries.Given as goal

abbrev pub invariant-loop-f : goal.invariant-loop-f
invariant-loop-f l =
    EntriesLeft l.table.functions l.initial.out l.out (l.table.functions - l.f) l.address (functions_from (view l.table) (l.table.functions - l.f) l.f l.at) (program_in l.table)
