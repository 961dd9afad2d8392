use Rattle.std.proofs.Common.{arith}
use Rattle.walk.specs.Bodies.{checked}
use Rattle.checker.specs.Held.{smallest}
use Rattle.checker.proofs.Passes.{passes_at, smallest-passes}
use Rattle.checker.proofs.program.Program.new.Goals as goal

pub invariant_of-result : goal.invariant_of-result
invariant_of-result c = record { fits = omega arith; passes = passes_at (checked smallest) (record { functions = 1; nodes = 2; words = 2 }) smallest-passes }
