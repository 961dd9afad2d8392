use Rattle.std.proofs.Common.{ℕ, List, Ok, sym, subst}
use Rattle.layout.specs.Stored.{Bytes}
use Rattle.checker.specs.Held.{held}
use Rattle.checker.proofs.Exactly.{exactly}
use Rattle.checker.proofs.program.Program.counts.Goals as goal

pub returns : goal.returns
returns c =
    exactly (held c.args.self.now) (Ok c.passed.result) (subst (λ (bs : List ℕ). Bytes bs) c.table.ensures c.below_256.ensures) (sym c.passed.ensures)
