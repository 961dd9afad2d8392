use Rattle.std.proofs.Common.{◌≡◌, ℕ, ltb, length, sym, ap, rules}
use Rattle.machine.proofs.Cells.{sized}
use Rattle.machine.proofs.state.Activation.free.Goals as goal

pub returns : goal.returns
returns c =
    let l : length c.args.self.now.cells ≡ 64 = search rules in
    sym (ap (λ (z : ℕ). ltb z 64) (sized c.args.self.now l))
