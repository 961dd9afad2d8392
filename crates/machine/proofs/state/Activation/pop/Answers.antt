use Rattle.std.proofs.Common.{◌≡◌, length, Some, ap, arith, rules}
use Rattle.machine.specs.View.{seen}
use Rattle.machine.specs.Acts.{first}
use Rattle.machine.proofs.Cells.{counted}
use Rattle.machine.proofs.Operands.{first_there}
use Rattle.machine.proofs.state.Activation.pop.Goals as goal

pub release-requires : goal.release-requires
release-requires c =
    let l : length c.args.self.now.cells ≡ 64 = search rules in
    let n = counted c.args.self.now l in
    let e : Some c.in_ok-value.value ≡ first (seen c.args.self.now).ops = search rules in
    omega (arith, ap length (first_there _ _ e))
