use Rattle.std.proofs.Common.{◌≡◌, ℕ, ◌-◌, sym, ap, ◌∙◌, arith}
use Rattle.machine.specs.View.{seen, down}
use Rattle.machine.specs.Acts.{with_ops}
use Rattle.machine.proofs.Passed.{drop_down}
use Rattle.machine.proofs.state.Activation.release.Goals as goal

pub returns : goal.returns
unfolding seen
returns c =
    let e = drop_down c.args.self.now.cells c.args.self.now.variables (c.args.self.now.count - c.args.self.now.variables) c.args.given (omega (arith, c.requires)) in
    let i : (c.args.self.now.count - c.args.given) - c.args.self.now.variables ≡ (c.args.self.now.count - c.args.self.now.variables) - c.args.given = omega arith in
    ap (λ (n : ℕ). with_ops (seen c.args.self.now) (down c.args.self.now.cells c.args.self.now.variables n)) i ∙ sym (ap (with_ops (seen c.args.self.now)) e)
