use Rattle.std.proofs.Common.{◌≡◌, Err, w16, SFits, rules}
use Rattle.std.proofs.lemmas.Int.{to_z-of_z}
use Rattle.machine.specs.View.{seen}
use Rattle.machine.specs.Values.{is_true}
use Rattle.machine.proofs.Operands.{off, test_err, test_ok}
use Rattle.machine.proofs.state.Activation.test.Goals as goal

pub returns-in_err-value : goal.returns-in_err-value
returns-in_err-value c =
    let r : c.from_residual.result ≡ Err c.in_err-value.field-0.0 = search rules in
    rw r (test_err (seen c.args.self.now) _ c.args.sense c.args.target _ c.in_err-value.ensures)

pub returns : goal.returns
unfolding is_true
returns c =
    let f : SFits w16 c.in_ok-value.value = search rules in
    let o = off (seen c.args.self.now) _ _ c.in_ok-value.ensures in
    let t : c.is_true.result ≡ is_true c.in_ok-value.value = simp to_z-of_z at c.is_true.ensures in
    rw (c.jump_if.ensures, t) (test_ok (seen c.args.self.now) (seen c.pop.new.self) c.args.sense c.args.target c.in_ok-value.value o)
