use Rattle.std.proofs.Common.{◌≡◌, Err, ◌∙◌, length, arith, w16, SFits, rules}
use Rattle.std.proofs.lemmas.Int.{to_z-of_z}
use Rattle.machine.specs.View.{seen}
use Rattle.machine.specs.Values.{apply_unary}
use Rattle.machine.specs.Acts.{pushed}
use Rattle.machine.proofs.Cells.{sized}
use Rattle.machine.proofs.Operands.{off, change_err, change_ok}
use Rattle.machine.proofs.state.Activation.change.Goals as goal

pub returns-in_err-value : goal.returns-in_err-value
returns-in_err-value c =
    let r : c.from_residual.result ≡ Err c.in_err-value.field-0.0 = search rules in
    rw r (change_err (seen c.args.self.now) _ c.args.operator _ c.in_err-value.ensures)

pub returns : goal.returns
returns c =
    let l : length c.args.self.now.cells ≡ 64 = search rules in
    let s = sized c.args.self.now l in
    let f : SFits w16 c.in_ok-value.value = search rules in
    let g : SFits w16 c.apply_unary.result = search rules in
    let u : c.apply_unary.result ≡ apply_unary c.args.operator c.in_ok-value.value = simp to_z-of_z at c.apply_unary.ensures in
    let p : (seen c.push.new.self, c.push.result) ≡ pushed c.apply_unary.result (seen c.pop.new.self) = simp to_z-of_z at c.push.ensures in
    p ∙ rw u (change_ok (seen c.args.self.now) (seen c.pop.new.self) c.args.operator c.in_ok-value.value (off (seen c.args.self.now) _ _ c.in_ok-value.ensures) (omega arith))
