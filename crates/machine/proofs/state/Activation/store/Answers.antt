use Rattle.std.proofs.Common.{◌≡◌, Err, w16, SFits, rules}
use Rattle.std.proofs.lemmas.Int.{to_z-of_z}
use Rattle.machine.specs.View.{seen}
use Rattle.machine.proofs.Operands.{off, store_err, store_slot, store_ok}
use Rattle.machine.proofs.state.Activation.store.Goals as goal

pub returns-then-not-has : goal.returns-then-not-has
returns-then-not-has c = store_slot c.args.slot (seen c.args.self.now) c.if-not-has.ensures

pub returns-in_err-value : goal.returns-in_err-value
returns-in_err-value c =
    let r : c.from_residual.result ≡ Err c.in_err-value.field-0.0 = search rules in
    rw r (store_err (seen c.args.self.now) _ c.args.slot _ c.in_err-value.ensures)

pub returns : goal.returns
returns c =
    let f : SFits w16 c.in_ok-value.value = search rules in
    let s = store_ok (seen c.args.self.now) (seen c.pop.new.self) c.args.slot c.in_ok-value.value (off (seen c.args.self.now) _ _ c.in_ok-value.ensures) c.if-not-has.ensures in
    rw (simp to_z-of_z at c.assign.ensures) s
