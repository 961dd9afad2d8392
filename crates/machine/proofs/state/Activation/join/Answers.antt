use Rattle.std.proofs.Common.{◌≡◌, ℤ, Some, None, Option, Err, ◌∙◌, length, arith, w16, SFits, rules}
use Rattle.std.proofs.lemmas.Int.{to_z-of_z}
use Rattle.machine.specs.View.{seen}
use Rattle.machine.specs.Values.{apply_binary}
use Rattle.machine.specs.Acts.{last_two, pushed}
use Rattle.machine.specs.declared.plan.Cause.TheVariants.{BadCode, ZeroDivisor}
use Rattle.machine.proofs.Cells.{counted, sized}
use Rattle.machine.proofs.Operands.{two_counted, join_few, join_zero, join_ok}
use Rattle.machine.proofs.state.Activation.join.Goals as goal

pub returns-in_err-x : goal.returns-in_err-x
returns-in_err-x c =
    let r : c.from_residual.result ≡ Err BadCode = search rules in
    let e : ◌≡◌ {A = Option (ℤ × ℤ)} None (last_two (seen c.args.self.now).ops) = search rules in
    rw r (join_few (seen c.args.self.now) c.args.operator c.args.kind e)

pub returns-in_err-value : goal.returns-in_err-value
returns-in_err-value c =
    let r : c.from_residual-in_err-value.result ≡ Err ZeroDivisor = search rules in
    let e : Some (c.in_ok-x.x, c.in_ok-x.y) ≡ last_two (seen c.args.self.now).ops = search rules in
    let f : SFits w16 c.in_ok-x.x = search rules in
    let g : SFits w16 c.in_ok-x.y = search rules in
    let b : c.apply_binary.result ≡ apply_binary c.args.operator c.args.kind c.in_ok-x.x c.in_ok-x.y = simp to_z-of_z at c.apply_binary.ensures in
    let z : None ≡ apply_binary c.args.operator c.args.kind c.in_ok-x.x c.in_ok-x.y = search rules in
    rw r (join_zero (seen c.args.self.now) _ _ e c.args.operator c.args.kind z)

pub release-requires : goal.release-requires
release-requires c =
    let l : length c.args.self.now.cells ≡ 64 = search rules in
    let n = counted c.args.self.now l in
    let e : Some (c.in_ok-x.x, c.in_ok-x.y) ≡ last_two (seen c.args.self.now).ops = search rules in
    let t = two_counted _ _ _ e in omega arith

pub returns : goal.returns
returns c =
    let l : length c.args.self.now.cells ≡ 64 = search rules in
    let s = sized c.args.self.now l in
    let e : Some (c.in_ok-x.x, c.in_ok-x.y) ≡ last_two (seen c.args.self.now).ops = search rules in
    let f : SFits w16 c.in_ok-x.x = search rules in
    let g : SFits w16 c.in_ok-x.y = search rules in
    let h : SFits w16 c.in_ok-value.value = search rules in
    let b : c.apply_binary.result ≡ apply_binary c.args.operator c.args.kind c.in_ok-x.x c.in_ok-x.y = simp to_z-of_z at c.apply_binary.ensures in
    let z : Some c.in_ok-value.value ≡ apply_binary c.args.operator c.args.kind c.in_ok-x.x c.in_ok-x.y = search rules in
    let p : (seen c.push.new.self, c.push.result) ≡ pushed c.in_ok-value.value (seen c.release.new.self) = simp to_z-of_z at c.push.ensures in
    p ∙ join_ok (seen c.args.self.now) _ _ e (seen c.release.new.self) c.release.ensures c.args.operator c.args.kind _ z (omega arith)
