use Rattle.std.proofs.Common.{◌≡◌, ℤ, Some, None, Option, Err, length, arith, w16, SFits, rules}
use Rattle.std.proofs.lemmas.Int.{to_z-of_z}
use Rattle.machine.specs.View.{seen}
use Rattle.machine.specs.Values.{compared}
use Rattle.machine.specs.Acts.{last_two}
use Rattle.machine.specs.declared.plan.Cause.TheVariants.{BadCode}
use Rattle.machine.proofs.Cells.{counted}
use Rattle.machine.proofs.Operands.{two_counted, branch_few, branch_ok}
use Rattle.machine.proofs.state.Activation.branch.Goals as goal

pub returns-in_err-x : goal.returns-in_err-x
returns-in_err-x c =
    let r : c.from_residual.result ≡ Err BadCode = search rules in
    let e : ◌≡◌ {A = Option (ℤ × ℤ)} None (last_two (seen c.args.self.now).ops) = search rules in
    rw r (branch_few (seen c.args.self.now) c.args.comparison c.args.kind c.args.sense c.args.target e)

pub release-requires : goal.release-requires
release-requires c =
    let l : length c.args.self.now.cells ≡ 64 = search rules in
    let n = counted c.args.self.now l in
    let e : Some (c.in_ok-x.x, c.in_ok-x.y) ≡ last_two (seen c.args.self.now).ops = search rules in
    let t = two_counted _ _ _ e in omega arith

pub returns : goal.returns
returns c =
    let e : Some (c.in_ok-x.x, c.in_ok-x.y) ≡ last_two (seen c.args.self.now).ops = search rules in
    let f : SFits w16 c.in_ok-x.x = search rules in
    let g : SFits w16 c.in_ok-x.y = search rules in
    let b : c.compare.result ≡ compared c.args.comparison c.args.kind c.in_ok-x.x c.in_ok-x.y = simp to_z-of_z at c.compare.ensures in
    rw (c.jump_if.ensures, b) (branch_ok (seen c.args.self.now) c.in_ok-x.x c.in_ok-x.y e (seen c.release.new.self) c.release.ensures c.args.comparison c.args.kind c.args.sense c.args.target)
