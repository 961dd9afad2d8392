use Rattle.std.proofs.Common.{◌≡◌, Some, None, Err, ◌∙◌, w16, SFits, rules}
use Rattle.std.proofs.lemmas.Int.{to_z-of_z}
use Rattle.machine.specs.View.{seen}
use Rattle.machine.specs.Acts.{pushed}
use Rattle.machine.specs.States.{variable_at}
use Rattle.machine.specs.declared.plan.Cause.TheVariants.{BadCode}
use Rattle.machine.proofs.Operands.{load_none, load_some}
use Rattle.machine.proofs.state.Activation.load.Goals as goal

pub returns-in_err-value : goal.returns-in_err-value
returns-in_err-value c =
    let r : c.from_residual.result ≡ Err BadCode = search rules in
    let e : None ≡ variable_at (seen c.args.self.now).vars c.args.slot = search rules in
    rw r (load_none c.args.slot (seen c.args.self.now) e)

pub returns : goal.returns
returns c =
    let f : SFits w16 c.in_ok-value.value = search rules in
    let e : Some c.in_ok-value.value ≡ variable_at (seen c.args.self.now).vars c.args.slot = search rules in
    let p : (seen c.push.new.self, c.push.result) ≡ pushed c.in_ok-value.value (seen c.args.self.now) = simp to_z-of_z at c.push.ensures in
    p ∙ load_some c.args.slot (seen c.args.self.now) c.in_ok-value.value e
