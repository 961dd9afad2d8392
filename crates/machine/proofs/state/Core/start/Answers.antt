use Rattle.std.proofs.Common.{◌≡◌, ◌<◌, ◌≤◌, Some, None, Err, length, ap, ◌∙◌, arith, rules}
use Rattle.machine.specs.View.{view}
use Rattle.machine.specs.States.{fetched, main_entry}
use Rattle.machine.specs.declared.plan.Cause.TheVariants.{BadCode}
use Rattle.machine.proofs.Tables.{first_none, first_step, later_step, main-opened, none_open}
use Rattle.machine.proofs.state.Core.start.Goals as goal

pub returns-then-self-gt0 : goal.returns-then-self-gt0
unfolding view
returns-then-self-gt0 c =
    (later_step c.args.code.now c.args.self.now.activations c.args.self.now.depth c.args.self.now.at c.if-self-gt0.true, c.if-self-gt0.true)

pub returns-in_err-found : goal.returns-in_err-found
unfolding view
returns-in_err-found c =
    let z = none_open c.args.self.now.activations c.args.self.now.depth (omega arith) in
    let e : None ≡ main_entry c.args.code.now = search rules in
    let r : c.from_residual.result ≡ Err BadCode = search rules in
    rw r (first_none c.args.code.now (view c.args.self.now) z e)

pub returns : goal.returns
unfolding view
returns c =
    let z = none_open c.args.self.now.activations c.args.self.now.depth (omega arith) in
    let l : 0 < length c.args.self.now.activations = omega arith in
    let e : Some c.in_ok-found.found ≡ main_entry c.args.code.now = search rules in
    let few : (c.in_ok-found.found.variables ≤ 32) × (c.in_ok-found.found.parameters ≡ 0) = search rules in
    let m = main-opened c.args.self.now.activations c.open.result c.from-self.result c.in_ok-found.found l c.open.ensures few.0 few.1 c.from-self.ensures in
    (ap (fetched c.args.code.now) m ∙ first_step c.args.code.now (view c.args.self.now) c.in_ok-found.found z e, omega arith)
