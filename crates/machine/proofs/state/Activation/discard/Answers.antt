use Rattle.std.proofs.Common.{◌≡◌, Err, rules}
use Rattle.machine.specs.View.{seen}
use Rattle.machine.proofs.Operands.{off, drop_err, drop_ok}
use Rattle.machine.proofs.state.Activation.discard.Goals as goal

pub returns-in_err-pop : goal.returns-in_err-pop
returns-in_err-pop c =
    let r : c.from_residual.result ≡ Err c.in_err-pop.field-0.0 = search rules in
    rw r (drop_err (seen c.args.self.now) _ _ c.in_err-pop.ensures)

pub returns : goal.returns
returns c = drop_ok (seen c.args.self.now) _ _ (off (seen c.args.self.now) _ _ c.in_ok-pop.ensures)
