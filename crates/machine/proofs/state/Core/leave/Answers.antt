use Rattle.std.proofs.Common.{◌-◌, ◌≤◌, length, ap, ◌∙◌, arith}
use Rattle.machine.specs.declared.state.Activation.{Activation}
use Rattle.machine.specs.View.{seen, view}
use Rattle.machine.proofs.Tables.{leave_main, leave_gives, leave_back, any_default}
use Rattle.machine.proofs.state.Core.leave.Goals as goal

pub returns-then-top-eq0 : goal.returns-then-top-eq0
unfolding view
returns-then-top-eq0 c =
    leave_main c.args.self.now.activations c.args.self.now.depth c.args.self.now.at c.args.node c.args.cause c.requires c.if-top-eq0.true

pub returns-then-self-top : goal.returns-then-self-top
unfolding view seen
returns-then-self-top c =
    let l : c.args.self.now.depth ≤ length c.args.self.now.activations = omega arith in
    leave_gives _ _ _ _ 0 c.requires l c.if-top-eq0.false c.index-self-top.result c.index-self-top.result c.args.cause c.if-self-top.true

pub returns : goal.returns
unfolding view seen
returns c =
    let l : c.args.self.now.depth ≤ length c.args.self.now.activations = omega arith in
    leave_back _ _ _ _ 0 c.requires l c.if-top-eq0.false c.index-self-top-2.result c.index-self-top.result c.args.cause
    (ap (λ (x : Activation). x.gives) (any_default c.args.self.now.activations (c.args.self.now.depth - 1) c.index-self-top-2.result c.index-self-top.result (omega arith)) ∙ c.if-self-top.false)
