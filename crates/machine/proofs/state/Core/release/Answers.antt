use Rattle.std.proofs.Common.{◌≤◌, length, ◌∙◌, arith}
use Rattle.machine.specs.View.{view}
use Rattle.machine.specs.Acts.{dropped}
use Rattle.machine.proofs.Tables.{top-done, settled_none}
use Rattle.machine.proofs.state.Core.release.Goals as goal

pub returns-then-self-eq0 : goal.returns-then-self-eq0
unfolding view
returns-then-self-eq0 c = settled_none c.args.self.now.activations c.args.self.now.depth c.args.self.now.at c.args.site.node c.args.site.next dropped c.if-self-eq0.true

pub returns : goal.returns
unfolding view
returns c =
    let l : c.args.self.now.depth ≤ length c.args.self.now.activations = omega arith in
    c.conclude.ensures ∙ top-done _ c.args.self.now.depth (omega arith) l _ _ _ dropped _ c.discard-effect.new.self c.discard-effect.result c.discard-effect.ensures
