use Rattle.std.proofs.Common.{◌≤◌, length, ◌∙◌, arith, w16}
use Rattle.std.proofs.lemmas.Int.{to_z-of_z}
use Rattle.machine.specs.View.{view}
use Rattle.machine.specs.Acts.{pushed}
use Rattle.machine.proofs.Tables.{top-done, settled_none}
use Rattle.machine.proofs.state.Core.receive.Goals as goal

pub returns-then-self-eq0 : goal.returns-then-self-eq0
unfolding view
returns-then-self-eq0 c = settled_none c.args.self.now.activations c.args.self.now.depth c.args.self.now.at c.args.site.node c.args.site.next (pushed c.args.value) c.if-self-eq0.true

pub returns : goal.returns
unfolding view
returns c =
    let l : c.args.self.now.depth ≤ length c.args.self.now.activations = omega arith in
    c.conclude.ensures ∙ top-done _ c.args.self.now.depth (omega arith) l _ _ _ (pushed c.args.value) _ c.push-effect.new.self c.push-effect.result (simp (to_z-of_z w16 c.args.value c.ranges.value) at c.push-effect.ensures)
