use Rattle.std.proofs.Common.{◌≤◌, length, ◌∙◌, arith}
use Rattle.machine.specs.View.{view}
use Rattle.machine.specs.Acts.{act_by}
use Rattle.machine.proofs.Tables.{top-done}
use Rattle.machine.proofs.state.Core.act.Goals as goal

pub returns : goal.returns
unfolding view
returns c =
    let l : c.args.self.now.depth ≤ length c.args.self.now.activations = omega arith in
    c.conclude.ensures ∙ top-done _ _ c.requires l _ _ _ (act_by c.args.instruction) _ c.act-effect.new.self c.act-effect.result c.act-effect.ensures
