use Rattle.std.proofs.Common.{◌≡◌, ◌≤◌, length, ◌∙◌, arith, w16, SFits, rules}
use Rattle.std.proofs.lemmas.Int.{to_z-of_z}
use Rattle.machine.specs.View.{view}
use Rattle.machine.specs.Acts.{pushed}
use Rattle.machine.specs.States.{settled}
use Rattle.machine.proofs.Tables.{load_main_none, load_main_some}
use Rattle.machine.proofs.state.Core.load_main.Goals as goal

pub returns-in-None : goal.returns-in-None
unfolding view
returns-in-None c =
    let l : c.args.self.now.depth ≤ length c.args.self.now.activations = omega arith in
    load_main_none _ _ _ _ _ c.requires l c.args.slot c.index-self-0.result c.in-None.ensures

pub returns-in-Some : goal.returns-in-Some
unfolding view
returns-in-Some c =
    let l : c.args.self.now.depth ≤ length c.args.self.now.activations = omega arith in
    let f : SFits w16 c.in-Some.value = search rules in
    let e : (view c.receive.new.self, c.receive.result) ≡ settled (pushed c.in-Some.value) c.args.site.node c.args.site.next (view c.args.self.now) = simp to_z-of_z at c.receive.ensures in
    e ∙ load_main_some _ _ _ _ _ c.requires l c.args.slot c.index-self-0.result c.in-Some.value c.in-Some.ensures
