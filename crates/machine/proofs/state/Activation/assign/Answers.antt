use Rattle.std.proofs.Common.{◌≡◌, length, w16, rules}
use Rattle.std.proofs.lemmas.Int.{to_z-of_z}
use Rattle.machine.specs.View.{seen}
use Rattle.machine.proofs.Cells.{set_var, set_none}
use Rattle.machine.proofs.state.Activation.assign.Goals as goal

pub returns-then-slot-self : goal.returns-then-slot-self
unfolding seen
returns-then-slot-self c =
    let l : length c.args.self.now.cells ≡ 64 = search rules in
    simp (to_z-of_z w16 c.args.value c.ranges.value) (set_var c.args.self.now l c.args.slot c.args.value c.if-slot-self.true)

pub returns-else-slot-self : goal.returns-else-slot-self
returns-else-slot-self c =
    let l : length c.args.self.now.cells ≡ 64 = search rules in
    set_none c.args.self.now l c.args.slot c.args.value c.if-slot-self.false
