use Rattle.std.proofs.Common.{◌≡◌, length, w16, rules}
use Rattle.std.proofs.lemmas.Int.{to_z-of_z}
use Rattle.machine.specs.View.{seen}
use Rattle.machine.proofs.Cells.{push_full, push_room}
use Rattle.machine.proofs.state.Activation.push.Goals as goal

pub returns-then-self-ge64 : goal.returns-then-self-ge64
returns-then-self-ge64 c =
    let l : length c.args.self.now.cells ≡ 64 = search rules in
    push_full c.args.self.now l c.args.value c.if-self-ge64.true

pub returns : goal.returns
unfolding seen
returns c =
    let l : length c.args.self.now.cells ≡ 64 = search rules in
    simp (to_z-of_z w16 c.args.value c.ranges.value) (push_room c.args.self.now l c.args.value c.if-self-ge64.false)
