use Rattle.std.proofs.Common.{◌≡◌, ◌-◌, List, ◌++◌, ℤ, pos, length, take, drop, replicate, ap, ◌∙◌, arith, length-drop, rules}
use Rattle.std.proofs.lemmas.List.{drop-replicate, take_all}
use Rattle.machine.specs.View.{seen}
use Rattle.machine.proofs.Cells.{counted}
use Rattle.machine.proofs.Passed.{args_are}
use Rattle.machine.proofs.state.Activation.arguments.Goals as goal

pub returns : goal.returns
returns c =
    let l : length c.args.self.now.cells ≡ 64 = search rules in
    let n = counted c.args.self.now l in
    let d = drop-replicate c.args.given 64 (pos 0) in
    let t : take (length c.operands-operands.result.now - (length c.operands-operands.result.now - c.args.given)) (drop (length c.operands-operands.result.now - c.args.given) c.operands-operands.result.now) ≡ drop (length c.operands-operands.result.now - c.args.given) c.operands-operands.result.now = take_all _ (drop (length c.operands-operands.result.now - c.args.given) c.operands-operands.result.now) (simp length-drop (omega arith)) in
    let a = args_are c.args.given (seen c.args.self.now).ops (omega arith) in
    ap (λ (z : List ℤ). c.copy_from_slice.new.self ++ z) d
    ∙ ap (λ (z : List ℤ). z ++ replicate (64 - c.args.given) (pos 0)) (c.copy_from_slice.ensures.after ∙ (t ∙ (ap (λ (z : List ℤ). drop (length z - c.args.given) z) c.operands-operands.ensures.are ∙ a)))
