use Rattle.std.proofs.Common.{◌≤◌, ltb, length, set, ap, ◌∙◌, arith, length-set, w16, SFits, rules}
use Rattle.std.proofs.lemmas.Int.{to_z-of_z}
use Rattle.machine.specs.declared.state.Activation.{Activation}
use Rattle.machine.specs.View.{seen, view}
use Rattle.machine.proofs.Tables.{store_main_none, store_main_slot, store_main_there, any_default}
use Rattle.machine.proofs.state.Core.store_main.Goals as goal

pub returns-in_default : goal.returns-in_default
unfolding view
returns-in_default c =
    let l : c.args.self.now.depth ≤ length c.args.self.now.activations = omega arith in
    store_main_none _ _ _ _ _ c.requires l c.args.slot c.index-self-top.result c.index-self-top.result c.in_default.ensures

pub returns-then-not-has : goal.returns-then-not-has
unfolding view
returns-then-not-has c =
    let l : c.args.self.now.depth ≤ length c.args.self.now.activations = omega arith in
    store_main_slot _ _ _ _ _ c.requires l c.args.slot c.index-self-0.result c.index-self-top.result c.in-Some.value c.in-Some.ensures c.if-not-has.ensures

pub returns : goal.returns
unfolding view
returns c =
    let l : c.args.self.now.depth ≤ length c.args.self.now.activations = omega arith in
    let k : c.args.self.now.depth ≤ length (set c.args.self.now.activations 0 c.assign.new.self) = simp length-set (omega arith) in
    let f : SFits w16 c.in-Some.value = search rules in
    store_main_there _ _ _ _ _ c.requires l c.args.slot c.index-self-0-2.result c.index-self-top.result c.in-Some.value c.in-Some.ensures
    (c.if-not-has.ensures ∙ ap (λ (x : Activation). ltb c.args.slot (length (seen x).vars)) (any_default c.args.self.now.activations 0 c.index-self-0.result c.index-self-0-2.result (omega arith)))
    c.assign.new.self c.discard.new.self c.index-self-top-2.result c.discard.result (simp to_z-of_z at c.assign.ensures) k c.discard.ensures
