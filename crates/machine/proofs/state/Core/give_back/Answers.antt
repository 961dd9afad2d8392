use Rattle.std.proofs.Common.{◌-◌, ◌≤◌, ltb, length, ap, ◌∙◌, arith, w16, SFits, rules}
use Rattle.std.proofs.lemmas.Int.{to_z-of_z}
use Rattle.machine.specs.declared.state.Activation.{Activation}
use Rattle.machine.specs.View.{seen, view}
use Rattle.machine.specs.Acts.{size, first}
use Rattle.machine.proofs.Tables.{return-main, return_not, return_none, return_full, return_in, any_default}
use Rattle.machine.proofs.state.Core.give_back.Goals as goal

pub returns-then-top-eq0 : goal.returns-then-top-eq0
unfolding view
returns-then-top-eq0 c =
    return-main c.args.self.now.activations c.args.self.now.depth c.args.self.now.at c.args.node c.requires c.if-top-eq0.true

pub returns-then-not-self-top : goal.returns-then-not-self-top
unfolding view seen
returns-then-not-self-top c =
    let l : c.args.self.now.depth ≤ length c.args.self.now.activations = omega arith in
    return_not _ _ _ _ 0 c.requires l c.if-top-eq0.false c.index-self-top.result c.index-self-top.result c.if-not-self-top.true

pub returns-in_default : goal.returns-in_default
unfolding view seen
returns-in_default c =
    let l : c.args.self.now.depth ≤ length c.args.self.now.activations = omega arith in
    return_none _ _ _ _ 0 c.requires l c.if-top-eq0.false c.index-self-top-2.result c.index-self-top.result (ap (λ (x : Activation). x.gives) (any_default c.args.self.now.activations (c.args.self.now.depth - 1) c.index-self-top-2.result c.index-self-top.result (omega arith)) ∙ c.if-not-self-top.false) c.in_default.ensures

pub returns-then-not-free : goal.returns-then-not-free
unfolding view seen
returns-then-not-free c =
    let l : c.args.self.now.depth ≤ length c.args.self.now.activations = omega arith in
    return_full _ _ _ _ 0 c.requires l c.if-top-eq0.false c.index-self-top-2.result c.index-self-top-3.result (ap (λ (x : Activation). x.gives) (any_default c.args.self.now.activations (c.args.self.now.depth - 1) c.index-self-top-2.result c.index-self-top.result (omega arith)) ∙ c.if-not-self-top.false) c.in-Some.value c.in-Some.ensures c.if-not-free.ensures

pub returns : goal.returns
unfolding view seen
returns c =
    let l : c.args.self.now.depth ≤ length c.args.self.now.activations = omega arith in
    let f : SFits w16 c.in-Some.value = search rules in
    return_in _ _ _ _ 0 c.requires l c.if-top-eq0.false c.index-self-top-4.result c.index-self-top-5.result (ap (λ (x : Activation). x.gives) (any_default c.args.self.now.activations (c.args.self.now.depth - 1) c.index-self-top-4.result c.index-self-top.result (omega arith)) ∙ c.if-not-self-top.false) c.in-Some.value (c.in-Some.ensures ∙ ap (λ (x : Activation). first (seen x).ops) (any_default c.args.self.now.activations (c.args.self.now.depth - 1) c.index-self-top-2.result c.index-self-top-4.result (omega arith)))
    (c.if-not-free.ensures ∙ ap (λ (x : Activation). ltb (size (seen x)) 64) (any_default c.args.self.now.activations ((c.args.self.now.depth - 1) - 1) c.index-self-top-3.result c.index-self-top-5.result (omega arith))) c.push.new.self c.push.result (simp to_z-of_z at c.push.ensures)
