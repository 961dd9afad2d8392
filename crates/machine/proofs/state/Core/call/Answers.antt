use Rattle.std.proofs.Common.{◌≡◌, ℕ, ◌+◌, ◌-◌, ◌<◌, ◌≤◌, ◌++◌, length, get_or, drop, set, replicate, pos, ap, ◌∙◌, arith, length-set}
use Rattle.std.proofs.lemmas.List.{length-reverse}
use Rattle.machine.specs.declared.state.Activation.{Activation}
use Rattle.machine.specs.View.{seen, view, state, tops}
use Rattle.machine.specs.Acts.{with_ops}
use Rattle.machine.specs.States.{args, fresh}
use Rattle.machine.specs.declared.plan.Plan.TheVariants.{Went}
use Rattle.machine.proofs.Passed.{length-args}
use Rattle.machine.proofs.Tables.{call_none, call-few, call-deep, call_in, fresh_is, any_default}
use Rattle.machine.proofs.state.Core.call.Goals as goal

pub returns-in_default : goal.returns-in_default
unfolding view
returns-in_default c =
    call_none c.args.code.now c.args.function c.args.site.node c.args.site.next (view c.args.self.now) c.in_default.ensures.is

pub returns-then-operands-given : goal.returns-then-operands-given
unfolding view
returns-then-operands-given c =
    let l : c.args.self.now.depth ≤ length c.args.self.now.activations = omega arith in
    let o : length c.operands.result.now ≡ length (seen (get_or c.args.self.now.activations (c.args.self.now.depth - 1) c.index-self-depth.result)).ops = ap length c.operands.ensures.are ∙ length-reverse _ in
    call-few _ _ _ _ _ c.requires l c.args.code.now c.args.function c.in-Some.found c.in-Some.ensures.is c.index-self-depth.result (omega (arith, o, c.from-given.ensures))

pub returns-then-depth-ge32 : goal.returns-then-depth-ge32
unfolding view
returns-then-depth-ge32 c =
    let l : c.args.self.now.depth ≤ length c.args.self.now.activations = omega arith in
    let o : length c.operands.result.now ≡ length (seen (get_or c.args.self.now.activations (c.args.self.now.depth - 1) c.index-self-depth.result)).ops = ap length c.operands.ensures.are ∙ length-reverse _ in
    call-deep _ _ _ _ _ c.requires l c.args.code.now c.args.function c.in-Some.found c.in-Some.ensures.is c.index-self-depth.result (omega (arith, o, c.from-given.ensures)) c.if-depth-ge32.true

pub returns : goal.returns
unfolding view
returns c =
    let l : c.args.self.now.depth ≤ length c.args.self.now.activations = omega arith in
    let o : length c.operands.result.now ≡ length (seen (get_or c.args.self.now.activations (c.args.self.now.depth - 1) c.index-self-depth-3.result)).ops = (ap length c.operands.ensures.are ∙ length-reverse _) ∙ ap (λ (x : Activation). length (seen x).ops) (any_default c.args.self.now.activations (c.args.self.now.depth - 1) c.index-self-depth.result c.index-self-depth-3.result (omega arith)) in
    let k : c.in-Some.found.parameters ≤ length (seen (get_or c.args.self.now.activations (c.args.self.now.depth - 1) c.index-self-depth-3.result)).ops = omega (arith, o, c.from-given.ensures) in
    let w : c.args.self.now.depth < length (set c.args.self.now.activations (c.args.self.now.depth - 1) c.release.new.self) = simp length-set (omega arith) in
    let q : seen c.release.new.self ≡ with_ops (seen (get_or c.args.self.now.activations (c.args.self.now.depth - 1) c.index-self-depth-3.result)) (drop c.in-Some.found.parameters (seen (get_or c.args.self.now.activations (c.args.self.now.depth - 1) c.index-self-depth-3.result)).ops) = c.release.ensures ∙ ap (λ (j : ℕ). with_ops (seen (get_or c.args.self.now.activations (c.args.self.now.depth - 1) c.index-self-depth-3.result)) (drop j (seen (get_or c.args.self.now.activations (c.args.self.now.depth - 1) c.index-self-depth-3.result)).ops)) c.from-given.ensures in
    let e : c.arguments-cells.result ≡ args c.in-Some.found.parameters (seen (get_or c.args.self.now.activations (c.args.self.now.depth - 1) c.index-self-depth-3.result)).ops ++ replicate (64 - c.in-Some.found.parameters) (pos 0) =
    c.arguments-cells.ensures
    ∙ (ap (λ (x : Activation). args c.from-given.result (seen x).ops ++ replicate (64 - c.from-given.result) (pos 0)) (any_default c.args.self.now.activations (c.args.self.now.depth - 1) c.index-self-depth-2.result c.index-self-depth-3.result (omega arith)) ∙ ap (λ (j : ℕ). args j (seen (get_or c.args.self.now.activations (c.args.self.now.depth - 1) c.index-self-depth-3.result)).ops ++ replicate (64 - j) (pos 0)) c.from-given.ensures) in
    let r : seen c.open.result ≡ fresh c.in-Some.found c.args.site.next (args c.in-Some.found.parameters (seen (get_or c.args.self.now.activations (c.args.self.now.depth - 1) c.index-self-depth-3.result)).ops) =
    c.open.ensures ∙ fresh_is c.in-Some.found c.args.site.next (args c.in-Some.found.parameters (seen (get_or c.args.self.now.activations (c.args.self.now.depth - 1) c.index-self-depth-3.result)).ops) c.arguments-cells.result e (length-args c.in-Some.found.parameters (seen (get_or c.args.self.now.activations (c.args.self.now.depth - 1) c.index-self-depth-3.result)).ops k) c.in-Some.ensures.few.1 c.in-Some.ensures.few.0 in
    ap (λ (a : ℕ). (state (tops (set (set c.args.self.now.activations (c.args.self.now.depth - 1) c.release.new.self) c.args.self.now.depth c.open.result) (c.args.self.now.depth + 1)) a, Went)) c.from-self.ensures
    ∙ call_in _ _ _ _ _ c.requires l c.args.code.now c.args.function c.in-Some.found c.in-Some.ensures.is c.index-self-depth-3.result k (omega arith) c.release.new.self c.open.result q r w
