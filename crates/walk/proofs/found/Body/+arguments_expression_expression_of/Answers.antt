use Rattle.std.proofs.Common.{◌≡◌, ℕ, ◌+◌, ◌<◌, drop, Some, None, Ok, Option, sym, ◌∙◌, arith, rules}
use Rattle.std.specs.List.{slice_get}
use Rattle.table.specs.Fields.{variables_of}
use Rattle.table.specs.Flow.{onward}
use Rattle.table.specs.declared.record.Function.{Function}
use Rattle.table.specs.declared.shape.Kind.{Kind}
use Rattle.language.specs.Rules.{parameter_kinds}
use Rattle.walk.specs.Bodies.{signature_of}
use Rattle.walk.specs.Reads.{seen, env, value_walk}
use Rattle.walk.specs.Walk.{args_from, added}
use Rattle.walk.specs.declared.found.Body.{Body}
use Rattle.walk.specs.declared.found.Size.{Size}
use Rattle.walk.proofs.Steps.{expr_after, args_step, args_end, nth-take}
use Rattle.walk.proofs.found.Body.+arguments_expression_expression_of.Goals as goal

-- one more argument of the kinds that the callee asks for
next_argument : (b : Body) (f : Function) (k n : ℕ) (q : Kind) (a : Option Size) (j : ℕ) → n < f.parameters →
    Some q ≡ slice_get (variables_of f) n →
    args_from (value_walk b k) (drop n (parameter_kinds (signature_of f))) n a j
    ≡ onward (value_walk b k j) (λ p. args_from (value_walk b k) (drop (n + 1) (parameter_kinds (signature_of f))) (n + 1) (added a n q p.0) p.1)
next_argument b f k n q a j l h =
    args_step (value_walk b k) (parameter_kinds (signature_of f)) n n q a j (nth-take f.parameters n (variables_of f) l ∙ sym h)

-- none is left where the callee has fewer variables than parameters
no_argument : (b : Body) (f : Function) (k n : ℕ) (a : Option Size) (j : ℕ) → n < f.parameters → None ≡ slice_get (variables_of f) n →
    args_from (value_walk b k) (drop n (parameter_kinds (signature_of f))) n a j ≡ Ok (a, j)
no_argument b f k n a j l h =
    args_end (value_walk b k) (parameter_kinds (signature_of f)) n n a j (nth-take f.parameters n (variables_of f) l ∙ sym h)

pub arguments-returns-in_err-argument-clause-is : goal.arguments-returns-in_err-argument-clause-is
arguments-returns-in_err-argument-clause-is t c =
    let h = next_argument c.args.self.now c.args.callee.now c.args.left c.loop-i.i c.in-Some.kind c.loop-i.taken c.loop-i.next (omega arith) c.in-Some.ensures in
    search rules

pub arguments-loop-i-preserved : goal.arguments-loop-i-preserved
arguments-loop-i-preserved t c =
    let h = next_argument c.args.self.now c.args.callee.now c.args.left c.loop-i.i c.in-Some.kind c.loop-i.taken c.loop-i.next (omega arith) c.in-Some.ensures in
    search rules

pub arguments-returns-in_default-clause-is : goal.arguments-returns-in_default-clause-is
arguments-returns-in_default-clause-is t c =
    let h = no_argument c.args.self.now c.args.callee.now c.args.left c.loop-i.i c.loop-i.taken c.loop-i.next (omega arith) c.in_default.ensures in
    sym h ∙ sym c.loop-i.invariant.0

pub expression-returns-in_err-shape : goal.expression-returns-in_err-shape
expression-returns-in_err-shape t c = search (rules, expr_after)

pub expression-returns-clause-is : goal.expression-returns-clause-is
expression-returns-clause-is t c =
    c.expression_of.ensures.is
    ∙ sym (expr_after (seen c.args.self.now) (env c.args.self.now) c.args.left c.args.at (Ok c.in_ok-shape.shape) c.in_ok-shape.ensures.is)
