-- What instructions do that concern one activation alone.
use Rattle.std.specs.Prelude.{ℕ, ◌+◌, Bool, true, false, cond, List, [], ◌∷◌, length, ℤ, pos, Some, None, Ok, Err, Option, Result, nat_lt, slice_index_or, slice_set}
use Rattle.table.specs.declared.shape.Kind.{Kind}
use Rattle.table.specs.declared.shape.Scope.TheVariants.{Own, Main}
use Rattle.table.specs.declared.shape.Unary.{Unary}
use Rattle.table.specs.declared.shape.Unary.TheVariants.{Minus as Negate, ByteNot as Invert, Shrink as Narrow}
use Rattle.table.specs.declared.shape.Binary.{Binary}
use Rattle.table.specs.declared.shape.Comparison.{Comparison}
use Rattle.number.specs.Number.{int, folded}
use Rattle.code.specs.declared.instruction.Instruction.{Instruction}
use Rattle.code.specs.declared.instruction.Instruction.TheVariants.{Constant, Variable, Minus, ByteNot, Binary as OfTwo, Call, Shrink, Read, Compare, Holds, Assign, Perform, Jump as Goto, Exit, Return, Close, Write}
use Rattle.machine.specs.declared.plan.Cause.{Cause}
use Rattle.machine.specs.declared.plan.Cause.TheVariants.{BadCode, ZeroDivisor}
use Rattle.machine.specs.View.{Act}
use Rattle.machine.specs.Values.{apply_unary, apply_binary, compared, is_true}

abbrev pub with_ops : Act → List ℤ → Act
with_ops a s = record { vars = a.vars; ops = s; gives = a.gives; back = a.back }

abbrev pub with_vars : Act → List ℤ → Act
with_vars a v = record { vars = v; ops = a.ops; gives = a.gives; back = a.back }

-- where a machine goes on after an act: at the address that it tells, if any, else behind the word
abbrev pub after : Option ℕ → ℕ → ℕ
after None next = next
after (Some t) next = t

-- how many cells an activation uses, of 64
abbrev pub size : Act → ℕ
size a = length a.vars + length a.ops

-- the last operand, if there is one
abbrev pub first : List ℤ → Option ℤ
first [] = None
first (v ∷ vs) = Some v

-- the last two, in the order in which they were pushed, if there are two
abbrev pub last_two : List ℤ → Option (ℤ × ℤ)
last_two [] = None
last_two (y ∷ []) = None
last_two (y ∷ x ∷ s) = Some (x, y)

-- the last operand, taken off
abbrev pub taking_off : Act → List ℤ → Act × Result ℤ Cause
taking_off a [] = (a, Err BadCode)
taking_off a (x ∷ s) = (with_ops a s, Ok x)

abbrev pub taken_off : Act → Act × Result ℤ Cause
taken_off a = taking_off a a.ops

-- An act with the last operand, or the last two; bad code where they are missing, and nothing changes then.
abbrev pub with_one : Act → (ℤ → List ℤ → Act × Result (Option ℕ) Cause) → List ℤ → Act × Result (Option ℕ) Cause
with_one a f [] = (a, Err BadCode)
with_one a f (x ∷ s) = f x s

abbrev pub with_two : Act → (ℤ → ℤ → List ℤ → Act × Result (Option ℕ) Cause) → List ℤ → Act × Result (Option ℕ) Cause
with_two a f [] = (a, Err BadCode)
with_two a f (y ∷ []) = (a, Err BadCode)
with_two a f (y ∷ x ∷ s) = f x y s

-- one operand more, if there is a cell for it
unfoldable pub pushed : ℤ → Act → Act × Result (Option ℕ) Cause
pushed v a = cond (nat_lt (size a) 64) (with_ops a (v ∷ a.ops), Ok None) (a, Err BadCode)

-- a variable's value becomes an operand
unfoldable pub loaded : ℕ → Act → Act × Result (Option ℕ) Cause
loaded i a = cond (nat_lt i (length a.vars)) (pushed (slice_index_or a.vars i (pos 0)) a) (a, Err BadCode)

-- the last operand becomes a variable's value
abbrev pub storing : ℕ → Act → ℤ → List ℤ → Act × Result (Option ℕ) Cause
storing i a v s = cond (nat_lt i (length a.vars)) (with_vars (with_ops a s) (slice_set a.vars i v), Ok None) (a, Err BadCode)

unfoldable pub stored : ℕ → Act → Act × Result (Option ℕ) Cause
stored i a = with_one a (storing i a) a.ops

-- the last operand goes
unfoldable pub dropped : Act → Act × Result (Option ℕ) Cause
dropped a = with_one a (λ x s. (with_ops a s, Ok None)) a.ops

-- an operator of one operand, or of two
unfoldable pub changed : Unary → Act → Act × Result (Option ℕ) Cause
changed o a = with_one a (λ x s. (with_ops a (apply_unary o x ∷ s), Ok None)) a.ops

abbrev pub resulting : Act → List ℤ → Option ℤ → Act × Result (Option ℕ) Cause
resulting a s None = (a, Err ZeroDivisor)
resulting a s (Some v) = (with_ops a (v ∷ s), Ok None)

unfoldable pub joined : Binary → Kind → Act → Act × Result (Option ℕ) Cause
joined o k a = with_two a (λ x y s. resulting a s (apply_binary o k x y)) a.ops

-- a jump that is made where the truth of a condition is the sense asked for
abbrev pub jumping : Bool → ℕ → Bool → Option ℕ
jumping true t truth = cond truth (Some t) None
jumping false t truth = cond truth None (Some t)

unfoldable pub branched : Comparison → Kind → Bool → ℕ → Act → Act × Result (Option ℕ) Cause
branched o k sense t a = with_two a (λ x y s. (with_ops a s, Ok (jumping sense t (compared o k x y)))) a.ops

unfoldable pub tested : Bool → ℕ → Act → Act × Result (Option ℕ) Cause
tested sense t a = with_one a (λ x s. (with_ops a s, Ok (jumping sense t (is_true x)))) a.ops

-- The instructions that concern one activation; the others are no act of this sort.
abbrev pub act_by : Instruction → Act → Act × Result (Option ℕ) Cause
act_by (Constant k v) a = pushed (folded int (pos v)) a
act_by (Variable Own i) a = loaded i a
act_by (Variable Main i) a = (a, Err BadCode)
act_by Minus a = changed Negate a
act_by ByteNot a = changed Invert a
act_by (OfTwo o k) a = joined o k a
act_by (Call f) a = (a, Err BadCode)
act_by Shrink a = changed Narrow a
act_by (Read q) a = (a, Err BadCode)
act_by (Compare o k sense t) a = branched o k sense t a
act_by (Holds sense t) a = tested sense t a
act_by (Assign Own i) a = stored i a
act_by (Assign Main i) a = (a, Err BadCode)
act_by (Perform f) a = (a, Err BadCode)
act_by (Goto j t) a = (a, Ok (Some t))
act_by Exit a = (a, Err BadCode)
act_by Return a = (a, Err BadCode)
act_by Close a = (a, Err BadCode)
act_by (Write q) a = (a, Err BadCode)
