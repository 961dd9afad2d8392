-- The walk over the nodes in preorder, by the levels of nesting that are left. Each rule is applied where it is
-- reached; a walk of a subtree answers what it found and the next node's place, or the first rule broken.
use Rattle.std.specs.Prelude.{◌≡◌, ℕ, zero, suc, ◌+◌, ◌<◌, max, Bool, true, false, cond, not, ◌&&◌, List, [], ◌∷◌, length, Some, None, Ok, Err, Option, Result, nat_lt}
use Rattle.std.specs.Option.{ok_or, unwrap_or}
use Rattle.table.specs.Flow.{onward}
use Rattle.table.specs.Shapes.{shape_of}
use Rattle.table.specs.Sorts.{expression_in, condition_in, statement_in, block_in}
use Rattle.table.specs.View.{View, node_at}
use Rattle.table.specs.Kinds.{operates}
use Rattle.table.specs.declared.shape.Kind.{Kind}
use Rattle.table.specs.declared.shape.Kind.TheVariants.{Int, Byte}
use Rattle.table.specs.declared.shape.Expression.{Expression}
use Rattle.table.specs.declared.shape.Expression.TheVariants.{Constant, Variable as Slot, Unary as OfOne, Binary as OfTwo, Call, Read}
use Rattle.table.specs.declared.shape.Condition.{Condition}
use Rattle.table.specs.declared.shape.Condition.TheVariants.{Compare, Not, Join, Holds}
use Rattle.table.specs.declared.shape.Statement.{Statement}
use Rattle.table.specs.declared.shape.Statement.TheVariants.{Skip, Assign, Perform, If, IfElse, Loop as Repeat, Break, Continue, Exit as Leave, Return, Write}
use Rattle.table.specs.declared.shape.Shape.{Shape}
use Rattle.table.specs.declared.sort.WrongSort.{WrongSort}
use Rattle.language.specs.Tree.{Signature}
use Rattle.language.specs.Measures.{format_kind, operand_kind, unary_kind, unary_words}
use Rattle.language.specs.Rules.{Env, slot_kind, called, parameter_kinds, is_open}
use Rattle.walk.specs.declared.fault.CheckFault.{CheckFault}
use Rattle.walk.specs.declared.fault.CheckFault.TheVariants.{NoNode, Nesting, Field, Sort, Variable, Child, Function, Loop, Exit}
use Rattle.walk.specs.declared.found.Found.{Found}
use Rattle.walk.specs.declared.found.Size.{Size}

abbrev pub Answer : Type 0 → Type 0
Answer A = Result A CheckFault

-- Arrival at node i with k levels left: there is such a node, a level is left, and its record is listed.
abbrev pub arrived : View → ℕ → ℕ → Answer Shape
arrived v k i =
    cond (nat_lt i v.nodes)
    (cond (nat_lt 0 k) (ok_or (shape_of (node_at v i)) (Field i)) (Err (Nesting i)))
    (Err (NoNode i))

-- It is of the sort that is asked for.
abbrev pub sorted_at : {A : Type 0} → ℕ → Result A WrongSort → Answer A
sorted_at i (Ok s) = Ok s
sorted_at i (Err e) = Err (Sort i)

-- what arrival found, taken for a sort by a conversion; a refusal is final
abbrev pub TakenFor : {A : Type 0} → (Shape → Result A WrongSort → Type 0) → ℕ → Answer Shape → Answer A → Type 0
TakenFor gives i (Err e) r = r ≡ Err e
TakenFor {A} gives i (Ok s) r = (w : Result A WrongSort) × gives s w × (r ≡ sorted_at i w)

abbrev pub as_value : ℕ → Shape → Answer Expression
as_value i s = sorted_at i (expression_in s)

abbrev pub as_test : ℕ → Shape → Answer Condition
as_test i s = sorted_at i (condition_in s)

abbrev pub as_act : ℕ → Shape → Answer Statement
as_act i s = sorted_at i (statement_in s)

abbrev pub as_block : ℕ → Shape → Answer ℕ
as_block i s = sorted_at i (block_in s)

-- Kinds.
abbrev pub is_int : Kind → Bool
is_int Int = true
is_int Byte = false

abbrev pub same_kind : Kind → Kind → Bool
same_kind Int k = is_int k
same_kind Byte k = not (is_int k)

-- Sizes.
abbrev pub size : ℕ → ℕ → Size
size h w = record { height = h; words = w }

abbrev pub sized : Kind → Size → Found
sized k s = record { kind = k; size = s }

abbrev pub found : Kind → ℕ → ℕ → Found
found k h w = sized k (size h w)

-- side by side: the larger height
abbrev pub beside : Size → Size → Size
beside a b = size (max a.height b.height) (a.words + b.words)

-- left and right operand: the right one stands on the left one's value; the operator adds a word
abbrev pub stacked : Found → Found → Size
stacked a b = size (max a.size.height (1 + b.size.height)) (a.size.words + b.size.words + 1)

-- the right operand's place and the operator's word can still be counted
abbrev pub CanStack : Found → Found → Type 0
CanStack a b = (b.size.height < 65535) × (a.size.words + b.size.words < 65535)

-- an expression's size with a word of the node above it
abbrev pub topped : Found → Size
topped a = size a.size.height (a.size.words + 1)

-- Arguments: the size of those so far, or none if some argument does not have its parameter's kind.
abbrev pub no_arguments : Option Size
no_arguments = Some (size 0 0)

-- argument n of kind k, behind the others
abbrev pub added : Option Size → ℕ → Kind → Found → Option Size
added None n k f = None
added (Some a) n k f = cond (same_kind k f.kind) (Some (size (max a.height (n + f.size.height)) (a.words + f.size.words))) None

abbrev pub needed : Option Size → Size
needed a = unwrap_or a (size 0 0)

-- arguments of these kinds from place j on, the first of them argument n; `one` walks one
abbrev pub args_from : (ℕ → Answer (Found × ℕ)) → List Kind → ℕ → Option Size → ℕ → Answer (Option Size × ℕ)
args_from one [] n a j = Ok (a, j)
args_from one (k ∷ ks) n a j = onward (one j) (λ p. args_from one ks (n + 1) (added a n k p.0) p.1)

-- all arguments of a call at node i have their parameters' kinds
abbrev pub fitting : ℕ → Option Size → Answer Size
fitting i a = ok_or a (Child i)

-- The function that a call at node i names.
abbrev pub called_at : (ℕ → Option Signature) → ℕ → ℕ → Answer Signature
called_at functions f i = ok_or (called functions f) (Function i)

abbrev pub with_result : ℕ → Signature → Answer Kind
with_result i g = ok_or g.result (Function i)

abbrev pub no_result : ℕ → Option Kind → Answer ℕ
no_result i None = Ok i
no_result i (Some k) = Err (Function i)

-- all children are walked before the kinds of any are judged
abbrev pub judged : {A : Type 0} → ℕ → Bool → A → Answer A
judged i b x = cond b (Ok x) (Err (Child i))

-- An expression of each shape at node i; `one` walks a child.
abbrev pub expr_at : Env → (ℕ → Answer (Found × ℕ)) → ℕ → Expression → Answer (Found × ℕ)
expr_at e one i (Constant k n) = Ok (found k 1 1, i + 1)
expr_at e one i (Slot s x) = onward (ok_or (slot_kind e.own e.main s x) (Variable i)) (λ k. Ok (found k 1 1, i + 1))
expr_at e one i (OfOne u) =
    onward (one (i + 1)) (λ p.
    judged i (same_kind (operand_kind u) p.0.kind) (found (unary_kind u) p.0.size.height (p.0.size.words + unary_words u), p.1))
expr_at e one i (OfTwo b) =
    onward (one (i + 1)) (λ p. onward (one p.1) (λ q.
    judged i (same_kind p.0.kind q.0.kind && operates b p.0.kind) (sized p.0.kind (stacked p.0 q.0), q.1)))
expr_at e one i (Call f) =
    onward (called_at e.functions f i) (λ g. onward (with_result i g) (λ k.
    onward (args_from one (parameter_kinds g) 0 no_arguments (i + 1)) (λ q.
    onward (fitting i q.0) (λ s. Ok (found k (max 1 s.height) (s.words + 1), q.1)))))
expr_at e one i (Read q) = Ok (found (format_kind q) 1 1, i + 1)

abbrev pub expr_from : View → Env → ℕ → ℕ → Answer (Found × ℕ)
expr_from v e zero i = onward (onward (arrived v 0 i) (as_value i)) (λ _. Err (Nesting i))
expr_from v e (suc k) i = onward (onward (arrived v (suc k) i) (as_value i)) (expr_at e (expr_from v e k) i)

-- A condition of each shape at node i; `value` walks an expression, `one` a condition.
abbrev pub cond_at : (ℕ → Answer (Found × ℕ)) → (ℕ → Answer (Size × ℕ)) → ℕ → Condition → Answer (Size × ℕ)
cond_at value one i (Compare c) =
    onward (value (i + 1)) (λ p. onward (value p.1) (λ q.
    judged i (same_kind p.0.kind q.0.kind) (stacked p.0 q.0, q.1)))
cond_at value one i Not = onward (one (i + 1)) (λ p. Ok (p.0, p.1))
cond_at value one i (Join j) = onward (one (i + 1)) (λ p. onward (one p.1) (λ q. Ok (beside p.0 q.0, q.1)))
cond_at value one i Holds = onward (value (i + 1)) (λ p. judged i (same_kind Byte p.0.kind) (topped p.0, p.1))

abbrev pub cond_from : View → Env → ℕ → ℕ → Answer (Size × ℕ)
cond_from v e zero i = onward (onward (arrived v 0 i) (as_test i)) (λ _. Err (Nesting i))
cond_from v e (suc k) i = onward (onward (arrived v (suc k) i) (as_test i)) (cond_at (expr_from v e k) (cond_from v e k) i)

-- n statements from place j on; `one` walks one
abbrev pub items_from : (ℕ → Answer (Size × ℕ)) → ℕ → Size → ℕ → Answer (Size × ℕ)
items_from one zero a j = Ok (a, j)
items_from one (suc n) a j = onward (one j) (λ p. items_from one n (beside a p.0) p.1)

-- a loop at node i among the open loops ns: there is place for one more
abbrev pub opens : List ℕ → ℕ → Answer ℕ
opens ns i = cond (nat_lt (length ns) 16) (Ok i) (Err (Loop i))

-- a break or continue at node i names an open loop
abbrev pub leaves : List ℕ → ℕ → ℕ → Answer (Size × ℕ)
leaves ns m i = cond (is_open m ns) (Ok (size 0 1, i + 1)) (Err (Loop i))

abbrev pub exits : Option Kind → ℕ → Answer (Size × ℕ)
exits None i = Ok (size 0 1, i + 1)
exits (Some k) i = Err (Exit i)

-- A statement of each shape at node i among the open loops ns; `value`, `test` and `body` walk an expression, a
-- condition and a block.
abbrev pub stmt_at : Env → (ℕ → Answer (Found × ℕ)) → (ℕ → Answer (Size × ℕ)) → (List ℕ → ℕ → Answer (Size × ℕ)) → List ℕ → ℕ → Statement → Answer (Size × ℕ)
stmt_at e value test body ns i Skip = Ok (size 0 0, i + 1)
stmt_at e value test body ns i (Assign s x) =
    onward (ok_or (slot_kind e.own e.main s x) (Variable i)) (λ k. onward (value (i + 1)) (λ p.
    judged i (same_kind k p.0.kind) (topped p.0, p.1)))
stmt_at e value test body ns i (Perform f) =
    onward (called_at e.functions f i) (λ g. onward (no_result i g.result) (λ _.
    onward (args_from value (parameter_kinds g) 0 no_arguments (i + 1)) (λ q.
    onward (fitting i q.0) (λ s. Ok (size s.height (s.words + 1), q.1)))))
stmt_at e value test body ns i If =
    onward (test (i + 1)) (λ p. onward (body ns p.1) (λ q. Ok (beside p.0 q.0, q.1)))
stmt_at e value test body ns i IfElse =
    onward (test (i + 1)) (λ p. onward (body ns p.1) (λ q. onward (body ns q.1) (λ r.
    Ok (size (max p.0.height (max q.0.height r.0.height)) (p.0.words + q.0.words + r.0.words + 1), r.1))))
stmt_at e value test body ns i (Repeat m) =
    onward (opens ns i) (λ _. onward (body (m ∷ ns) (i + 1)) (λ p. Ok (size p.0.height (p.0.words + 1), p.1)))
stmt_at e value test body ns i (Break m) = leaves ns m i
stmt_at e value test body ns i (Continue m) = leaves ns m i
stmt_at e value test body ns i Leave = exits e.own.result i
stmt_at e value test body ns i Return =
    onward (ok_or e.own.result (Exit i)) (λ k. onward (value (i + 1)) (λ p.
    judged i (same_kind k p.0.kind) (topped p.0, p.1)))
stmt_at e value test body ns i (Write q) =
    onward (value (i + 1)) (λ p. judged i (same_kind (format_kind q) p.0.kind) (topped p.0, p.1))

-- a statement and a block at node i with k levels left, among the open loops ns
abbrev mutual
  pub stmt_from : View → Env → ℕ → List ℕ → ℕ → Answer (Size × ℕ)
  stmt_from v e zero ns i = onward (onward (arrived v 0 i) (as_act i)) (λ _. Err (Nesting i))
  stmt_from v e (suc k) ns i =
      onward (onward (arrived v (suc k) i) (as_act i)) (stmt_at e (expr_from v e k) (cond_from v e k) (block_from v e k) ns i)

  pub block_from : View → Env → ℕ → List ℕ → ℕ → Answer (Size × ℕ)
  block_from v e zero ns i = onward (onward (arrived v 0 i) (as_block i)) (λ _. Err (Nesting i))
  block_from v e (suc k) ns i =
      onward (onward (arrived v (suc k) i) (as_block i)) (λ n. items_from (stmt_from v e k ns) n (size 0 0) (i + 1))
