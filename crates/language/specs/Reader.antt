-- The tree that stands at a place, read off the nodes. Where a node does not fit, something harmless is read.
use Rattle.std.specs.Prelude.{ℕ, zero, suc, ◌+◌, List, [], ◌∷◌, Some, None, Option}
use Rattle.std.specs.Option.{unwrap_or}
use Rattle.table.specs.Shapes.{shape_of}
use Rattle.table.specs.View.{View, node_at}
use Rattle.table.specs.declared.shape.Kind.{Kind}
use Rattle.table.specs.declared.shape.Kind.TheVariants.{Int}
use Rattle.table.specs.declared.shape.Format.TheVariants.{Char}
use Rattle.table.specs.declared.shape.Expression.{Expression}
use Rattle.table.specs.declared.shape.Expression.TheVariants.{Constant, Variable, Unary as OfOne, Binary as OfTwo, Call, Read}
use Rattle.table.specs.declared.shape.Condition.{Condition}
use Rattle.table.specs.declared.shape.Condition.TheVariants.{Compare, Not, Join, Holds}
use Rattle.table.specs.declared.shape.Statement.{Statement}
use Rattle.table.specs.declared.shape.Statement.TheVariants.{Skip, Assign, Perform, If, IfElse, Loop, Break, Continue, Exit, Return, Write}
use Rattle.table.specs.declared.shape.Shape.{Shape}
use Rattle.table.specs.declared.shape.Shape.TheVariants.{Expression as Value, Condition as Test, Statement as Act, Block as Body}
use Rattle.language.specs.Tree.{Expr, Args, Cond, Stmt, Block, Stmts, Signature, constant, variable, unary, binary, call, read, none, more, compare, negate, join, holds, skip, assign, perform, if, if_else, loop, break, continue, exit, return, write, block, done, next}
use Rattle.language.specs.Measures.{kind_of}
use Rattle.language.specs.Rules.{Env, slot_kind, called, parameter_kinds}

-- what a node is, by its sort
abbrev pub value_of : Option Shape → Option Expression
value_of None = None
value_of (Some (Value s)) = Some s
value_of (Some (Test s)) = None
value_of (Some (Act s)) = None
value_of (Some (Body n)) = None

abbrev pub test_of : Option Shape → Option Condition
test_of None = None
test_of (Some (Value s)) = None
test_of (Some (Test s)) = Some s
test_of (Some (Act s)) = None
test_of (Some (Body n)) = None

abbrev pub act_of : Option Shape → Option Statement
act_of None = None
act_of (Some (Value s)) = None
act_of (Some (Test s)) = None
act_of (Some (Act s)) = Some s
act_of (Some (Body n)) = None

abbrev pub body_of : Option Shape → Option ℕ
body_of None = None
body_of (Some (Value s)) = None
body_of (Some (Test s)) = None
body_of (Some (Act s)) = None
body_of (Some (Body n)) = Some n

-- the function that a call names, its result and the kinds of its parameters
abbrev pub result_or : Option Signature → Kind
result_or None = Int
result_or (Some g) = unwrap_or g.result Int

abbrev pub kinds_or : Option Signature → List Kind
kinds_or None = []
kinds_or (Some g) = parameter_kinds g

-- arguments, one for each kind, from place j on; `one` reads one
abbrev pub read_a : (ℕ → Expr × ℕ) → List Kind → ℕ → Args × ℕ
read_a one [] j = (none, j)
read_a one (k ∷ ks) j = let p = one j in let q = read_a one ks p.1 in (more p.0 q.0, q.1)

abbrev pub read_e_at : Env → (ℕ → Expr × ℕ) → ℕ → Option Expression → Expr × ℕ
read_e_at e one i None = (read i Char, i)
read_e_at e one i (Some (Constant k n)) = (constant i k n, i + 1)
read_e_at e one i (Some (Variable s x)) = (variable i s x (unwrap_or (slot_kind e.own e.main s x) Int), i + 1)
read_e_at e one i (Some (OfOne u)) = let p = one (i + 1) in (unary i u p.0, p.1)
read_e_at e one i (Some (OfTwo b)) = let p = one (i + 1) in let q = one p.1 in (binary i b (kind_of p.0) p.0 q.0, q.1)
read_e_at e one i (Some (Call f)) =
    let q = read_a one (kinds_or (called e.functions f)) (i + 1) in (call i f (result_or (called e.functions f)) q.0, q.1)
read_e_at e one i (Some (Read q)) = (read i q, i + 1)

-- the expression at node i, of at most k levels
abbrev pub read_e : View → Env → ℕ → ℕ → Expr × ℕ
read_e v e zero i = (read i Char, i)
read_e v e (suc k) i = read_e_at e (read_e v e k) i (value_of (shape_of (node_at v i)))

abbrev pub read_c_at : (ℕ → Expr × ℕ) → (ℕ → Cond × ℕ) → ℕ → Option Condition → Cond × ℕ
read_c_at value one i None = (holds i (read i Char), i)
read_c_at value one i (Some (Compare c)) =
    let p = value (i + 1) in let q = value p.1 in (compare i c (kind_of p.0) p.0 q.0, q.1)
read_c_at value one i (Some Not) = let p = one (i + 1) in (negate i p.0, p.1)
read_c_at value one i (Some (Join j)) = let p = one (i + 1) in let q = one p.1 in (join i j p.0 q.0, q.1)
read_c_at value one i (Some Holds) = let p = value (i + 1) in (holds i p.0, p.1)

abbrev pub read_c : View → Env → ℕ → ℕ → Cond × ℕ
read_c v e zero i = (holds i (read i Char), i)
read_c v e (suc k) i = read_c_at (read_e v e k) (read_c v e k) i (test_of (shape_of (node_at v i)))

-- n statements from place j on; `one` reads one
abbrev pub read_ss : (ℕ → Stmt × ℕ) → ℕ → ℕ → Stmts × ℕ
read_ss one zero j = (done, j)
read_ss one (suc n) j = let p = one j in let q = read_ss one n p.1 in (next p.0 q.0, q.1)

abbrev pub read_s_at : Env → (ℕ → Expr × ℕ) → (ℕ → Cond × ℕ) → (ℕ → Block × ℕ) → ℕ → Option Statement → Stmt × ℕ
read_s_at e value test body i None = (skip i, i)
read_s_at e value test body i (Some Skip) = (skip i, i + 1)
read_s_at e value test body i (Some (Assign s x)) =
    let p = value (i + 1) in (assign i s x (unwrap_or (slot_kind e.own e.main s x) Int) p.0, p.1)
read_s_at e value test body i (Some (Perform f)) =
    let q = read_a value (kinds_or (called e.functions f)) (i + 1) in (perform i f q.0, q.1)
read_s_at e value test body i (Some If) = let p = test (i + 1) in let q = body p.1 in (if i p.0 q.0, q.1)
read_s_at e value test body i (Some IfElse) =
    let p = test (i + 1) in let q = body p.1 in let r = body q.1 in (if_else i p.0 q.0 r.0, r.1)
read_s_at e value test body i (Some (Loop m)) = let p = body (i + 1) in (loop i m p.0, p.1)
read_s_at e value test body i (Some (Break m)) = (break i m, i + 1)
read_s_at e value test body i (Some (Continue m)) = (continue i m, i + 1)
read_s_at e value test body i (Some Exit) = (exit i, i + 1)
read_s_at e value test body i (Some Return) = let p = value (i + 1) in (return i p.0, p.1)
read_s_at e value test body i (Some (Write q)) = let p = value (i + 1) in (write i q p.0, p.1)

abbrev pub read_b_at : (ℕ → Stmt × ℕ) → ℕ → Option ℕ → Block × ℕ
read_b_at one i None = (block i done, i)
read_b_at one i (Some n) = let p = read_ss one n (i + 1) in (block i p.0, p.1)

abbrev mutual
  pub read_s : View → Env → ℕ → ℕ → Stmt × ℕ
  read_s v e zero i = (skip i, i)
  read_s v e (suc k) i = read_s_at e (read_e v e k) (read_c v e k) (read_b v e k) i (act_of (shape_of (node_at v i)))

  pub read_b : View → Env → ℕ → ℕ → Block × ℕ
  read_b v e zero i = (block i done, i)
  read_b v e (suc k) i = read_b_at (read_s v e k) i (body_of (shape_of (node_at v i)))
