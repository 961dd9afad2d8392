-- One step of the reader, at any number of levels.
use Rattle.std.proofs.Common.{◌≡◌, ℕ, zero, suc, ◌+◌, ◌-◌, ◌*◌, ◌<◌, ◌≤◌, min, Bool, true, false, cond, ltb, List, [], ◌∷◌, length, None, Option, refl, ap, ◌∙◌, arith, length-take}
use Rattle.std.proofs.lemmas.List.FromFn.{length-map-range_with_len}
use Rattle.std.proofs.lemmas.List.{get_or_past}
use Rattle.std.proofs.lemmas.Bool.{lt-ltb}
use Rattle.table.specs.Shapes.{shape_of}
use Rattle.table.specs.View.{View, node_at}
use Rattle.table.specs.Fields.{variables_of, kind_bit}
use Rattle.table.specs.declared.record.Function.{Function}
use Rattle.table.specs.declared.shape.Kind.{Kind}
use Rattle.table.specs.declared.shape.Shape.{Shape}
use Rattle.table.specs.declared.shape.Expression.{Expression}
use Rattle.table.specs.declared.shape.Condition.{Condition}
use Rattle.table.specs.declared.shape.Statement.{Statement}
use Rattle.language.specs.Tree.{Expr, Args, Stmt, more, next}
use Rattle.language.specs.Rules.{Env, parameter_kinds}
use Rattle.language.specs.Reader.{value_of, test_of, act_of, body_of, read_e_at, read_e, read_c_at, read_c, read_ss, read_s_at, read_s, read_b_at, read_b}
use Rattle.walk.specs.Bodies.{signature_of}
use Rattle.translate.specs.Source.{shape_at, args_from, Counts}

-- past the last byte every field is 0, and kind 0 is not listed
past : (v : View) (i : ℕ) → length v.bytes ≡ 3 + 6 * v.functions + 3 * v.nodes → v.nodes ≤ i → None ≡ shape_of (node_at v i)
unfolding shape_of
past v i l h =
    let a = get_or_past v.bytes (3 + 6 * v.functions + 3 * i) 0 (omega arith) in
    let b = get_or_past v.bytes (3 + 6 * v.functions + 3 * i + 1) 0 (omega arith) in
    let c = get_or_past v.bytes (3 + 6 * v.functions + 3 * i + 2) 0 (omega arith) in
    rw (a, b, c)

either : (b : Bool) (o : Option Shape) → None ≡ o → None ≡ cond b o None
either true o h = h
either false o h = refl

pub no_node : (v : View) (k i : ℕ) → length v.bytes ≡ 3 + 6 * v.functions + 3 * v.nodes → v.nodes ≤ i → None ≡ shape_at v k i
no_node v k i l h = either (ltb 0 k) (shape_of (node_at v i)) (past v i l h)

there : (v : View) (k i : ℕ) → shape_at v (suc k) i ≡ shape_of (node_at v i)
there v k i = ap (λ b. cond b (shape_of (node_at v i)) None) (lt-ltb 0 (suc k) (omega arith))

module _ (v : View) (e : Env) where
  pub expr_is : (k i : ℕ) (r : Option Expression) → r ≡ value_of (shape_at v k i) → read_e v e k i ≡ read_e_at e (read_e v e (k - 1)) i r
  expr_is zero i r h = rw h
  expr_is (suc k) i r h = let q : suc k - 1 ≡ k = omega arith in rw (h, there v k i, q)

  pub cond_is : (k i : ℕ) (r : Option Condition) → r ≡ test_of (shape_at v k i) → read_c v e k i ≡ read_c_at (read_e v e (k - 1)) (read_c v e (k - 1)) i r
  cond_is zero i r h = rw h
  cond_is (suc k) i r h = let q : suc k - 1 ≡ k = omega arith in rw (h, there v k i, q)

  pub stmt_is : (k i : ℕ) (r : Option Statement) → r ≡ act_of (shape_at v k i) → read_s v e k i ≡ read_s_at e (read_e v e (k - 1)) (read_c v e (k - 1)) (read_b v e (k - 1)) i r
  stmt_is zero i r h = rw h
  stmt_is (suc k) i r h = let q : suc k - 1 ≡ k = omega arith in rw (h, there v k i, q)

  pub block_is : (k i : ℕ) (r : Option ℕ) → r ≡ body_of (shape_at v k i) → read_b v e k i ≡ read_b_at (read_s v e (k - 1)) i r
  block_is zero i r h = rw h
  block_is (suc k) i r h = let q : suc k - 1 ≡ k = omega arith in rw (h, there v k i, q)

pub args_step : (one : ℕ → Expr × ℕ) (n j : ℕ) → 0 < n →
    args_from one n j ≡ (more (one j).0 (args_from one (n - 1) (one j).1).0, (args_from one (n - 1) (one j).1).1)
args_step one zero j h = absurd (omega arith)
args_step one (suc n) j h = let q : suc n - 1 ≡ n = omega arith in rw q

pub args-counted : (ks : List Kind) → Counts ks (length ks)
args-counted [] one j = refl
args-counted (k ∷ ks) one j = ap (λ (q : Args × ℕ). (more (one j).0 q.0, q.1)) (args-counted ks one (one j).1)

-- the parameters of a function's record are among its variables
pub parameters-many : (f : Function) → length (parameter_kinds (signature_of f)) ≡ min f.parameters f.variables
parameters-many f =
    length-take f.parameters (variables_of f) ∙ ap (min f.parameters) (length-map-range_with_len (kind_bit f.kinds) 0 f.variables)

pub stmts_step : (one : ℕ → Stmt × ℕ) (n j : ℕ) → 0 < n →
    read_ss one n j ≡ (next (one j).0 (read_ss one (n - 1) (one j).1).0, (read_ss one (n - 1) (one j).1).1)
stmts_step one zero j h = absurd (omega arith)
stmts_step one (suc n) j h = let q : suc n - 1 ≡ n = omega arith in rw q
