-- A well-formed tree that stands at a place is the tree that is read there.
use Rattle.std.proofs.Common.{◌≡◌, ℕ, zero, suc, ◌+◌, ◌-◌, ◌<◌, ◌≤◌, List, [], ◌∷◌, ◌++◌, length, Some, unwrap_or, sym, ap, ◌∙◌, arith, length-append}
use Rattle.table.specs.View.{View}
use Rattle.table.specs.declared.shape.Kind.{Kind}
use Rattle.table.specs.declared.shape.Kind.TheVariants.{Int}
use Rattle.table.specs.declared.shape.Expression.{Expression}
use Rattle.table.specs.declared.shape.Expression.TheVariants.{Constant, Variable, Unary as OfOne, Binary as OfTwo, Call, Read}
use Rattle.table.specs.declared.shape.Condition.{Condition}
use Rattle.table.specs.declared.shape.Condition.TheVariants.{Compare, Not, Join, Holds}
use Rattle.table.specs.declared.shape.Statement.{Statement}
use Rattle.table.specs.declared.shape.Statement.TheVariants.{Skip, Assign, Perform, If, IfElse, Loop, Break, Continue, Exit, Return, Write}
use Rattle.table.specs.declared.shape.Shape.TheVariants.{Expression as Value, Condition as Test, Statement as Act, Block as Body}
use Rattle.language.specs.Tree.{Expr, Args, Cond, Stmt, Block, Stmts, constant, variable, unary, binary, call, read, none, more, compare, negate, join, holds, skip, assign, perform, if, if_else, loop, break, continue, exit, return, write, block, done, next}
use Rattle.language.specs.Listing.{Placed, count, list_e, list_a, list_c, list_s, list_b, list_ss}
use Rattle.language.specs.Measures.{kind_of, levels_e, levels_a, levels_c, levels_s, levels_b, levels_ss}
use Rattle.language.specs.Rules.{Env, parameter_kinds, FineE, FineA, FineC, FineS, FineB, FineSs}
use Rattle.language.specs.Reader.{value_of, test_of, act_of, body_of, result_or, kinds_or, read_a, read_e_at, read_e, read_c_at, read_c, read_ss, read_s_at, read_s, read_b_at, read_b}
use Rattle.checker.specs.Spells.{Spells}
use Rattle.checker.proofs.Spelling.{spells-left}

module _ (v : View) (e : Env) where
  value_entered : (k i p : ℕ) (s : Expression) (xs : List Placed) → 0 < k → Spells v i ((p, Value s) ∷ xs) → read_e v e k i ≡ read_e_at e (read_e v e (k - 1)) i (Some s)
  value_entered zero i p s xs l h = absurd (omega arith)
  value_entered (suc k) i p s xs l h =
      let q : suc k - 1 ≡ k = omega arith in ap (λ o. read_e_at e (read_e v e k) i (value_of o)) h.2 ∙ ap (λ n. read_e_at e (read_e v e n) i (Some s)) (sym q)

  test_entered : (k i p : ℕ) (s : Condition) (xs : List Placed) → 0 < k → Spells v i ((p, Test s) ∷ xs) → read_c v e k i ≡ read_c_at (read_e v e (k - 1)) (read_c v e (k - 1)) i (Some s)
  test_entered zero i p s xs l h = absurd (omega arith)
  test_entered (suc k) i p s xs l h =
      let q : suc k - 1 ≡ k = omega arith in
      ap (λ o. read_c_at (read_e v e k) (read_c v e k) i (test_of o)) h.2 ∙ ap (λ n. read_c_at (read_e v e n) (read_c v e n) i (Some s)) (sym q)

  act_entered : (k i p : ℕ) (s : Statement) (xs : List Placed) → 0 < k → Spells v i ((p, Act s) ∷ xs) →
      read_s v e k i ≡ read_s_at e (read_e v e (k - 1)) (read_c v e (k - 1)) (read_b v e (k - 1)) i (Some s)
  act_entered zero i p s xs l h = absurd (omega arith)
  act_entered (suc k) i p s xs l h =
      let q : suc k - 1 ≡ k = omega arith in
      ap (λ o. read_s_at e (read_e v e k) (read_c v e k) (read_b v e k) i (act_of o)) h.2
      ∙ ap (λ n. read_s_at e (read_e v e n) (read_c v e n) (read_b v e n) i (Some s)) (sym q)

  block-entered : (k i p n : ℕ) (xs : List Placed) → 0 < k → Spells v i ((p, Body n) ∷ xs) → read_b v e k i ≡ read_b_at (read_s v e (k - 1)) i (Some n)
  block-entered zero i p m xs l h = absurd (omega arith)
  block-entered (suc k) i p m xs l h =
      let q : suc k - 1 ≡ k = omega arith in ap (λ o. read_b_at (read_s v e k) i (body_of o)) h.2 ∙ ap (λ n. read_b_at (read_s v e n) i (Some m)) (sym q)

  mutual
    pub expr_back : (t : Expr) (k i : ℕ) → FineE e t → levels_e t ≤ k → Spells v i (list_e t) → read_e v e k i ≡ (t, i + length (list_e t))
    expr_back (constant p q n) k i f d h = value_entered k i p (Constant q n) [] d h ∙ ap (λ m. (constant m q n, i + 1)) (sym h.0)
    expr_back (variable p s x q) k i f d h =
        value_entered k i p (Variable s x) [] d h ∙ ap (λ r. (variable i s x (unwrap_or r Int), i + 1)) f ∙ ap (λ m. (variable m s x q, i + 1)) (sym h.0)
    expr_back (unary p u a) k i f d h =
        let y = expr_back a (k - 1) (i + 1) f.0 (omega arith) h.3 in
        let z : i + 1 + length (list_e a) ≡ i + suc (length (list_e a)) = omega arith in
        value_entered k i p (OfOne u) (list_e a) (omega arith) h ∙ ap (λ r. (unary i u r.0, r.1)) y
        ∙ ap (λ m. (unary m u a, i + 1 + length (list_e a))) (sym h.0) ∙ ap (λ m. (unary p u a, m)) z
    expr_back (binary p b q a c) k i f d h =
        let s = spells-left v (i + 1) (list_e a) (list_e c) h.3 in
        let y = expr_back a (k - 1) (i + 1) f.0 (omega arith) s.0 in
        let z = expr_back c (k - 1) (i + 1 + length (list_e a)) f.1 (omega arith) s.1 in
        let w : i + 1 + length (list_e a) + length (list_e c) ≡ i + suc (length (list_e a ++ list_e c)) = simp length-append (omega arith) in
        value_entered k i p (OfTwo b) (list_e a ++ list_e c) (omega arith) h
        ∙ ap (λ r. (binary i b (kind_of r.0) r.0 (read_e v e (k - 1) r.1).0, (read_e v e (k - 1) r.1).1)) y
        ∙ ap (λ r. (binary i b (kind_of a) a r.0, r.1)) z
        ∙ ap (λ m. (binary i b m a c, i + 1 + length (list_e a) + length (list_e c))) f.2
        ∙ ap (λ m. (binary m b q a c, i + 1 + length (list_e a) + length (list_e c))) (sym h.0) ∙ ap (λ m. (binary p b q a c, m)) w
    expr_back (call p m q xs) k i f d h =
        let y = args_back xs (k - 1) (parameter_kinds f.0) (i + 1) f.3 (omega arith) h.3 in
        let w : i + 1 + length (list_a xs) ≡ i + suc (length (list_a xs)) = omega arith in
        value_entered k i p (Call m) (list_a xs) (omega arith) h
        ∙ ap (λ r. (call i m (result_or r) (read_a (read_e v e (k - 1)) (kinds_or r) (i + 1)).0, (read_a (read_e v e (k - 1)) (kinds_or r) (i + 1)).1)) f.1
        ∙ ap (λ r. (call i m (unwrap_or f.0.result Int) r.0, r.1)) y
        ∙ ap (λ r. (call i m (unwrap_or r Int) xs, i + 1 + length (list_a xs))) f.2
        ∙ ap (λ n. (call n m q xs, i + 1 + length (list_a xs))) (sym h.0) ∙ ap (λ n. (call p m q xs, n)) w
    expr_back (read p q) k i f d h = value_entered k i p (Read q) [] d h ∙ ap (λ m. (read m q, i + 1)) (sym h.0)

    args_back : (xs : Args) (k : ℕ) (ks : List Kind) (i : ℕ) → FineA e ks xs → levels_a xs ≤ k → Spells v i (list_a xs) →
        read_a (read_e v e k) ks i ≡ (xs, i + length (list_a xs))
    args_back none k [] i f d h = let z : i ≡ i + 0 = omega arith in ap (λ m. (none, m)) z
    args_back none k (q ∷ ks) i f d h = absurd f
    args_back (more t xs) k [] i f d h = absurd f
    args_back (more t xs) k (q ∷ ks) i f d h =
        let s = spells-left v i (list_e t) (list_a xs) h in
        let y = expr_back t k i f.0 (omega arith) s.0 in
        let z = args_back xs k ks (i + length (list_e t)) f.2 (omega arith) s.1 in
        let w : i + length (list_e t) + length (list_a xs) ≡ i + length (list_e t ++ list_a xs) = simp length-append (omega arith) in
        ap (λ r. (more r.0 (read_a (read_e v e k) ks r.1).0, (read_a (read_e v e k) ks r.1).1)) y
        ∙ ap (λ r. (more t r.0, r.1)) z ∙ ap (λ m. (more t xs, m)) w

  pub cond_back : (t : Cond) (k i : ℕ) → FineC e t → levels_c t ≤ k → Spells v i (list_c t) → read_c v e k i ≡ (t, i + length (list_c t))
  cond_back (compare p m q a c) k i f d h =
      let s = spells-left v (i + 1) (list_e a) (list_e c) h.3 in
      let y = expr_back a (k - 1) (i + 1) f.0 (omega arith) s.0 in
      let z = expr_back c (k - 1) (i + 1 + length (list_e a)) f.1 (omega arith) s.1 in
      let w : i + 1 + length (list_e a) + length (list_e c) ≡ i + suc (length (list_e a ++ list_e c)) = simp length-append (omega arith) in
      test_entered k i p (Compare m) (list_e a ++ list_e c) (omega arith) h
      ∙ ap (λ r. (compare i m (kind_of r.0) r.0 (read_e v e (k - 1) r.1).0, (read_e v e (k - 1) r.1).1)) y
      ∙ ap (λ r. (compare i m (kind_of a) a r.0, r.1)) z
      ∙ ap (λ n. (compare i m n a c, i + 1 + length (list_e a) + length (list_e c))) f.2
      ∙ ap (λ n. (compare n m q a c, i + 1 + length (list_e a) + length (list_e c))) (sym h.0) ∙ ap (λ n. (compare p m q a c, n)) w
  cond_back (negate p c) k i f d h =
      let y = cond_back c (k - 1) (i + 1) f (omega arith) h.3 in
      let z : i + 1 + length (list_c c) ≡ i + suc (length (list_c c)) = omega arith in
      test_entered k i p Not (list_c c) (omega arith) h ∙ ap (λ r. (negate i r.0, r.1)) y
      ∙ ap (λ m. (negate m c, i + 1 + length (list_c c))) (sym h.0) ∙ ap (λ m. (negate p c, m)) z
  cond_back (join p m a c) k i f d h =
      let s = spells-left v (i + 1) (list_c a) (list_c c) h.3 in
      let y = cond_back a (k - 1) (i + 1) f.0 (omega arith) s.0 in
      let z = cond_back c (k - 1) (i + 1 + length (list_c a)) f.1 (omega arith) s.1 in
      let w : i + 1 + length (list_c a) + length (list_c c) ≡ i + suc (length (list_c a ++ list_c c)) = simp length-append (omega arith) in
      test_entered k i p (Join m) (list_c a ++ list_c c) (omega arith) h
      ∙ ap (λ r. (join i m r.0 (read_c v e (k - 1) r.1).0, (read_c v e (k - 1) r.1).1)) y ∙ ap (λ r. (join i m a r.0, r.1)) z
      ∙ ap (λ n. (join n m a c, i + 1 + length (list_c a) + length (list_c c))) (sym h.0) ∙ ap (λ n. (join p m a c, n)) w
  cond_back (holds p a) k i f d h =
      let y = expr_back a (k - 1) (i + 1) f.0 (omega arith) h.3 in
      let z : i + 1 + length (list_e a) ≡ i + suc (length (list_e a)) = omega arith in
      test_entered k i p Holds (list_e a) (omega arith) h ∙ ap (λ r. (holds i r.0, r.1)) y
      ∙ ap (λ m. (holds m a, i + 1 + length (list_e a))) (sym h.0) ∙ ap (λ m. (holds p a, m)) z

  mutual
    stmt_back : (t : Stmt) (k : ℕ) (ns : List ℕ) (i : ℕ) → FineS e ns t → levels_s t ≤ k → Spells v i (list_s t) → read_s v e k i ≡ (t, i + length (list_s t))
    stmt_back (skip p) k ns i f d h = act_entered k i p Skip [] d h ∙ ap (λ m. (skip m, i + 1)) (sym h.0)
    stmt_back (assign p w x q a) k ns i f d h =
        let y = expr_back a (k - 1) (i + 1) f.1 (omega arith) h.3 in
        let z : i + 1 + length (list_e a) ≡ i + suc (length (list_e a)) = omega arith in
        act_entered k i p (Assign w x) (list_e a) (omega arith) h
        ∙ ap (λ r. (assign i w x (unwrap_or r Int) (read_e v e (k - 1) (i + 1)).0, (read_e v e (k - 1) (i + 1)).1)) f.0
        ∙ ap (λ r. (assign i w x q r.0, r.1)) y
        ∙ ap (λ m. (assign m w x q a, i + 1 + length (list_e a))) (sym h.0) ∙ ap (λ m. (assign p w x q a, m)) z
    stmt_back (perform p m xs) k ns i f d h =
        let y = args_back xs (k - 1) (parameter_kinds f.0) (i + 1) f.3 (omega arith) h.3 in
        let w : i + 1 + length (list_a xs) ≡ i + suc (length (list_a xs)) = omega arith in
        act_entered k i p (Perform m) (list_a xs) (omega arith) h
        ∙ ap (λ r. (perform i m (read_a (read_e v e (k - 1)) (kinds_or r) (i + 1)).0, (read_a (read_e v e (k - 1)) (kinds_or r) (i + 1)).1)) f.1
        ∙ ap (λ r. (perform i m r.0, r.1)) y
        ∙ ap (λ n. (perform n m xs, i + 1 + length (list_a xs))) (sym h.0) ∙ ap (λ n. (perform p m xs, n)) w
    stmt_back (if p c b) k ns i f d h =
        let s = spells-left v (i + 1) (list_c c) (list_b b) h.3 in
        let y = cond_back c (k - 1) (i + 1) f.0 (omega arith) s.0 in
        let z = block_back b (k - 1) ns (i + 1 + length (list_c c)) f.1 (omega arith) s.1 in
        let w : i + 1 + length (list_c c) + length (list_b b) ≡ i + suc (length (list_c c ++ list_b b)) = simp length-append (omega arith) in
        act_entered k i p If (list_c c ++ list_b b) (omega arith) h
        ∙ ap (λ r. (if i r.0 (read_b v e (k - 1) r.1).0, (read_b v e (k - 1) r.1).1)) y ∙ ap (λ r. (if i c r.0, r.1)) z
        ∙ ap (λ n. (if n c b, i + 1 + length (list_c c) + length (list_b b))) (sym h.0) ∙ ap (λ n. (if p c b, n)) w
    stmt_back (if_else p c b a) k ns i f d h =
        let s = spells-left v (i + 1) (list_c c) (list_b b ++ list_b a) h.3 in
        let t = spells-left v (i + 1 + length (list_c c)) (list_b b) (list_b a) s.1 in
        let y = cond_back c (k - 1) (i + 1) f.0 (omega arith) s.0 in
        let z = block_back b (k - 1) ns (i + 1 + length (list_c c)) f.1 (omega arith) t.0 in
        let x = block_back a (k - 1) ns (i + 1 + length (list_c c) + length (list_b b)) f.2 (omega arith) t.1 in
        let w : i + 1 + length (list_c c) + length (list_b b) + length (list_b a) ≡ i + suc (length (list_c c ++ (list_b b ++ list_b a))) = simp length-append (omega arith) in
        act_entered k i p IfElse (list_c c ++ (list_b b ++ list_b a)) (omega arith) h
        ∙ ap (λ r. (if_else i r.0 (read_b v e (k - 1) r.1).0 (read_b v e (k - 1) (read_b v e (k - 1) r.1).1).0, (read_b v e (k - 1) (read_b v e (k - 1) r.1).1).1)) y
        ∙ ap (λ r. (if_else i c r.0 (read_b v e (k - 1) r.1).0, (read_b v e (k - 1) r.1).1)) z ∙ ap (λ r. (if_else i c b r.0, r.1)) x
        ∙ ap (λ n. (if_else n c b a, i + 1 + length (list_c c) + length (list_b b) + length (list_b a))) (sym h.0) ∙ ap (λ n. (if_else p c b a, n)) w
    stmt_back (loop p m b) k ns i f d h =
        let y = block_back b (k - 1) (m ∷ ns) (i + 1) f.2 (omega arith) h.3 in
        let w : i + 1 + length (list_b b) ≡ i + suc (length (list_b b)) = omega arith in
        act_entered k i p (Loop m) (list_b b) (omega arith) h ∙ ap (λ r. (loop i m r.0, r.1)) y
        ∙ ap (λ n. (loop n m b, i + 1 + length (list_b b))) (sym h.0) ∙ ap (λ n. (loop p m b, n)) w
    stmt_back (break p m) k ns i f d h = act_entered k i p (Break m) [] d h ∙ ap (λ n. (break n m, i + 1)) (sym h.0)
    stmt_back (continue p m) k ns i f d h = act_entered k i p (Continue m) [] d h ∙ ap (λ n. (continue n m, i + 1)) (sym h.0)
    stmt_back (exit p) k ns i f d h = act_entered k i p Exit [] d h ∙ ap (λ n. (exit n, i + 1)) (sym h.0)
    stmt_back (return p a) k ns i f d h =
        let y = expr_back a (k - 1) (i + 1) f.1 (omega arith) h.3 in
        let z : i + 1 + length (list_e a) ≡ i + suc (length (list_e a)) = omega arith in
        act_entered k i p Return (list_e a) (omega arith) h ∙ ap (λ r. (return i r.0, r.1)) y
        ∙ ap (λ m. (return m a, i + 1 + length (list_e a))) (sym h.0) ∙ ap (λ m. (return p a, m)) z
    stmt_back (write p q a) k ns i f d h =
        let y = expr_back a (k - 1) (i + 1) f.0 (omega arith) h.3 in
        let z : i + 1 + length (list_e a) ≡ i + suc (length (list_e a)) = omega arith in
        act_entered k i p (Write q) (list_e a) (omega arith) h ∙ ap (λ r. (write i q r.0, r.1)) y
        ∙ ap (λ m. (write m q a, i + 1 + length (list_e a))) (sym h.0) ∙ ap (λ m. (write p q a, m)) z

    pub block_back : (t : Block) (k : ℕ) (ns : List ℕ) (i : ℕ) → FineB e ns t → levels_b t ≤ k → Spells v i (list_b t) → read_b v e k i ≡ (t, i + length (list_b t))
    block_back (block p ss) k ns i f d h =
        let y = stmts_back ss (k - 1) ns (i + 1) f.2 (omega arith) h.3 in
        let w : i + 1 + length (list_ss ss) ≡ i + suc (length (list_ss ss)) = omega arith in
        block-entered k i p (count ss) (list_ss ss) (omega arith) h ∙ ap (λ r. (block i r.0, r.1)) y
        ∙ ap (λ n. (block n ss, i + 1 + length (list_ss ss))) (sym h.0) ∙ ap (λ n. (block p ss, n)) w

    stmts_back : (ss : Stmts) (k : ℕ) (ns : List ℕ) (i : ℕ) → FineSs e ns ss → levels_ss ss ≤ k → Spells v i (list_ss ss) →
        read_ss (read_s v e k) (count ss) i ≡ (ss, i + length (list_ss ss))
    stmts_back done k ns i f d h = let z : i ≡ i + 0 = omega arith in ap (λ m. (done, m)) z
    stmts_back (next s ss) k ns i f d h =
        let p = spells-left v i (list_s s) (list_ss ss) h in
        let y = stmt_back s k ns i f.0 (omega arith) p.0 in
        let z = stmts_back ss k ns (i + length (list_s s)) f.1 (omega arith) p.1 in
        let w : i + length (list_s s) + length (list_ss ss) ≡ i + length (list_s s ++ list_ss ss) = simp length-append (omega arith) in
        ap (λ r. (next r.0 (read_ss (read_s v e k) (count ss) r.1).0, (read_ss (read_s v e k) (count ss) r.1).1)) y
        ∙ ap (λ r. (next s r.0, r.1)) z ∙ ap (λ m. (next s ss, m)) w
