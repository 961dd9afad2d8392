-- The walk passes a statement or a block that stands there well-formed.
use Rattle.std.proofs.Common.{◌≡◌, ℕ, suc, ◌+◌, ◌-◌, ◌<◌, ◌≤◌, max, true, cond, List, [], ◌∷◌, ◌++◌, length, Ok, Err, refl, ap, ◌∙◌, arith, length-append}
use Rattle.std.proofs.lemmas.Bool.{lt-ltb}
use Rattle.std.specs.Option.{ok_or}
use Rattle.table.specs.Flow.{onward}
use Rattle.table.specs.View.{View}
use Rattle.table.specs.declared.shape.Kind.{Kind}
use Rattle.table.specs.declared.shape.Statement.{Statement}
use Rattle.table.specs.declared.shape.Statement.TheVariants.{Skip, Assign, Perform, If, IfElse, Loop, Break, Continue, Exit, Return, Write}
use Rattle.table.specs.declared.shape.Shape.TheVariants.{Statement as Act, Block as Body}
use Rattle.language.specs.Tree.{Expr, Stmt, Block, Stmts, skip, assign, perform, if, if_else, loop, break, continue, exit, return, write, block, done, next}
use Rattle.language.specs.Listing.{Placed, count, list_e, list_a, list_c, list_s, list_b, list_ss}
use Rattle.language.specs.Measures.{kind_of, format_kind, levels_e, levels_s, levels_b, levels_ss, height_a, height_s, height_ss, words_a, words_s, words_ss}
use Rattle.language.specs.Rules.{Env, FineE, parameter_kinds, FineS, FineB, FineSs}
use Rattle.walk.specs.Walk.{as_act, as_block, no_result, judged, same_kind, size, beside, topped, no_arguments, args_from, fitting, expr_from, cond_from, items_from, exits, stmt_at, stmt_from, block_from}
use Rattle.walk.specs.declared.fault.CheckFault.TheVariants.{Variable as NoVariable, Function as NoFunction, Loop as NoLoop, Exit as NoExit}
use Rattle.walk.specs.declared.found.Size.{Size}
use Rattle.walk.proofs.Steps.{stmt_step, block_step}
use Rattle.checker.specs.Spells.{Spells}
use Rattle.checker.proofs.Spelling.{kind_same, came_first, arrived_is, spells-left}
use Rattle.checker.proofs.Values.{found_of, args-complete, expr_complete}
use Rattle.checker.proofs.Tests.{size_c, cond_complete}
use Rattle.checker.proofs.Acts.{size_s, size_b}

module _ (v : View) (e : Env) where
  stmt_entered : (k : ℕ) (ns : List ℕ) (i p : ℕ) (s : Statement) (xs : List Placed) → 0 < k → Spells v i ((p, Act s) ∷ xs) →
      stmt_from v e k ns i ≡ stmt_at e (expr_from v e (k - 1)) (cond_from v e (k - 1)) (block_from v e (k - 1)) ns i s
  stmt_entered k ns i p s xs l h =
      stmt_step v e k ns i
      ∙ ap (λ r. onward (onward r (as_act i)) (stmt_at e (expr_from v e (k - 1)) (cond_from v e (k - 1)) (block_from v e (k - 1)) ns i)) (arrived_is v k i (Act s) (came_first v k i (p, Act s) xs l h))

  block-entered : (k : ℕ) (ns : List ℕ) (i p n : ℕ) (xs : List Placed) → 0 < k → Spells v i ((p, Body n) ∷ xs) →
      block_from v e k ns i ≡ items_from (stmt_from v e (k - 1) ns) n (size 0 0) (i + 1)
  block-entered k ns i p n xs l h =
      block_step v e k ns i
      ∙ ap (λ r. onward (onward r (as_block i)) (λ m. items_from (stmt_from v e (k - 1) ns) m (size 0 0) (i + 1))) (arrived_is v k i (Body n) (came_first v k i (p, Body n) xs l h))

  -- a node with one expression below it, of the kind that it asks for
  one_value : (k i : ℕ) (q : Kind) (a : Expr) → FineE e a → levels_e a ≤ k → kind_of a ≡ q → Spells v (i + 1) (list_e a) →
      onward {B = Size × ℕ} (expr_from v e k (i + 1)) (λ p. judged i (same_kind q p.0.kind) (topped p.0, p.1)) ≡ Ok (topped (found_of a), i + suc (length (list_e a)))
  one_value k i q a f d g h =
      let y = expr_complete a v e k (i + 1) f d h in
      let s : same_kind q (kind_of a) ≡ true = ap (λ x. same_kind q x) g ∙ kind_same q in
      let z : i + 1 + length (list_e a) ≡ i + suc (length (list_e a)) = omega arith in
      ap (λ r. onward r (λ p. judged i (same_kind q p.0.kind) (topped p.0, p.1))) y
      ∙ ap (λ b. judged i b (topped (found_of a), i + 1 + length (list_e a))) s ∙ ap (λ w. Ok (topped (found_of a), w)) z

  mutual
    stmt_complete : (t : Stmt) (k : ℕ) (ns : List ℕ) (i : ℕ) → FineS e ns t → levels_s t ≤ k → Spells v i (list_s t) →
        stmt_from v e k ns i ≡ Ok (size_s t, i + length (list_s t))
    stmt_complete (skip p) k ns i f d h = stmt_entered k ns i p Skip [] d h
    stmt_complete (assign p w x q a) k ns i f d h =
        stmt_entered k ns i p (Assign w x) (list_e a) (omega arith) h
        ∙ ap (λ r. onward (ok_or r (NoVariable i)) (λ n. onward (expr_from v e (k - 1) (i + 1)) (λ p. judged i (same_kind n p.0.kind) (topped p.0, p.1)))) f.0
        ∙ one_value (k - 1) i q a f.1 (omega arith) f.2 h.3
    stmt_complete (perform p m xs) k ns i f d h =
        let y = args-complete xs v e (k - 1) (parameter_kinds f.0) 0 (size 0 0) (i + 1) f.3 (omega arith) h.3 in
        let hh : max 0 (height_a 0 xs) ≡ height_a 0 xs = omega arith in
        let ww : 0 + words_a xs + 1 ≡ words_a xs + 1 = omega arith in
        let w : i + 1 + length (list_a xs) ≡ i + suc (length (list_a xs)) = omega arith in
        stmt_entered k ns i p (Perform m) (list_a xs) (omega arith) h
        ∙ ap (λ r. onward (ok_or r (NoFunction i)) (λ g. onward (no_result i g.result) (λ _. onward (args_from (expr_from v e (k - 1)) (parameter_kinds g) 0 no_arguments (i + 1)) (λ r. onward (fitting i r.0) (λ z. Ok (size z.height (z.words + 1), r.1)))))) f.1
        ∙ ap (λ r. onward (no_result i r) (λ _. onward (args_from (expr_from v e (k - 1)) (parameter_kinds f.0) 0 no_arguments (i + 1)) (λ r. onward (fitting i r.0) (λ z. Ok (size z.height (z.words + 1), r.1))))) f.2
        ∙ ap (λ r. onward r (λ r. onward (fitting i r.0) (λ z. Ok (size z.height (z.words + 1), r.1)))) y
        ∙ ap (λ n. Ok (size n (0 + words_a xs + 1), i + 1 + length (list_a xs))) hh
        ∙ ap (λ n. Ok (size (height_a 0 xs) n, i + 1 + length (list_a xs))) ww
        ∙ ap (λ n. Ok (size_s (perform p m xs), n)) w
    stmt_complete (if p c b) k ns i f d h =
        let s = spells-left v (i + 1) (list_c c) (list_b b) h.3 in
        let y = cond_complete c v e (k - 1) (i + 1) f.0 (omega arith) s.0 in
        let z = block-complete b (k - 1) ns (i + 1 + length (list_c c)) f.1 (omega arith) s.1 in
        let w : i + 1 + length (list_c c) + length (list_b b) ≡ i + suc (length (list_c c ++ list_b b)) = simp length-append (omega arith) in
        stmt_entered k ns i p If (list_c c ++ list_b b) (omega arith) h
        ∙ ap (λ r. onward r (λ m. onward (block_from v e (k - 1) ns m.1) (λ n. Ok (beside m.0 n.0, n.1)))) y
        ∙ ap (λ r. onward r (λ n. Ok (beside (size_c c) n.0, n.1))) z ∙ ap (λ m. Ok (beside (size_c c) (size_b b), m)) w
    stmt_complete (if_else p c b a) k ns i f d h =
        let s = spells-left v (i + 1) (list_c c) (list_b b ++ list_b a) h.3 in
        let t = spells-left v (i + 1 + length (list_c c)) (list_b b) (list_b a) s.1 in
        let y = cond_complete c v e (k - 1) (i + 1) f.0 (omega arith) s.0 in
        let z = block-complete b (k - 1) ns (i + 1 + length (list_c c)) f.1 (omega arith) t.0 in
        let x = block-complete a (k - 1) ns (i + 1 + length (list_c c) + length (list_b b)) f.2 (omega arith) t.1 in
        let w : i + 1 + length (list_c c) + length (list_b b) + length (list_b a) ≡ i + suc (length (list_c c ++ (list_b b ++ list_b a))) = simp length-append (omega arith) in
        stmt_entered k ns i p IfElse (list_c c ++ (list_b b ++ list_b a)) (omega arith) h
        ∙ ap (λ r. onward r (λ m. onward (block_from v e (k - 1) ns m.1) (λ n. onward (block_from v e (k - 1) ns n.1) (λ r. Ok (size (max m.0.height (max n.0.height r.0.height)) (m.0.words + n.0.words + r.0.words + 1), r.1))))) y
        ∙ ap (λ r. onward r (λ n. onward (block_from v e (k - 1) ns n.1) (λ r. Ok (size (max (size_c c).height (max n.0.height r.0.height)) ((size_c c).words + n.0.words + r.0.words + 1), r.1)))) z
        ∙ ap (λ r. onward r (λ r. Ok (size (max (size_c c).height (max (size_b b).height r.0.height)) ((size_c c).words + (size_b b).words + r.0.words + 1), r.1))) x
        ∙ ap (λ m. Ok (size_s (if_else p c b a), m)) w
    stmt_complete (loop p m b) k ns i f d h =
        let y = block-complete b (k - 1) (m ∷ ns) (i + 1) f.2 (omega arith) h.3 in
        let w : i + 1 + length (list_b b) ≡ i + suc (length (list_b b)) = omega arith in
        stmt_entered k ns i p (Loop m) (list_b b) (omega arith) h
        ∙ ap (λ t. onward (cond t (Ok i) (Err (NoLoop i))) (λ _. onward (block_from v e (k - 1) (m ∷ ns) (i + 1)) (λ p. Ok (size p.0.height (p.0.words + 1), p.1)))) (lt-ltb (length ns) 16 f.1)
        ∙ ap (λ r. onward r (λ p. Ok (size p.0.height (p.0.words + 1), p.1))) y ∙ ap (λ n. Ok (size_s (loop p m b), n)) w
    stmt_complete (break p m) k ns i f d h =
        stmt_entered k ns i p (Break m) [] d h ∙ ap (λ b. cond b (Ok (size 0 1, i + 1)) (Err (NoLoop i))) f
    stmt_complete (continue p m) k ns i f d h =
        stmt_entered k ns i p (Continue m) [] d h ∙ ap (λ b. cond b (Ok (size 0 1, i + 1)) (Err (NoLoop i))) f
    stmt_complete (exit p) k ns i f d h = stmt_entered k ns i p Exit [] d h ∙ ap (λ q. exits q i) f
    stmt_complete (return p a) k ns i f d h =
        stmt_entered k ns i p Return (list_e a) (omega arith) h
        ∙ ap (λ r. onward (ok_or r (NoExit i)) (λ n. onward (expr_from v e (k - 1) (i + 1)) (λ p. judged i (same_kind n p.0.kind) (topped p.0, p.1)))) f.0
        ∙ one_value (k - 1) i (kind_of a) a f.1 (omega arith) refl h.3
    stmt_complete (write p q a) k ns i f d h =
        stmt_entered k ns i p (Write q) (list_e a) (omega arith) h ∙ one_value (k - 1) i (format_kind q) a f.0 (omega arith) f.1 h.3

    pub block-complete : (t : Block) (k : ℕ) (ns : List ℕ) (i : ℕ) → FineB e ns t → levels_b t ≤ k → Spells v i (list_b t) →
        block_from v e k ns i ≡ Ok (size_b t, i + length (list_b t))
    block-complete (block p ss) k ns i f d h =
        let y = items_complete ss (k - 1) ns (size 0 0) (i + 1) f.2 (omega arith) h.3 in
        let hh : max 0 (height_ss ss) ≡ height_ss ss = omega arith in
        let ww : 0 + words_ss ss ≡ words_ss ss = omega arith in
        let w : i + 1 + length (list_ss ss) ≡ i + suc (length (list_ss ss)) = omega arith in
        block-entered k ns i p (count ss) (list_ss ss) (omega arith) h ∙ y
        ∙ ap (λ n. Ok (size n (0 + words_ss ss), i + 1 + length (list_ss ss))) hh
        ∙ ap (λ n. Ok (size (height_ss ss) n, i + 1 + length (list_ss ss))) ww
        ∙ ap (λ n. Ok (size_b (block p ss), n)) w

    items_complete : (ss : Stmts) (k : ℕ) (ns : List ℕ) (a : Size) (i : ℕ) → FineSs e ns ss → levels_ss ss ≤ k → Spells v i (list_ss ss) →
        items_from (stmt_from v e k ns) (count ss) a i ≡ Ok (size (max a.height (height_ss ss)) (a.words + words_ss ss), i + length (list_ss ss))
    items_complete done k ns a i f d h =
        let x : a.height ≡ max a.height 0 = omega arith in
        let y : a.words ≡ a.words + 0 = omega arith in
        let z : i ≡ i + 0 = omega arith in
        ap (λ m. Ok (size m a.words, i)) x ∙ ap (λ m. Ok (size (max a.height 0) m, i)) y ∙ ap (λ m. Ok (size (max a.height 0) (a.words + 0), m)) z
    items_complete (next s ss) k ns a i f d h =
        let p = spells-left v i (list_s s) (list_ss ss) h in
        let y = stmt_complete s k ns i f.0 (omega arith) p.0 in
        let z = items_complete ss k ns (beside a (size_s s)) (i + length (list_s s)) f.1 (omega arith) p.1 in
        let hh : max (max a.height (height_s s)) (height_ss ss) ≡ max a.height (height_ss (next s ss)) = omega arith in
        let ww : a.words + words_s s + words_ss ss ≡ a.words + words_ss (next s ss) = omega arith in
        let w : i + length (list_s s) + length (list_ss ss) ≡ i + length (list_s s ++ list_ss ss) = simp length-append (omega arith) in
        ap (λ r. onward r (λ p. items_from (stmt_from v e k ns) (count ss) (beside a p.0) p.1)) y ∙ z
        ∙ ap (λ m. Ok (size m (a.words + words_s s + words_ss ss), i + length (list_s s) + length (list_ss ss))) hh
        ∙ ap (λ m. Ok (size (max a.height (height_ss (next s ss))) m, i + length (list_s s) + length (list_ss ss))) ww
        ∙ ap (λ m. Ok (size (max a.height (height_ss (next s ss))) (a.words + words_ss (next s ss)), m)) w
