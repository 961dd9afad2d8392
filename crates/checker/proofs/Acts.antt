-- The walk of a statement or a block passes exactly if a well-formed tree stands there.
use Rattle.std.proofs.Common.{◌≡◌, ℕ, zero, suc, ◌+◌, ◌<◌, ◌≤◌, max, Bool, true, cond, List, ◌∷◌, ◌++◌, length, Some, None, Ok, Err, Option, sym, refl, ap, ◌∙◌, arith, length-append}
use Rattle.std.proofs.lemmas.Bool.Decides.{nat_tests}
use Rattle.std.specs.Option.{ok_or}
use Rattle.table.specs.Flow.{onward}
use Rattle.table.specs.View.{View, node_at}
use Rattle.table.specs.declared.shape.Kind.{Kind}
use Rattle.table.specs.declared.shape.Statement.{Statement}
use Rattle.table.specs.declared.shape.Statement.TheVariants.{Skip, Assign, Perform, If, IfElse, Loop, Break, Continue, Exit, Return, Write}
use Rattle.table.specs.declared.shape.Shape.TheVariants.{Statement as Act, Block as Body}
use Rattle.table.proofs.Round.{decoded}
use Rattle.language.specs.Tree.{Stmt, Block, Stmts, skip, assign, perform, if, if_else, loop, break, continue, exit, return, write, block, done, next}
use Rattle.language.specs.Listing.{count, list_c, list_s, list_b, list_ss}
use Rattle.language.specs.Measures.{format_kind, levels_s, levels_b, levels_ss, height_c, height_s, height_b, height_ss, words_c, words_s, words_b, words_ss}
use Rattle.language.specs.Rules.{Env, slot_kind, called, parameter_kinds, is_open, FineS, FineB, FineSs}
use Rattle.walk.specs.Walk.{Answer, arrived, as_act, as_block, called_at, no_result, judged, same_kind, size, beside, topped, no_arguments, args_from, fitting, expr_from, cond_from, items_from, opens, leaves, exits, stmt_at, stmt_from, block_from}
use Rattle.walk.specs.declared.fault.CheckFault.TheVariants.{Nesting, Variable as NoVariable, Function as NoFunction, Loop as NoLoop, Exit as NoExit}
use Rattle.walk.specs.declared.found.Size.{Size}
use Rattle.checker.specs.Spells.{Spells}
use Rattle.checker.proofs.Spelling.{onward_ok, ok_or_ok, judged_ok, same_kind_lem, Came, came_act, came_block, spells-on}
use Rattle.checker.proofs.Values.{all-sound, expr_sound}
use Rattle.checker.proofs.Tests.{size_c, cond_sound}

abbrev pub size_s : Stmt → Size
size_s s = size (height_s s) (words_s s)

abbrev pub size_b : Block → Size
size_b b = size (height_b b) (words_b b)

-- an operand has 16 bits
abbrev pub Small : View → Type 0
Small v = (i : ℕ) → (node_at v i).operand < 65536

pub record StandsS (v : View) (e : Env) (k : ℕ) (ns : List ℕ) (i : ℕ) (s : Size) (j : ℕ) : Type 0 where
  pub tree : Stmt
  pub spells : Spells v i (list_s tree)
  pub ends : j ≡ i + length (list_s tree)
  pub fine : FineS e ns tree
  pub is : s ≡ size_s tree
  pub deep : levels_s tree ≤ k

pub record StandsB (v : View) (e : Env) (k : ℕ) (ns : List ℕ) (i : ℕ) (s : Size) (j : ℕ) : Type 0 where
  pub tree : Block
  pub spells : Spells v i (list_b tree)
  pub ends : j ≡ i + length (list_b tree)
  pub fine : FineB e ns tree
  pub is : s ≡ size_b tree
  pub deep : levels_b tree ≤ k

record StandSs (v : View) (e : Env) (k : ℕ) (ns : List ℕ) (n : ℕ) (a : Size) (i : ℕ) (s : Size) (j : ℕ) : Type 0 where
  trees : Stmts
  many : count trees ≡ n
  spells : Spells v i (list_ss trees)
  ends : j ≡ i + length (list_ss trees)
  fine : FineSs e ns trees
  height : s.height ≡ max a.height (height_ss trees)
  words : s.words ≡ a.words + words_ss trees
  deep : levels_ss trees ≤ k

items_sound : (v : View) (e : Env) (k : ℕ) (ns : List ℕ) → ((i : ℕ) (s : Size) (j : ℕ) → stmt_from v e k ns i ≡ Ok (s, j) → StandsS v e k ns i s j) →
    (n : ℕ) (a : Size) (i : ℕ) (s : Size) (j : ℕ) → items_from (stmt_from v e k ns) n a i ≡ Ok (s, j) → StandSs v e k ns n a i s j
items_sound v e k ns ih zero a i s j h =
    let p : a ≡ s = grind arith in
    record { trees = done; many = refl; spells = tt; ends = grind arith; fine = tt; height = ap (λ x. x.height) (sym p) ∙ omega arith; words = ap (λ x. x.words) (sym p) ∙ omega arith; deep = omega arith }
items_sound v e k ns ih (suc n) a i s j h =
    let o = onward_ok (stmt_from v e k ns i) (λ p. items_from (stmt_from v e k ns) n (beside a p.0) p.1) (s, j) h in
    let x = ih i o.0.0 o.0.1 o.1 in
    let r = items_sound v e k ns ih n (beside a o.0.0) o.0.1 s j o.2 in
    let hx : o.0.0.height ≡ height_s x.tree = ap (λ y. y.height) x.is in
    let wx : o.0.0.words ≡ words_s x.tree = ap (λ y. y.words) x.is in
    record {
      trees = next x.tree r.trees;
      many = ap suc r.many;
      spells = spells-on v i o.0.1 (list_s x.tree) (list_ss r.trees) x.spells x.ends r.spells;
      ends = simp length-append (omega (arith, x.ends, r.ends));
      fine = (x.fine, r.fine);
      height = omega (arith, r.height, hx);
      words = omega (arith, r.words, wx);
      deep = omega (arith, x.deep, r.deep);
    }

block_at : (v : View) (e : Env) (k : ℕ) (ns : List ℕ) → ((i : ℕ) (s : Size) (j : ℕ) → stmt_from v e k ns i ≡ Ok (s, j) → StandsS v e k ns i s j) →
    (i : ℕ) (s : Size) (j n : ℕ) → Came v (suc k) i (Body n) → items_from (stmt_from v e k ns) n (size 0 0) (i + 1) ≡ Ok (s, j) → StandsB v e (suc k) ns i s j
block_at v e k ns ih i s j n c h =
    let r = items_sound v e k ns ih n (size 0 0) (i + 1) s j h in
    let b = (decoded (node_at v i) (Body n) c.shape).1 in
    let m = r.many in
    let hh : s.height ≡ height_ss r.trees = omega (arith, r.height) in
    let ww : s.words ≡ words_ss r.trees = omega (arith, r.words) in
    record {
      tree = block i r.trees;
      spells = (refl, c.there, c.shape ∙ ap (λ x. Some (Body x)) (sym m), r.spells);
      ends = omega (arith, r.ends);
      fine = (omega (arith, b.0), omega (arith, b.1), r.fine);
      is = ap (λ x. size x s.words) hh ∙ ap (λ x. size (height_ss r.trees) x) ww;
      deep = omega (arith, r.deep);
    }

opens_ok : (ns : List ℕ) (i j : ℕ) → opens ns i ≡ Ok j → length ns < 16
opens_ok ns i j h = grind (arith, nat_tests)

leaves_ok : (ns : List ℕ) (m i : ℕ) (s : Size) (j : ℕ) → leaves ns m i ≡ Ok (s, j) → (is_open m ns ≡ true) × (s ≡ size 0 1) × (j ≡ i + 1)
leaves_ok ns m i s j h = shown (is_open m ns) h
  where
    shown : (b : Bool) → ◌≡◌ {A = Answer (Size × ℕ)} (cond b (Ok (size 0 1, i + 1)) (Err (NoLoop i))) (Ok (s, j)) → (b ≡ true) × (s ≡ size 0 1) × (j ≡ i + 1)
    shown b h = grind arith

exits_ok : (q : Option Kind) (i : ℕ) (s : Size) (j : ℕ) → exits q i ≡ Ok (s, j) → (q ≡ None) × (s ≡ size 0 1) × (j ≡ i + 1)
exits_ok None i s j h = (refl, grind arith, grind arith)
exits_ok (Some q) i s j h = absurd (grind arith)

no_result_ok : (i : ℕ) (q : Option Kind) (j : ℕ) → no_result i q ≡ Ok j → q ≡ None
no_result_ok i None j h = refl
no_result_ok i (Some q) j h = absurd (grind arith)

module _ (v : View) (small : Small v) (e : Env) (k : ℕ) (ns : List ℕ) (ih : (ms : List ℕ) (i : ℕ) (s : Size) (j : ℕ) → block_from v e k ms i ≡ Ok (s, j) → StandsB v e k ms i s j)
    (i : ℕ) (s : Size) (j : ℕ) where
  stmt_at_lem : (x : Statement) → Came v (suc k) i (Act x) → stmt_at e (expr_from v e k) (cond_from v e k) (block_from v e k) ns i x ≡ Ok (s, j) → StandsS v e (suc k) ns i s j
  stmt_at_lem Skip c h = record { tree = skip i; spells = (refl, c.there, c.shape, tt); ends = grind arith; fine = tt; is = grind arith; deep = omega arith }
  stmt_at_lem (Assign w x) c h =
      let o = onward_ok (ok_or (slot_kind e.own e.main w x) (NoVariable i)) (λ q. onward (expr_from v e k (i + 1)) (λ p. judged i (same_kind q p.0.kind) (topped p.0, p.1))) (s, j) h in
      let u = onward_ok (expr_from v e k (i + 1)) (λ p. judged i (same_kind o.0 p.0.kind) (topped p.0, p.1)) (s, j) o.2 in
      let a = expr_sound v e k (i + 1) u.0.0 u.0.1 u.1 in
      let g = judged_ok i (same_kind o.0 u.0.0.kind) (topped u.0.0, u.0.1) (s, j) u.2 in
      let z : u.0.1 ≡ j = ap (λ y. y.1) g.1 in
      record {
        tree = assign i w x o.0 a.tree;
        spells = (refl, c.there, c.shape, a.spells);
        ends = omega (arith, a.ends, z);
        fine = (ok_or_ok (slot_kind e.own e.main w x) (NoVariable i) o.0 o.1, a.fine, sym (ap (λ y. y.kind) a.is) ∙ sym (same_kind_lem o.0 u.0.0.kind g.0));
        is = sym (ap (λ y. y.0) g.1) ∙ ap topped a.is;
        deep = omega (arith, a.deep);
      }
  stmt_at_lem (Perform m) c h =
      let o = onward_ok (called_at e.functions m i) (λ g. onward (no_result i g.result) (λ _. onward (args_from (expr_from v e k) (parameter_kinds g) 0 no_arguments (i + 1)) (λ r. onward (fitting i r.0) (λ z. Ok (size z.height (z.words + 1), r.1))))) (s, j) h in
      let u = onward_ok (no_result i o.0.result) (λ _. onward (args_from (expr_from v e k) (parameter_kinds o.0) 0 no_arguments (i + 1)) (λ r. onward (fitting i r.0) (λ z. Ok (size z.height (z.words + 1), r.1)))) (s, j) o.2 in
      let w = onward_ok (args_from (expr_from v e k) (parameter_kinds o.0) 0 no_arguments (i + 1)) (λ r. onward (fitting i r.0) (λ z. Ok (size z.height (z.words + 1), r.1))) (s, j) u.2 in
      let g = onward_ok (fitting i w.0.0) (λ z. Ok (size z.height (z.words + 1), w.0.1)) (s, j) w.2 in
      let a = all-sound v e k (expr_sound v e k) (parameter_kinds o.0) (i + 1) i w.0.0 g.0 w.0.1 w.1 g.1 in
      let d : ◌≡◌ {A = Size × ℕ} (size g.0.height (g.0.words + 1), w.0.1) (s, j) = cc (g.2) in
      record {
        tree = perform i m a.trees;
        spells = (refl, c.there, c.shape, a.spells);
        ends = omega (arith, a.ends, ap (λ y. y.1) d);
        fine = (o.0, ok_or_ok (called e.functions m) (NoFunction i) o.0 o.1, no_result_ok i o.0.result u.0 u.1, a.fine);
        is = sym (ap (λ y. y.0) d) ∙ ap (λ y. size y.height (y.words + 1)) a.is;
        deep = omega (arith, a.deep);
      }
  stmt_at_lem If c h =
      let o = onward_ok (cond_from v e k (i + 1)) (λ p. onward (block_from v e k ns p.1) (λ q. Ok (beside p.0 q.0, q.1))) (s, j) h in
      let u = onward_ok (block_from v e k ns o.0.1) (λ q. Ok (beside o.0.0 q.0, q.1)) (s, j) o.2 in
      let x = cond_sound v e k (i + 1) o.0.0 o.0.1 o.1 in
      let y = ih ns o.0.1 u.0.0 u.0.1 u.1 in
      let g = u.2 in
      let z : u.0.1 ≡ j = grind (arith, g) in
      let w : s ≡ beside o.0.0 u.0.0 = grind (arith, g) in
      record {
        tree = if i x.tree y.tree;
        spells = (refl, c.there, c.shape, spells-on v (i + 1) o.0.1 (list_c x.tree) (list_b y.tree) x.spells x.ends y.spells);
        ends = simp length-append (omega (arith, x.ends, y.ends, z));
        fine = (x.fine, y.fine);
        is = w ∙ ap (λ n. beside n u.0.0) x.is ∙ ap (λ n. beside (size_c x.tree) n) y.is;
        deep = omega (arith, x.deep, y.deep);
      }
  stmt_at_lem IfElse c h =
      let o = onward_ok (cond_from v e k (i + 1)) (λ p. onward (block_from v e k ns p.1) (λ q. onward (block_from v e k ns q.1) (λ r. Ok (size (max p.0.height (max q.0.height r.0.height)) (p.0.words + q.0.words + r.0.words + 1), r.1)))) (s, j) h in
      let u = onward_ok (block_from v e k ns o.0.1) (λ q. onward (block_from v e k ns q.1) (λ r. Ok (size (max o.0.0.height (max q.0.height r.0.height)) (o.0.0.words + q.0.words + r.0.words + 1), r.1))) (s, j) o.2 in
      let t = onward_ok (block_from v e k ns u.0.1) (λ r. Ok (size (max o.0.0.height (max u.0.0.height r.0.height)) (o.0.0.words + u.0.0.words + r.0.words + 1), r.1)) (s, j) u.2 in
      let x = cond_sound v e k (i + 1) o.0.0 o.0.1 o.1 in
      let y = ih ns o.0.1 u.0.0 u.0.1 u.1 in
      let w = ih ns u.0.1 t.0.0 t.0.1 t.1 in
      let g = t.2 in
      let z : t.0.1 ≡ j = grind (arith, g) in
      let r : s ≡ size (max o.0.0.height (max u.0.0.height t.0.0.height)) (o.0.0.words + u.0.0.words + t.0.0.words + 1) = grind (arith, g) in
      record {
        tree = if_else i x.tree y.tree w.tree;
        spells = (refl, c.there, c.shape, spells-on v (i + 1) o.0.1 (list_c x.tree) (list_b y.tree ++ list_b w.tree) x.spells x.ends (spells-on v o.0.1 u.0.1 (list_b y.tree) (list_b w.tree) y.spells y.ends w.spells));
        ends = simp length-append (omega (arith, x.ends, y.ends, w.ends, z));
        fine = (x.fine, y.fine, w.fine);
        is = r ∙ ap (λ n. size (max n.height (max u.0.0.height t.0.0.height)) (n.words + u.0.0.words + t.0.0.words + 1)) x.is
            ∙ ap (λ n. size (max (height_c x.tree) (max n.height t.0.0.height)) (words_c x.tree + n.words + t.0.0.words + 1)) y.is
            ∙ ap (λ n. size (max (height_c x.tree) (max (height_b y.tree) n.height)) (words_c x.tree + words_b y.tree + n.words + 1)) w.is;
        deep = omega (arith, x.deep, y.deep, w.deep);
      }
  stmt_at_lem (Loop m) c h =
      let o = onward_ok (opens ns i) (λ _. onward (block_from v e k (m ∷ ns) (i + 1)) (λ p. Ok (size p.0.height (p.0.words + 1), p.1))) (s, j) h in
      let u = onward_ok (block_from v e k (m ∷ ns) (i + 1)) (λ p. Ok (size p.0.height (p.0.words + 1), p.1)) (s, j) o.2 in
      let b = ih (m ∷ ns) (i + 1) u.0.0 u.0.1 u.1 in
      let g = u.2 in
      let z : u.0.1 ≡ j = grind (arith, g) in
      let w : s ≡ size u.0.0.height (u.0.0.words + 1) = grind (arith, g) in
      let n : (node_at v i).operand ≡ m = ap (λ x. x.operand) (decoded (node_at v i) (Act (Loop m)) c.shape).0 in
      record {
        tree = loop i m b.tree;
        spells = (refl, c.there, c.shape, b.spells);
        ends = omega (arith, b.ends, z);
        fine = (omega (arith, small i, n), opens_ok ns i o.0 o.1, b.fine);
        is = w ∙ ap (λ x. size x.height (x.words + 1)) b.is;
        deep = omega (arith, b.deep);
      }
  stmt_at_lem (Break m) c h =
      let g = leaves_ok ns m i s j h in
      record { tree = break i m; spells = (refl, c.there, c.shape, tt); ends = g.2; fine = g.0; is = g.1; deep = omega arith }
  stmt_at_lem (Continue m) c h =
      let g = leaves_ok ns m i s j h in
      record { tree = continue i m; spells = (refl, c.there, c.shape, tt); ends = g.2; fine = g.0; is = g.1; deep = omega arith }
  stmt_at_lem Exit c h =
      let g = exits_ok e.own.result i s j h in
      record { tree = exit i; spells = (refl, c.there, c.shape, tt); ends = g.2; fine = g.0; is = g.1; deep = omega arith }
  stmt_at_lem Return c h =
      let o = onward_ok (ok_or e.own.result (NoExit i)) (λ q. onward (expr_from v e k (i + 1)) (λ p. judged i (same_kind q p.0.kind) (topped p.0, p.1))) (s, j) h in
      let u = onward_ok (expr_from v e k (i + 1)) (λ p. judged i (same_kind o.0 p.0.kind) (topped p.0, p.1)) (s, j) o.2 in
      let a = expr_sound v e k (i + 1) u.0.0 u.0.1 u.1 in
      let g = judged_ok i (same_kind o.0 u.0.0.kind) (topped u.0.0, u.0.1) (s, j) u.2 in
      let z : u.0.1 ≡ j = ap (λ y. y.1) g.1 in
      record {
        tree = return i a.tree;
        spells = (refl, c.there, c.shape, a.spells);
        ends = omega (arith, a.ends, z);
        fine = (ok_or_ok e.own.result (NoExit i) o.0 o.1 ∙ ap Some (same_kind_lem o.0 u.0.0.kind g.0 ∙ ap (λ y. y.kind) a.is), a.fine);
        is = sym (ap (λ y. y.0) g.1) ∙ ap topped a.is;
        deep = omega (arith, a.deep);
      }
  stmt_at_lem (Write q) c h =
      let u = onward_ok (expr_from v e k (i + 1)) (λ p. judged i (same_kind (format_kind q) p.0.kind) (topped p.0, p.1)) (s, j) h in
      let a = expr_sound v e k (i + 1) u.0.0 u.0.1 u.1 in
      let g = judged_ok i (same_kind (format_kind q) u.0.0.kind) (topped u.0.0, u.0.1) (s, j) u.2 in
      let z : u.0.1 ≡ j = ap (λ y. y.1) g.1 in
      record {
        tree = write i q a.tree;
        spells = (refl, c.there, c.shape, a.spells);
        ends = omega (arith, a.ends, z);
        fine = (a.fine, sym (ap (λ y. y.kind) a.is) ∙ sym (same_kind_lem (format_kind q) u.0.0.kind g.0));
        is = sym (ap (λ y. y.0) g.1) ∙ ap topped a.is;
        deep = omega (arith, a.deep);
      }

mutual
  stmt_sound : (k : ℕ) (v : View) (small : Small v) (e : Env) (ns : List ℕ) (i : ℕ) (s : Size) (j : ℕ) → stmt_from v e k ns i ≡ Ok (s, j) → StandsS v e k ns i s j
  stmt_sound zero v small e ns i s j h =
      let o = onward_ok (onward (arrived v 0 i) (as_act i)) (λ _. Err (Nesting i)) (s, j) h in
      absurd (omega (arith, (came_act v 0 i o.0 o.1).level))
  stmt_sound (suc k) v small e ns i s j h =
      let o = onward_ok (onward (arrived v (suc k) i) (as_act i)) (stmt_at e (expr_from v e k) (cond_from v e k) (block_from v e k) ns i) (s, j) h in
      stmt_at_lem v small e k ns (block-sound k v small e) i s j o.0 (came_act v (suc k) i o.0 o.1) o.2

  pub block-sound : (k : ℕ) (v : View) (small : Small v) (e : Env) (ns : List ℕ) (i : ℕ) (s : Size) (j : ℕ) → block_from v e k ns i ≡ Ok (s, j) → StandsB v e k ns i s j
  block-sound zero v small e ns i s j h =
      let o = onward_ok (onward (arrived v 0 i) (as_block i)) (λ _. Err (Nesting i)) (s, j) h in
      absurd (omega (arith, (came_block v 0 i o.0 o.1).level))
  block-sound (suc k) v small e ns i s j h =
      let o = onward_ok (onward (arrived v (suc k) i) (as_block i)) (λ n. items_from (stmt_from v e k ns) n (size 0 0) (i + 1)) (s, j) h in
      block_at v e k ns (stmt_sound k v small e ns) i s j o.0 (came_block v (suc k) i o.0 o.1) o.2
