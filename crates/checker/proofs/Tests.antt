-- The walk of a condition passes exactly if a well-formed tree stands there.
use Rattle.std.proofs.Common.{◌≡◌, ℕ, zero, suc, ◌+◌, ◌-◌, ◌<◌, ◌≤◌, true, List, ◌∷◌, ◌++◌, length, Ok, Err, sym, refl, ap, ◌∙◌, arith, length-append}
use Rattle.table.specs.Flow.{onward}
use Rattle.table.specs.View.{View}
use Rattle.table.specs.declared.shape.Kind.TheVariants.{Byte}
use Rattle.table.specs.declared.shape.Condition.{Condition}
use Rattle.table.specs.declared.shape.Condition.TheVariants.{Compare, Not, Join, Holds}
use Rattle.table.specs.declared.shape.Shape.TheVariants.{Condition as Test}
use Rattle.language.specs.Tree.{Cond, compare, negate, join, holds}
use Rattle.language.specs.Listing.{Placed, list_e, list_c}
use Rattle.language.specs.Measures.{kind_of, levels_c, height_c, words_c}
use Rattle.language.specs.Rules.{Env, FineC}
use Rattle.walk.specs.Walk.{arrived, as_test, judged, same_kind, size, beside, stacked, topped, expr_from, cond_at, cond_from}
use Rattle.walk.specs.declared.fault.CheckFault.TheVariants.{Nesting}
use Rattle.walk.specs.declared.found.Size.{Size}
use Rattle.walk.proofs.Steps.{cond_step}
use Rattle.checker.specs.Spells.{Spells}
use Rattle.checker.proofs.Spelling.{onward_ok, judged_ok, same_kind_lem, kind_same, Came, came_test, came_first, arrived_is, spells-on, spells-left}
use Rattle.checker.proofs.Values.{found_of, expr_sound, expr_complete}

abbrev pub size_c : Cond → Size
size_c c = size (height_c c) (words_c c)

-- a condition of at most k levels that stands from i up to j, where the walk finds s
pub record StandsC (v : View) (e : Env) (k i : ℕ) (s : Size) (j : ℕ) : Type 0 where
  pub tree : Cond
  pub spells : Spells v i (list_c tree)
  pub ends : j ≡ i + length (list_c tree)
  pub fine : FineC e tree
  pub is : s ≡ size_c tree
  pub deep : levels_c tree ≤ k

module _ (v : View) (e : Env) (k : ℕ) (ih : (i : ℕ) (s : Size) (j : ℕ) → cond_from v e k i ≡ Ok (s, j) → StandsC v e k i s j) (i : ℕ) (s : Size) (j : ℕ) where
  at-sound : (x : Condition) → Came v (suc k) i (Test x) → cond_at (expr_from v e k) (cond_from v e k) i x ≡ Ok (s, j) → StandsC v e (suc k) i s j
  at-sound (Compare m) c h =
      let o = onward_ok (expr_from v e k (i + 1)) (λ p. onward (expr_from v e k p.1) (λ q. judged i (same_kind p.0.kind q.0.kind) (stacked p.0 q.0, q.1))) (s, j) h in
      let u = onward_ok (expr_from v e k o.0.1) (λ q. judged i (same_kind o.0.0.kind q.0.kind) (stacked o.0.0 q.0, q.1)) (s, j) o.2 in
      let x = expr_sound v e k (i + 1) o.0.0 o.0.1 o.1 in
      let y = expr_sound v e k o.0.1 u.0.0 u.0.1 u.1 in
      let g = judged_ok i (same_kind o.0.0.kind u.0.0.kind) (stacked o.0.0 u.0.0, u.0.1) (s, j) u.2 in
      let kx : kind_of x.tree ≡ o.0.0.kind = sym (ap (λ z. z.kind) x.is) in
      let ky : kind_of y.tree ≡ u.0.0.kind = sym (ap (λ z. z.kind) y.is) in
      let z : u.0.1 ≡ j = ap (λ w. w.1) g.1 in
      record {
        tree = compare i m o.0.0.kind x.tree y.tree;
        spells = (refl, c.there, c.shape, spells-on v (i + 1) o.0.1 (list_e x.tree) (list_e y.tree) x.spells x.ends y.spells);
        ends = simp length-append (omega (arith, x.ends, y.ends, z));
        fine = (x.fine, y.fine, kx, ky ∙ sym (same_kind_lem o.0.0.kind u.0.0.kind g.0));
        is = sym (ap (λ w. w.0) g.1) ∙ ap (λ w. stacked w u.0.0) x.is ∙ ap (λ w. stacked (found_of x.tree) w) y.is;
        deep = omega (arith, x.deep, y.deep);
      }
  at-sound Not c h =
      let o = onward_ok (cond_from v e k (i + 1)) (λ p. Ok (p.0, p.1)) (s, j) h in
      let a = ih (i + 1) o.0.0 o.0.1 o.1 in
      let g = o.2 in
      let z : o.0.1 ≡ j = grind (arith, g) in
      let w : s ≡ o.0.0 = grind (arith, g) in
      record { tree = negate i a.tree; spells = (refl, c.there, c.shape, a.spells); ends = omega (arith, a.ends, z); fine = a.fine; is = w ∙ a.is; deep = omega (arith, a.deep) }
  at-sound (Join m) c h =
      let o = onward_ok (cond_from v e k (i + 1)) (λ p. onward (cond_from v e k p.1) (λ q. Ok (beside p.0 q.0, q.1))) (s, j) h in
      let u = onward_ok (cond_from v e k o.0.1) (λ q. Ok (beside o.0.0 q.0, q.1)) (s, j) o.2 in
      let x = ih (i + 1) o.0.0 o.0.1 o.1 in
      let y = ih o.0.1 u.0.0 u.0.1 u.1 in
      let g = u.2 in
      let z : u.0.1 ≡ j = grind (arith, g) in
      let w : s ≡ beside o.0.0 u.0.0 = grind (arith, g) in
      record {
        tree = join i m x.tree y.tree;
        spells = (refl, c.there, c.shape, spells-on v (i + 1) o.0.1 (list_c x.tree) (list_c y.tree) x.spells x.ends y.spells);
        ends = simp length-append (omega (arith, x.ends, y.ends, z));
        fine = (x.fine, y.fine);
        is = w ∙ ap (λ n. beside n u.0.0) x.is ∙ ap (λ n. beside (size_c x.tree) n) y.is;
        deep = omega (arith, x.deep, y.deep);
      }
  at-sound Holds c h =
      let o = onward_ok (expr_from v e k (i + 1)) (λ p. judged i (same_kind Byte p.0.kind) (topped p.0, p.1)) (s, j) h in
      let a = expr_sound v e k (i + 1) o.0.0 o.0.1 o.1 in
      let g = judged_ok i (same_kind Byte o.0.0.kind) (topped o.0.0, o.0.1) (s, j) o.2 in
      let z : o.0.1 ≡ j = ap (λ y. y.1) g.1 in
      record {
        tree = holds i a.tree;
        spells = (refl, c.there, c.shape, a.spells);
        ends = omega (arith, a.ends, z);
        fine = (a.fine, sym (ap (λ y. y.kind) a.is) ∙ sym (same_kind_lem Byte o.0.0.kind g.0));
        is = sym (ap (λ y. y.0) g.1) ∙ ap topped a.is;
        deep = omega (arith, a.deep);
      }

pub cond_sound : (v : View) (e : Env) (k i : ℕ) (s : Size) (j : ℕ) → cond_from v e k i ≡ Ok (s, j) → StandsC v e k i s j
cond_sound v e zero i s j h =
    let o = onward_ok (onward (arrived v 0 i) (as_test i)) (λ _. Err (Nesting i)) (s, j) h in
    absurd (omega (arith, (came_test v 0 i o.0 o.1).level))
cond_sound v e (suc k) i s j h =
    let o = onward_ok (onward (arrived v (suc k) i) (as_test i)) (cond_at (expr_from v e k) (cond_from v e k) i) (s, j) h in
    at-sound v e k (cond_sound v e k) i s j o.0 (came_test v (suc k) i o.0 o.1) o.2

entered : (v : View) (e : Env) (k i p : ℕ) (s : Condition) (xs : List Placed) → 0 < k → Spells v i ((p, Test s) ∷ xs) →
    cond_from v e k i ≡ cond_at (expr_from v e (k - 1)) (cond_from v e (k - 1)) i s
entered v e k i p s xs l h =
    cond_step v e k i
    ∙ ap (λ r. onward (onward r (as_test i)) (cond_at (expr_from v e (k - 1)) (cond_from v e (k - 1)) i)) (arrived_is v k i (Test s) (came_first v k i (p, Test s) xs l h))

pub cond_complete : (t : Cond) (v : View) (e : Env) (k i : ℕ) → FineC e t → levels_c t ≤ k → Spells v i (list_c t) →
    cond_from v e k i ≡ Ok (size_c t, i + length (list_c t))
cond_complete (compare p m q a c) v e k i f d h =
    let x = entered v e k i p (Compare m) (list_e a ++ list_e c) (omega arith) h in
    let s = spells-left v (i + 1) (list_e a) (list_e c) h.3 in
    let y = expr_complete a v e (k - 1) (i + 1) f.0 (omega arith) s.0 in
    let z = expr_complete c v e (k - 1) (i + 1 + length (list_e a)) f.1 (omega arith) s.1 in
    let t : same_kind (kind_of a) (kind_of c) ≡ true = rw (f.2, f.3) (kind_same q) in
    let w : i + 1 + length (list_e a) + length (list_e c) ≡ i + suc (length (list_e a ++ list_e c)) = simp length-append (omega arith) in
    x ∙ ap (λ r. onward r (λ m. onward (expr_from v e (k - 1) m.1) (λ n. judged i (same_kind m.0.kind n.0.kind) (stacked m.0 n.0, n.1)))) y
    ∙ ap (λ r. onward r (λ n. judged i (same_kind (kind_of a) n.0.kind) (stacked (found_of a) n.0, n.1))) z
    ∙ ap (λ g. judged i g (stacked (found_of a) (found_of c), i + 1 + length (list_e a) + length (list_e c))) t
    ∙ ap (λ m. Ok (stacked (found_of a) (found_of c), m)) w
cond_complete (negate p c) v e k i f d h =
    let x = entered v e k i p Not (list_c c) (omega arith) h in
    let y = cond_complete c v e (k - 1) (i + 1) f (omega arith) h.3 in
    let z : i + 1 + length (list_c c) ≡ i + suc (length (list_c c)) = omega arith in
    x ∙ ap (λ r. onward r (λ p. Ok (p.0, p.1))) y ∙ ap (λ w. Ok (size_c c, w)) z
cond_complete (join p m c b) v e k i f d h =
    let x = entered v e k i p (Join m) (list_c c ++ list_c b) (omega arith) h in
    let s = spells-left v (i + 1) (list_c c) (list_c b) h.3 in
    let y = cond_complete c v e (k - 1) (i + 1) f.0 (omega arith) s.0 in
    let z = cond_complete b v e (k - 1) (i + 1 + length (list_c c)) f.1 (omega arith) s.1 in
    let w : i + 1 + length (list_c c) + length (list_c b) ≡ i + suc (length (list_c c ++ list_c b)) = simp length-append (omega arith) in
    x ∙ ap (λ r. onward r (λ m. onward (cond_from v e (k - 1) m.1) (λ n. Ok (beside m.0 n.0, n.1)))) y
    ∙ ap (λ r. onward r (λ n. Ok (beside (size_c c) n.0, n.1))) z ∙ ap (λ m. Ok (beside (size_c c) (size_c b), m)) w
cond_complete (holds p a) v e k i f d h =
    let x = entered v e k i p Holds (list_e a) (omega arith) h in
    let y = expr_complete a v e (k - 1) (i + 1) f.0 (omega arith) h.3 in
    let s : same_kind Byte (kind_of a) ≡ true = ap (λ q. same_kind Byte q) f.1 in
    let z : i + 1 + length (list_e a) ≡ i + suc (length (list_e a)) = omega arith in
    x ∙ ap (λ r. onward r (λ w. judged i (same_kind Byte w.0.kind) (topped w.0, w.1))) y
    ∙ ap (λ b. judged i b (topped (found_of a), i + 1 + length (list_e a))) s ∙ ap (λ w. Ok (topped (found_of a), w)) z
