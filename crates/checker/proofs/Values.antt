-- The walk of an expression passes exactly if a well-formed tree stands there.
use Rattle.std.proofs.Common.{◌≡◌, ℕ, zero, suc, ◌+◌, ◌-◌, ◌<◌, ◌≤◌, max, true, cond, ◌&&◌, List, [], ◌∷◌, ◌++◌, length, Some, None, Ok, Err, Option, sym, refl, ap, ◌∙◌, arith, length-append}
use Rattle.std.proofs.lemmas.Bool.{and_parts}
use Rattle.std.proofs.lemmas.Option.{cond_some}
use Rattle.std.specs.Option.{ok_or}
use Rattle.table.specs.Flow.{onward}
use Rattle.table.specs.Kinds.{operates}
use Rattle.table.specs.View.{View, node_at}
use Rattle.table.specs.declared.shape.Kind.{Kind}
use Rattle.table.specs.declared.shape.Kind.TheVariants.{Int, Byte}
use Rattle.table.specs.declared.shape.Binary.{Binary}
use Rattle.table.specs.declared.shape.Binary.TheVariants.{Add, Sub, Mul, Div, Rem, ByteAnd, ByteOr}
use Rattle.table.specs.declared.shape.Expression.{Expression}
use Rattle.table.specs.declared.shape.Expression.TheVariants.{Constant, Variable, Unary as OfOne, Binary as OfTwo, Call, Read}
use Rattle.table.specs.declared.shape.Shape.TheVariants.{Expression as Value}
use Rattle.table.proofs.Round.{decoded}
use Rattle.language.specs.Tree.{Expr, Args, constant, variable, unary, binary, call, read, none, more}
use Rattle.language.specs.Listing.{Placed, list_e, list_a}
use Rattle.language.specs.Measures.{kind_of, operand_kind, unary_kind, unary_words, levels_e, levels_a, height_e, height_a, words_e, words_a}
use Rattle.language.specs.Rules.{Env, slot_kind, called, parameter_kinds, Operates, FineE, FineA}
use Rattle.walk.specs.Walk.{arrived, as_value, called_at, with_result, judged, same_kind, found, size, sized, stacked, no_arguments, added, args_from, fitting, expr_at, expr_from}
use Rattle.walk.specs.declared.fault.CheckFault.TheVariants.{Nesting, Child, Variable as NoVariable, Function as NoFunction}
use Rattle.walk.specs.declared.found.Found.{Found}
use Rattle.walk.specs.declared.found.Size.{Size}
use Rattle.walk.proofs.Steps.{expr_step}
use Rattle.checker.specs.Spells.{Spells}
use Rattle.checker.proofs.Spelling.{onward_ok, ok_or_ok, judged_ok, same_kind_lem, kind_same, Came, came_value, came_first, arrived_is, spells-on, spells-left}

-- what a walk finds of a tree
abbrev pub found_of : Expr → Found
found_of a = found (kind_of a) (height_e a) (words_e a)

-- a tree of at most k levels that stands from i up to j, where the walk finds f
pub record StandsE (v : View) (e : Env) (k i : ℕ) (f : Found) (j : ℕ) : Type 0 where
  pub tree : Expr
  pub spells : Spells v i (list_e tree)
  pub ends : j ≡ i + length (list_e tree)
  pub fine : FineE e tree
  pub is : f ≡ found_of tree
  pub deep : levels_e tree ≤ k

-- arguments n and on, behind those taken before
abbrev pub taken : Size → ℕ → Args → Size
taken a n xs = size (max a.height (height_a n xs)) (a.words + words_a xs)

-- they stand from i up to j, each of its parameter's kind, and have size r with those before
pub record StandA (v : View) (e : Env) (k : ℕ) (ks : List Kind) (n : ℕ) (a : Option Size) (i : ℕ) (r : Size) (j : ℕ) : Type 0 where
  pub trees : Args
  pub spells : Spells v i (list_a trees)
  pub ends : j ≡ i + length (list_a trees)
  pub fine : FineA e ks trees
  pub first : Size
  pub before : a ≡ Some first
  pub is : r ≡ taken first n trees
  pub deep : levels_a trees ≤ k

added_ok : (a : Option Size) (n : ℕ) (q : Kind) (f : Found) (s : Size) → added a n q f ≡ Some s →
    (b : Size) × (a ≡ Some b) × (same_kind q f.kind ≡ true) × (size (max b.height (n + f.size.height)) (b.words + f.size.words) ≡ s)
added_ok None n q f s h = absurd (grind arith)
added_ok (Some b) n q f s h =
    let c = cond_some (same_kind q f.kind) (size (max b.height (n + f.size.height)) (b.words + f.size.words)) s h in
    (b, refl, c.0, c.1)

pub args-sound : (v : View) (e : Env) (k : ℕ) → ((i : ℕ) (f : Found) (j : ℕ) → expr_from v e k i ≡ Ok (f, j) → StandsE v e k i f j) →
    (ks : List Kind) (n : ℕ) (a : Option Size) (i : ℕ) (r : Size) (j : ℕ) →
    args_from (expr_from v e k) ks n a i ≡ Ok (Some r, j) → StandA v e k ks n a i r j
args-sound v e k ih [] n a i r j h =
    let x : r.height ≡ max r.height 0 = omega arith in
    let y : r.words ≡ r.words + 0 = omega arith in
    record { trees = none; spells = tt; ends = grind arith; fine = tt; first = r; before = grind arith; is = ap (λ m. size m r.words) x ∙ ap (λ m. size (max r.height 0) m) y; deep = omega arith }
args-sound v e k ih (q ∷ ks) n a i r j h =
    let o = onward_ok (expr_from v e k i) (λ p. args_from (expr_from v e k) ks (n + 1) (added a n q p.0) p.1) (Some r, j) h in
    let x = ih i o.0.0 o.0.1 o.1 in
    let s = args-sound v e k ih ks (n + 1) (added a n q o.0.0) o.0.1 r j o.2 in
    let b = added_ok a n q o.0.0 s.first s.before in
    let hh : max (max b.0.height (n + height_e x.tree)) (height_a (n + 1) s.trees) ≡ max b.0.height (height_a n (more x.tree s.trees)) = omega arith in
    let ww : b.0.words + words_e x.tree + words_a s.trees ≡ b.0.words + words_a (more x.tree s.trees) = omega arith in
    record {
      trees = more x.tree s.trees;
      spells = spells-on v i o.0.1 (list_e x.tree) (list_a s.trees) x.spells x.ends s.spells;
      ends = simp length-append (omega (arith, x.ends, s.ends));
      fine = (x.fine, sym (ap (λ y. y.kind) x.is) ∙ sym (same_kind_lem q o.0.0.kind b.2), s.fine);
      first = b.0;
      before = b.1;
      is =
          s.is ∙ ap (λ y. taken y (n + 1) s.trees) (sym b.3)
          ∙ ap (λ y. size (max (max b.0.height (n + y.size.height)) (height_a (n + 1) s.trees)) (b.0.words + y.size.words + words_a s.trees)) x.is
          ∙ ap (λ y. size y (b.0.words + words_e x.tree + words_a s.trees)) hh
          ∙ ap (λ y. size (max b.0.height (height_a n (more x.tree s.trees))) y) ww;
      deep = omega (arith, x.deep, s.deep);
    }

-- the arguments of a call that stand from i up to j, all of their parameters' kinds, of size r
pub record StandAll (v : View) (e : Env) (k : ℕ) (ks : List Kind) (i : ℕ) (r : Size) (j : ℕ) : Type 0 where
  pub trees : Args
  pub spells : Spells v i (list_a trees)
  pub ends : j ≡ i + length (list_a trees)
  pub fine : FineA e ks trees
  pub is : r ≡ size (height_a 0 trees) (words_a trees)
  pub deep : levels_a trees ≤ k

pub all-sound : (v : View) (e : Env) (k : ℕ) → ((i : ℕ) (f : Found) (j : ℕ) → expr_from v e k i ≡ Ok (f, j) → StandsE v e k i f j) →
    (ks : List Kind) (i m : ℕ) (a : Option Size) (r : Size) (j : ℕ) →
    args_from (expr_from v e k) ks 0 no_arguments i ≡ Ok (a, j) → fitting m a ≡ Ok r → StandAll v e k ks i r j
all-sound v e k ih ks i m a r j h g =
    let s = args-sound v e k ih ks 0 no_arguments i r j (h ∙ ap (λ y. Ok (y, j)) (ok_or_ok a (Child m) r g)) in
    let b = s.before in
    let z : s.first ≡ size 0 0 = grind arith in
    let hh : max 0 (height_a 0 s.trees) ≡ height_a 0 s.trees = omega arith in
    let ww : 0 + words_a s.trees ≡ words_a s.trees = omega arith in
    record {
      trees = s.trees;
      spells = s.spells;
      ends = s.ends;
      fine = s.fine;
      is = s.is ∙ ap (λ y. taken y 0 s.trees) z ∙ ap (λ y. size y (0 + words_a s.trees)) hh ∙ ap (λ y. size (height_a 0 s.trees) y) ww;
      deep = s.deep;
    }

operates_ok : (b : Binary) (k : Kind) → operates b k ≡ true → Operates b k
operates_ok Add k h = tt
operates_ok Sub k h = tt
operates_ok Mul k h = tt
operates_ok Div k h = tt
operates_ok Rem k h = tt
operates_ok ByteAnd Int h = sym (same_kind_lem Byte Int h)
operates_ok ByteOr Int h = sym (same_kind_lem Byte Int h)
operates_ok ByteAnd Byte h = refl
operates_ok ByteOr Byte h = refl

operates_is : (b : Binary) (k : Kind) → Operates b k → operates b k ≡ true
operates_is Add k h = refl
operates_is Sub k h = refl
operates_is Mul k h = refl
operates_is Div k h = refl
operates_is Rem k h = refl
operates_is ByteAnd k h = ap (λ q. operates ByteAnd q) h
operates_is ByteOr k h = ap (λ q. operates ByteOr q) h

module _ (v : View) (e : Env) (k : ℕ) (ih : (i : ℕ) (f : Found) (j : ℕ) → expr_from v e k i ≡ Ok (f, j) → StandsE v e k i f j) (i : ℕ) (f : Found) (j : ℕ) where
  at-sound : (s : Expression) → Came v (suc k) i (Value s) → expr_at e (expr_from v e k) i s ≡ Ok (f, j) → StandsE v e (suc k) i f j
  at-sound (Constant q n) c h =
      record { tree = constant i q n; spells = (refl, c.there, c.shape, tt); ends = grind arith; fine = (decoded (node_at v i) (Value (Constant q n)) c.shape).1; is = grind arith; deep = omega arith }
  at-sound (Variable s x) c h =
      let o = onward_ok (ok_or (slot_kind e.own e.main s x) (NoVariable i)) (λ q. Ok (found q 1 1, i + 1)) (f, j) h in
      let g = o.2 in
      record { tree = variable i s x o.0; spells = (refl, c.there, c.shape, tt); ends = grind arith; fine = ok_or_ok (slot_kind e.own e.main s x) (NoVariable i) o.0 o.1; is = grind arith; deep = omega arith }
  at-sound (OfOne u) c h =
      let o = onward_ok (expr_from v e k (i + 1)) (λ p. judged i (same_kind (operand_kind u) p.0.kind) (found (unary_kind u) p.0.size.height (p.0.size.words + unary_words u), p.1)) (f, j) h in
      let a = ih (i + 1) o.0.0 o.0.1 o.1 in
      let g = judged_ok i (same_kind (operand_kind u) o.0.0.kind) (found (unary_kind u) o.0.0.size.height (o.0.0.size.words + unary_words u), o.0.1) (f, j) o.2 in
      let z : o.0.1 ≡ j = ap (λ y. y.1) g.1 in
      record {
        tree = unary i u a.tree;
        spells = (refl, c.there, c.shape, a.spells);
        ends = omega (arith, a.ends, z);
        fine = (a.fine, sym (ap (λ y. y.kind) a.is) ∙ sym (same_kind_lem (operand_kind u) o.0.0.kind g.0));
        is = sym (ap (λ y. y.0) g.1) ∙ ap (λ y. found (unary_kind u) y.size.height (y.size.words + unary_words u)) a.is;
        deep = omega (arith, a.deep);
      }
  at-sound (OfTwo b) c h =
      let o = onward_ok (expr_from v e k (i + 1)) (λ p. onward (expr_from v e k p.1) (λ q. judged i (same_kind p.0.kind q.0.kind && operates b p.0.kind) (sized p.0.kind (stacked p.0 q.0), q.1))) (f, j) h in
      let u = onward_ok (expr_from v e k o.0.1) (λ q. judged i (same_kind o.0.0.kind q.0.kind && operates b o.0.0.kind) (sized o.0.0.kind (stacked o.0.0 q.0), q.1)) (f, j) o.2 in
      let x = ih (i + 1) o.0.0 o.0.1 o.1 in
      let y = ih o.0.1 u.0.0 u.0.1 u.1 in
      let g = judged_ok i (same_kind o.0.0.kind u.0.0.kind && operates b o.0.0.kind) (sized o.0.0.kind (stacked o.0.0 u.0.0), u.0.1) (f, j) u.2 in
      let t = and_parts (same_kind o.0.0.kind u.0.0.kind) (operates b o.0.0.kind) g.0 in
      let kx : kind_of x.tree ≡ o.0.0.kind = sym (ap (λ z. z.kind) x.is) in
      let ky : kind_of y.tree ≡ u.0.0.kind = sym (ap (λ z. z.kind) y.is) in
      let z : u.0.1 ≡ j = ap (λ w. w.1) g.1 in
      record {
        tree = binary i b o.0.0.kind x.tree y.tree;
        spells = (refl, c.there, c.shape, spells-on v (i + 1) o.0.1 (list_e x.tree) (list_e y.tree) x.spells x.ends y.spells);
        ends = simp length-append (omega (arith, x.ends, y.ends, z));
        fine = (x.fine, y.fine, kx, ky ∙ sym (same_kind_lem o.0.0.kind u.0.0.kind t.0), operates_ok b o.0.0.kind t.1);
        is = sym (ap (λ w. w.0) g.1) ∙ ap (λ w. sized o.0.0.kind (stacked w u.0.0)) x.is ∙ ap (λ w. sized o.0.0.kind (stacked (found_of x.tree) w)) y.is;
        deep = omega (arith, x.deep, y.deep);
      }
  at-sound (Call m) c h =
      let o = onward_ok (called_at e.functions m i) (λ g. onward (with_result i g) (λ q. onward (args_from (expr_from v e k) (parameter_kinds g) 0 no_arguments (i + 1)) (λ r. onward (fitting i r.0) (λ z. Ok (found q (max 1 z.height) (z.words + 1), r.1))))) (f, j) h in
      let u = onward_ok (with_result i o.0) (λ q. onward (args_from (expr_from v e k) (parameter_kinds o.0) 0 no_arguments (i + 1)) (λ r. onward (fitting i r.0) (λ z. Ok (found q (max 1 z.height) (z.words + 1), r.1)))) (f, j) o.2 in
      let w = onward_ok (args_from (expr_from v e k) (parameter_kinds o.0) 0 no_arguments (i + 1)) (λ r. onward (fitting i r.0) (λ z. Ok (found u.0 (max 1 z.height) (z.words + 1), r.1))) (f, j) u.2 in
      let g = onward_ok (fitting i w.0.0) (λ z. Ok (found u.0 (max 1 z.height) (z.words + 1), w.0.1)) (f, j) w.2 in
      let a = all-sound v e k ih (parameter_kinds o.0) (i + 1) i w.0.0 g.0 w.0.1 w.1 g.1 in
      let d : ◌≡◌ {A = Found × ℕ} (found u.0 (max 1 g.0.height) (g.0.words + 1), w.0.1) (f, j) = cc (g.2) in
      record {
        tree = call i m u.0 a.trees;
        spells = (refl, c.there, c.shape, a.spells);
        ends = omega (arith, a.ends, ap (λ y. y.1) d);
        fine = (o.0, ok_or_ok (called e.functions m) (NoFunction i) o.0 o.1, ok_or_ok o.0.result (NoFunction i) u.0 u.1, a.fine);
        is = sym (ap (λ y. y.0) d) ∙ ap (λ y. found u.0 (max 1 y.height) (y.words + 1)) a.is;
        deep = omega (arith, a.deep);
      }
  at-sound (Read q) c h =
      record { tree = read i q; spells = (refl, c.there, c.shape, tt); ends = grind arith; fine = tt; is = grind arith; deep = omega arith }

pub expr_sound : (v : View) (e : Env) (k i : ℕ) (f : Found) (j : ℕ) → expr_from v e k i ≡ Ok (f, j) → StandsE v e k i f j
expr_sound v e zero i f j h =
    let o = onward_ok (onward (arrived v 0 i) (as_value i)) (λ _. Err (Nesting i)) (f, j) h in
    absurd (omega (arith, (came_value v 0 i o.0 o.1).level))
expr_sound v e (suc k) i f j h =
    let o = onward_ok (onward (arrived v (suc k) i) (as_value i)) (expr_at e (expr_from v e k) i) (f, j) h in
    at-sound v e k (expr_sound v e k) i f j o.0 (came_value v (suc k) i o.0 o.1) o.2

-- the walk at a node of a known shape
entered : (v : View) (e : Env) (k i p : ℕ) (s : Expression) (xs : List Placed) → 0 < k → Spells v i ((p, Value s) ∷ xs) →
    expr_from v e k i ≡ expr_at e (expr_from v e (k - 1)) i s
entered v e k i p s xs l h =
    expr_step v e k i
    ∙ ap (λ r. onward (onward r (as_value i)) (expr_at e (expr_from v e (k - 1)) i)) (arrived_is v k i (Value s) (came_first v k i (p, Value s) xs l h))

mutual
  pub expr_complete : (t : Expr) (v : View) (e : Env) (k i : ℕ) → FineE e t → levels_e t ≤ k → Spells v i (list_e t) →
      expr_from v e k i ≡ Ok (found_of t, i + length (list_e t))
  expr_complete (constant p q n) v e k i f d h = entered v e k i p (Constant q n) [] d h
  expr_complete (variable p s x q) v e k i f d h =
      entered v e k i p (Variable s x) [] d h ∙ ap (λ r. onward (ok_or r (NoVariable i)) (λ w. Ok (found w 1 1, i + 1))) f
  expr_complete (unary p u a) v e k i f d h =
      let x = entered v e k i p (OfOne u) (list_e a) (omega arith) h in
      let y = expr_complete a v e (k - 1) (i + 1) f.0 (omega arith) h.3 in
      let s : same_kind (operand_kind u) (kind_of a) ≡ true = ap (λ q. same_kind (operand_kind u) q) f.1 ∙ kind_same (operand_kind u) in
      let z : i + 1 + length (list_e a) ≡ i + suc (length (list_e a)) = omega arith in
      x ∙ ap (λ r. onward r (λ w. judged i (same_kind (operand_kind u) w.0.kind) (found (unary_kind u) w.0.size.height (w.0.size.words + unary_words u), w.1))) y
      ∙ ap (λ b. judged i b (found_of (unary p u a), i + 1 + length (list_e a))) s ∙ ap (λ w. Ok (found_of (unary p u a), w)) z
  expr_complete (binary p b q a c) v e k i f d h =
      let x = entered v e k i p (OfTwo b) (list_e a ++ list_e c) (omega arith) h in
      let s = spells-left v (i + 1) (list_e a) (list_e c) h.3 in
      let y = expr_complete a v e (k - 1) (i + 1) f.0 (omega arith) s.0 in
      let z = expr_complete c v e (k - 1) (i + 1 + length (list_e a)) f.1 (omega arith) s.1 in
      let t : (same_kind (kind_of a) (kind_of c) && operates b (kind_of a)) ≡ true = rw (f.2, f.3, kind_same q) (operates_is b q f.4) in
      let w : i + 1 + length (list_e a) + length (list_e c) ≡ i + suc (length (list_e a ++ list_e c)) = simp length-append (omega arith) in
      x ∙ ap (λ r. onward r (λ m. onward (expr_from v e (k - 1) m.1) (λ n. judged i (same_kind m.0.kind n.0.kind && operates b m.0.kind) (sized m.0.kind (stacked m.0 n.0), n.1)))) y
      ∙ ap (λ r. onward r (λ n. judged i (same_kind (kind_of a) n.0.kind && operates b (kind_of a)) (sized (kind_of a) (stacked (found_of a) n.0), n.1))) z
      ∙ ap (λ g. judged i g (sized (kind_of a) (stacked (found_of a) (found_of c)), i + 1 + length (list_e a) + length (list_e c))) t
      ∙ ap (λ m. Ok (sized m (stacked (found_of a) (found_of c)), i + 1 + length (list_e a) + length (list_e c))) f.2
      ∙ ap (λ m. Ok (found_of (binary p b q a c), m)) w
  expr_complete (call p m q xs) v e k i f d h =
      let x = entered v e k i p (Call m) (list_a xs) (omega arith) h in
      let y = args-complete xs v e (k - 1) (parameter_kinds f.0) 0 (size 0 0) (i + 1) f.3 (omega arith) h.3 in
      let hh : max 1 (max 0 (height_a 0 xs)) ≡ max 1 (height_a 0 xs) = omega arith in
      let ww : 0 + words_a xs + 1 ≡ words_a xs + 1 = omega arith in
      let w : i + 1 + length (list_a xs) ≡ i + suc (length (list_a xs)) = omega arith in
      x ∙ ap (λ r. onward (ok_or r (NoFunction i)) (λ g. onward (with_result i g) (λ n. onward (args_from (expr_from v e (k - 1)) (parameter_kinds g) 0 no_arguments (i + 1)) (λ r. onward (fitting i r.0) (λ z. Ok (found n (max 1 z.height) (z.words + 1), r.1)))))) f.1
      ∙ ap (λ r. onward (ok_or r (NoFunction i)) (λ n. onward (args_from (expr_from v e (k - 1)) (parameter_kinds f.0) 0 no_arguments (i + 1)) (λ r. onward (fitting i r.0) (λ z. Ok (found n (max 1 z.height) (z.words + 1), r.1))))) f.2
      ∙ ap (λ r. onward r (λ r. onward (fitting i r.0) (λ z. Ok (found q (max 1 z.height) (z.words + 1), r.1)))) y
      ∙ ap (λ n. Ok (found q n (0 + words_a xs + 1), i + 1 + length (list_a xs))) hh
      ∙ ap (λ n. Ok (found q (max 1 (height_a 0 xs)) n, i + 1 + length (list_a xs))) ww
      ∙ ap (λ n. Ok (found_of (call p m q xs), n)) w
  expr_complete (read p q) v e k i f d h = entered v e k i p (Read q) [] d h

  pub args-complete : (xs : Args) (v : View) (e : Env) (k : ℕ) (ks : List Kind) (n : ℕ) (a : Size) (i : ℕ) → FineA e ks xs → levels_a xs ≤ k →
      Spells v i (list_a xs) → args_from (expr_from v e k) ks n (Some a) i ≡ Ok (Some (taken a n xs), i + length (list_a xs))
  args-complete none v e k [] n a i f d h =
      let x : a.height ≡ max a.height 0 = omega arith in
      let y : a.words ≡ a.words + 0 = omega arith in
      let z : i ≡ i + 0 = omega arith in
      ap (λ m. Ok (Some (size m a.words), i)) x ∙ ap (λ m. Ok (Some (size (max a.height 0) m), i)) y ∙ ap (λ m. Ok (Some (taken a n none), m)) z
  args-complete none v e k (q ∷ ks) n a i f d h = absurd f
  args-complete (more t xs) v e k [] n a i f d h = absurd f
  args-complete (more t xs) v e k (q ∷ ks) n a i f d h =
      let s = spells-left v i (list_e t) (list_a xs) h in
      let y = expr_complete t v e k i f.0 (omega arith) s.0 in
      let b : same_kind q (kind_of t) ≡ true = ap (λ m. same_kind q m) f.1 ∙ kind_same q in
      let c : Size = size (max a.height (n + height_e t)) (a.words + words_e t) in
      let z = args-complete xs v e k ks (n + 1) c (i + length (list_e t)) f.2 (omega arith) s.1 in
      let hh : max (max a.height (n + height_e t)) (height_a (n + 1) xs) ≡ max a.height (height_a n (more t xs)) = omega arith in
      let ww : a.words + words_e t + words_a xs ≡ a.words + words_a (more t xs) = omega arith in
      let w : i + length (list_e t) + length (list_a xs) ≡ i + length (list_e t ++ list_a xs) = simp length-append (omega arith) in
      ap (λ r. onward r (λ p. args_from (expr_from v e k) ks (n + 1) (added (Some a) n q p.0) p.1)) y
      ∙ ap (λ m. args_from (expr_from v e k) ks (n + 1) (cond m (Some c) None) (i + length (list_e t))) b
      ∙ z ∙ ap (λ m. Ok (Some (size m (a.words + words_e t + words_a xs)), i + length (list_e t) + length (list_a xs))) hh
      ∙ ap (λ m. Ok (Some (size (max a.height (height_a n (more t xs))) m), i + length (list_e t) + length (list_a xs))) ww
      ∙ ap (λ m. Ok (Some (taken a n (more t xs)), m)) w
