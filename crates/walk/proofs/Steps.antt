-- One step of each walk, at any number of levels, arguments or statements.
use Rattle.std.proofs.Common.{◌≡◌, ℕ, zero, suc, ◌+◌, ◌-◌, ◌<◌, List, [], ◌∷◌, take, drop, Some, None, Ok, Err, Option, Result, sym, refl, ap, ◌∙◌, subst, arith}
use Rattle.std.specs.List.{slice_get}
use Rattle.table.specs.Flow.{onward}
use Rattle.table.specs.Sorts.{expression_in, condition_in, statement_in, block_in}
use Rattle.table.specs.View.{View}
use Rattle.table.specs.declared.shape.Kind.{Kind}
use Rattle.table.specs.declared.shape.Expression.{Expression}
use Rattle.table.specs.declared.shape.Condition.{Condition}
use Rattle.table.specs.declared.shape.Statement.{Statement}
use Rattle.table.specs.declared.shape.Shape.{Shape}
use Rattle.table.specs.declared.sort.WrongSort.{WrongSort}
use Rattle.language.specs.Rules.{Env}
use Rattle.walk.specs.Bodies.{bodies_from, function_from}
use Rattle.walk.specs.Walk.{Answer, arrived, sorted_at, TakenFor, as_value, as_test, as_act, as_block, expr_at, expr_from, args_from, added, cond_at, cond_from, stmt_at, stmt_from, block_from, items_from, beside, size}
use Rattle.walk.specs.declared.found.Found.{Found}
use Rattle.walk.specs.declared.found.Size.{Size}

pub nth-take : {A : Type 0} (n i : ℕ) (xs : List A) → i < n → slice_get (take n xs) i ≡ slice_get xs i
nth-take zero i xs h = absurd (omega arith)
nth-take (suc n) i [] h = refl
nth-take (suc n) zero (x ∷ xs) h = refl
nth-take (suc n) (suc i) (x ∷ xs) h = nth-take n i xs (omega arith)

module _ (one : ℕ → Answer (Found × ℕ)) where
  pub args_step : (ks : List Kind) (n i : ℕ) (k : Kind) (a : Option Size) (j : ℕ) → slice_get ks i ≡ Some k →
      args_from one (drop i ks) n a j ≡ onward (one j) (λ p. args_from one (drop (i + 1) ks) (n + 1) (added a n k p.0) p.1)
  args_step [] n i k a j h = absurd (grind arith)
  args_step (x ∷ ks) n zero k a j h = let e : x ≡ k = grind arith in rw e
  args_step (x ∷ ks) n (suc i) k a j h = let e : suc i + 1 ≡ suc (i + 1) = omega arith in rw e (args_step ks n i k a j h)

  pub args_end : (ks : List Kind) (n i : ℕ) (a : Option Size) (j : ℕ) → slice_get ks i ≡ None → args_from one (drop i ks) n a j ≡ Ok (a, j)
  args_end [] n zero a j h = refl
  args_end [] n (suc i) a j h = refl
  args_end (x ∷ ks) n zero a j h = absurd (grind arith)
  args_end (x ∷ ks) n (suc i) a j h = args_end ks n i a j h

-- Arrival at a node of a sort, by the conversion that takes a shape for it.
pub taken_when : {A : Type 0} (gives : Shape → Result A WrongSort → Type 0) (i : ℕ) (a : Answer Shape) (s : Shape) (w : Result A WrongSort) →
    Ok s ≡ a → gives s w → TakenFor gives i a (sorted_at i w)
taken_when gives i a s w e g = let P : Answer Shape → Type 0 = λ b. TakenFor gives i b (sorted_at i w) in subst P e (w, g, refl)

taken_is : {A : Type 0} (take : Shape → Result A WrongSort) (i : ℕ) (a : Answer Shape) (r : Answer A) →
    TakenFor (λ s w. w ≡ take s) i a r → r ≡ onward a (λ s. sorted_at i (take s))
taken_is take i (Err e) r h = h
taken_is take i (Ok s) r h = h.2 ∙ ap (λ w. sorted_at i w) h.1

pub items_step : (one : ℕ → Answer (Size × ℕ)) (n : ℕ) (a : Size) (j : ℕ) → 0 < n →
    items_from one n a j ≡ onward (one j) (λ p. items_from one (n - 1) (beside a p.0) p.1)
items_step one zero a j h = absurd (omega arith)
items_step one (suc n) a j h = let e : suc n - 1 ≡ n = omega arith in rw e

module _ (v : View) (e : Env) where
  pub expr_step : (k i : ℕ) → expr_from v e k i ≡ onward (onward (arrived v k i) (as_value i)) (expr_at e (expr_from v e (k - 1)) i)
  expr_step zero i = grind arith
  expr_step (suc k) i = let q : suc k - 1 ≡ k = omega arith in rw q

  pub expr_after : (k i : ℕ) (r : Answer Expression) → TakenFor (λ s w. w ≡ expression_in s) i (arrived v k i) r →
      expr_from v e k i ≡ onward r (expr_at e (expr_from v e (k - 1)) i)
  expr_after k i r h =
      expr_step k i ∙ ap (λ a. onward a (expr_at e (expr_from v e (k - 1)) i)) (sym (taken_is expression_in i (arrived v k i) r h))

  pub cond_step : (k i : ℕ) →
      cond_from v e k i ≡ onward (onward (arrived v k i) (as_test i)) (cond_at (expr_from v e (k - 1)) (cond_from v e (k - 1)) i)
  cond_step zero i = grind arith
  cond_step (suc k) i = let q : suc k - 1 ≡ k = omega arith in rw q

  pub cond_after : (k i : ℕ) (r : Answer Condition) → TakenFor (λ s w. w ≡ condition_in s) i (arrived v k i) r →
      cond_from v e k i ≡ onward r (cond_at (expr_from v e (k - 1)) (cond_from v e (k - 1)) i)
  cond_after k i r h =
      cond_step k i
      ∙ ap (λ a. onward a (cond_at (expr_from v e (k - 1)) (cond_from v e (k - 1)) i)) (sym (taken_is condition_in i (arrived v k i) r h))

  pub stmt_step : (k : ℕ) (ns : List ℕ) (i : ℕ) →
      stmt_from v e k ns i
      ≡ onward (onward (arrived v k i) (as_act i)) (stmt_at e (expr_from v e (k - 1)) (cond_from v e (k - 1)) (block_from v e (k - 1)) ns i)
  stmt_step zero ns i = grind arith
  stmt_step (suc k) ns i = let q : suc k - 1 ≡ k = omega arith in rw q

  pub stmt_after : (k : ℕ) (ns : List ℕ) (i : ℕ) (r : Answer Statement) → TakenFor (λ s w. w ≡ statement_in s) i (arrived v k i) r →
      stmt_from v e k ns i ≡ onward r (stmt_at e (expr_from v e (k - 1)) (cond_from v e (k - 1)) (block_from v e (k - 1)) ns i)
  stmt_after k ns i r h =
      stmt_step k ns i
      ∙ ap (λ a. onward a (stmt_at e (expr_from v e (k - 1)) (cond_from v e (k - 1)) (block_from v e (k - 1)) ns i)) (sym (taken_is statement_in i (arrived v k i) r h))

  pub block_step : (k : ℕ) (ns : List ℕ) (i : ℕ) →
      block_from v e k ns i
      ≡ onward (onward (arrived v k i) (as_block i)) (λ n. items_from (stmt_from v e (k - 1) ns) n (size 0 0) (i + 1))
  block_step zero ns i = grind arith
  block_step (suc k) ns i = let q : suc k - 1 ≡ k = omega arith in rw q

  pub block_after : (k : ℕ) (ns : List ℕ) (i : ℕ) (r : Answer ℕ) → TakenFor (λ s w. w ≡ block_in s) i (arrived v k i) r →
      block_from v e k ns i ≡ onward r (λ n. items_from (stmt_from v e (k - 1) ns) n (size 0 0) (i + 1))
  block_after k ns i r h =
      block_step k ns i
      ∙ ap (λ a. onward a (λ n. items_from (stmt_from v e (k - 1) ns) n (size 0 0) (i + 1))) (sym (taken_is block_in i (arrived v k i) r h))

pub in_no_loop : (v : View) (e : Env) (k : ℕ) (ns : List ℕ) (i : ℕ) (r : Answer (Size × ℕ)) → ns ≡ [] → r ≡ block_from v e k ns i → r ≡ block_from v e k [] i
in_no_loop v e k ns i r q h = rw q at h

pub bodies_step : (v : View) (n f words i : ℕ) → 0 < n →
    bodies_from v n f words i ≡ onward (function_from v f words i) (λ p. bodies_from v (n - 1) (f + 1) p.0 p.1)
bodies_step v zero f words i h = absurd (omega arith)
bodies_step v (suc n) f words i h = let e : suc n - 1 ≡ n = omega arith in rw e
