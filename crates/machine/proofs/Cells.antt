-- What the cells of an activation do to the lists that they hold.
use Rattle.std.proofs.Common.{◌≡◌, ℕ, zero, suc, ◌+◌, ◌-◌, ◌<◌, ◌≤◌, true, false, ltb, ◌≢◌, List, [], ◌∷◌, length, get_or, take, drop, reverse, set, ℤ, pos, None, Ok, Err, refl, ap, arith, length-take, length-drop, take-suc, get_or-drop, get_or-set_other, get_or-set_same}
use lib.Seq.{take-set-le, take-set-lt}
use Rattle.std.proofs.lemmas.Bool.Decides.{nat_tests}
use Rattle.std.proofs.lemmas.Grind.{reverse_onto}
use Rattle.machine.specs.View.{act_of, down, seen}
use Rattle.machine.specs.Acts.{with_vars, size, pushed}
use Rattle.machine.specs.declared.state.Activation.{Activation}
use Rattle.machine.specs.declared.plan.Cause.TheVariants.{BadCode}

pub length_down : (xs : List ℤ) (lo n : ℕ) → length (down xs lo n) ≡ n
unfolding down
length_down xs lo zero = refl
length_down xs lo (suc n) = ap suc (length_down xs lo n)

-- the operands as they lie in the cells
pub down_reversed : (xs : List ℤ) (lo n : ℕ) → lo + n ≤ length xs → take n (drop lo xs) ≡ reverse (down xs lo n)
unfolding down
down_reversed xs lo zero h = refl
down_reversed xs lo (suc n) h =
    let k : n < length (drop lo xs) = simp length-drop (omega arith) in
    let t = take-suc (drop lo xs) n (pos 0) k in
    let g = get_or-drop lo xs n (pos 0) in
    let r = down_reversed xs lo n (omega arith) in
    let o = reverse_onto (down xs lo n) (get_or xs (lo + n) (pos 0)) [] in
    rw (t, g, r) (rw o refl)

-- a store outside of the operands leaves them
down-set : (xs : List ℤ) (lo n k : ℕ) (v : ℤ) → ((i : ℕ) → i < n → lo + i ≢ k) → down (set xs k v) lo n ≡ down xs lo n
unfolding down
down-set xs lo zero k v h = refl
down-set xs lo (suc n) k v h =
    let ne = h n (omega arith) in
    let e = get_or-set_other xs k (lo + n) v (pos 0) ne in
    let f = down-set xs lo n k v (λ i l. h i (omega arith)) in cc

-- the operands, one at a time
down-one : (xs : List ℤ) (lo n m : ℕ) → n ≡ suc m → down xs lo n ≡ get_or xs (lo + m) (pos 0) ∷ down xs lo m
unfolding down
down-one xs lo n m e = rw e refl

pub down_none : (xs : List ℤ) (lo n : ℕ) → n ≤ lo → down xs lo (n - lo) ≡ []
unfolding down
down_none xs lo n h = let e : n - lo ≡ 0 = omega arith in rw e refl

set_past : (ys : List ℤ) (i : ℕ) (v : ℤ) → length ys ≤ i → set ys i v ≡ ys
set_past [] i v h = refl
set_past (y ∷ ys) zero v h = let z : ⊥ = omega arith in absurd z
set_past (y ∷ ys) (suc i) v h = ap (λ (l : List ℤ). y ∷ l) (set_past ys i v (omega arith))

-- an activation in its cells
module _ (a : Activation) (l : length a.cells ≡ 64) where
  p : a.variables ≤ a.count
  p = a.ok.0

  q : a.count ≤ 64
  q = a.ok.1

  pub vars_are : length (seen a).vars ≡ a.variables
  unfolding seen
  vars_are = let x = p in let y = q in simp length-take (omega arith)

  pub counted : length (seen a).ops ≡ a.count - a.variables
  unfolding seen
  counted = length_down a.cells a.variables (a.count - a.variables)

  pub sized : size (seen a) ≡ a.count
  unfolding seen
  sized =
      let x = p in
      let y = q in
      let e = length_down a.cells a.variables (a.count - a.variables) in simp length-take (omega arith)

  pub push_full : (v : ℤ) → 64 ≤ a.count → (seen a, Err BadCode) ≡ pushed v (seen a)
  unfolding pushed
  push_full v h =
      let s = sized in
      let t : ltb (size (seen a)) 64 ≡ false = rw s (grind (arith, nat_tests)) in rw t refl

  pub push_room : (v : ℤ) → a.count < 64 → (act_of (set a.cells a.count v) a.variables (a.count + 1) a.gives a.back, Ok None) ≡ pushed v (seen a)
  unfolding seen pushed
  push_room v h =
      let x = p in
      let s = sized in
      let t : ltb (size (seen a)) 64 ≡ true = rw s (grind (arith, nat_tests)) in
      let e = down-one (set a.cells a.count v) a.variables ((a.count + 1) - a.variables) (a.count - a.variables) (omega arith) in
      let i : a.variables + (a.count - a.variables) ≡ a.count = omega arith in
      let w = get_or-set_same a.cells a.count v (pos 0) (omega arith) in
      let d = down-set a.cells a.variables (a.count - a.variables) a.count v (λ i l. omega arith) in
      let k = take-set-le a.variables a.cells a.count v p in
      let x : down (set a.cells a.count v) a.variables ((a.count + 1) - a.variables) ≡ v ∷ down a.cells a.variables (a.count - a.variables) = cc in rw t (rw (k, x) refl)

  -- a variable set
  pub set_var : (i : ℕ) (v : ℤ) → i < a.variables → act_of (set a.cells i v) a.variables a.count a.gives a.back ≡ with_vars (seen a) (set (seen a).vars i v)
  unfolding seen
  set_var i v h =
      let k = take-set-lt a.variables a.cells i v h in
      let d = down-set a.cells a.variables (a.count - a.variables) i v (λ j l. omega arith) in rw (k, d) refl

  pub set_none : (i : ℕ) (v : ℤ) → a.variables ≤ i → seen a ≡ with_vars (seen a) (set (seen a).vars i v)
  set_none i v h =
      let s = vars_are in
      let e = set_past (seen a).vars i v (omega arith) in rw e refl
