-- The bytes that go round in the ring.
use Rattle.std.proofs.Common.{◌≡◌, ℕ, zero, suc, ◌+◌, ◌-◌, ◌%◌, ◌<◌, ◌≤◌, ◌≢◌, List, [], ◌∷◌, ◌++◌, length, get_or, drop, set, sym, refl, ap, ◌∙◌, add-zero, arith, get_or-set_other, get_or-set_same}
use Rattle.line.specs.Places.{around}

pub length-around : (xs : List ℕ) (f n : ℕ) → length (around xs f n) ≡ n
unfolding around
length-around xs f zero = refl
length-around xs f (suc n) = ap suc (length-around xs (f + 1) n)

pub get_or-around : (xs : List ℕ) (f n i : ℕ) → i < n → get_or (around xs f n) i 0 ≡ get_or xs ((f + i) % 256) 0
unfolding around
get_or-around xs f zero i h = omega arith
get_or-around xs f (suc n) zero h = rw (add-zero f) refl
get_or-around xs f (suc n) (suc i) h =
    let l : i < n = omega arith in
    let e : (f + 1) + i ≡ f + suc i = omega arith in
    get_or-around xs (f + 1) n i l ∙ ap (λ (k : ℕ). get_or xs (k % 256) 0) e

pub drop-around : (xs : List ℕ) (f n m : ℕ) → m ≤ n → drop m (around xs f n) ≡ around xs (f + m) (n - m)
unfolding around
drop-around xs f n zero h = let z : n - 0 ≡ n = omega arith in rw (add-zero f, z) refl
drop-around xs f zero (suc m) h = let z : suc m ≤ 0 = h in grind arith
drop-around xs f (suc n) (suc m) h =
    let l : m ≤ n = omega arith in
    let e : (f + 1) + m ≡ f + suc m = omega arith in
    let d : n - m ≡ suc n - suc m = omega arith in
    drop-around xs (f + 1) n m l ∙ (ap (λ (k : ℕ). around xs k (n - m)) e ∙ ap (around xs (f + suc m)) d)

-- Only the place of f counts, and not how often it has gone round.
pub around_same : (xs : List ℕ) (f g n : ℕ) → f % 256 ≡ g % 256 → around xs f n ≡ around xs g n
unfolding around
around_same xs f g zero e = refl
around_same xs f g (suc n) e =
    let k : (f + 1) % 256 ≡ (g + 1) % 256 = omega arith in
    let r = around_same xs (f + 1) (g + 1) n k in
    let h : get_or xs (f % 256) 0 ≡ get_or xs (g % 256) 0 = ap (λ (i : ℕ). get_or xs i 0) e in cc

pub around_more : (xs : List ℕ) (f n b : ℕ) → n < 256 → length xs ≡ 256 → around (set xs ((f + n) % 256) b) f (n + 1) ≡ around xs f n ++ (b ∷ [])
unfolding around
around_more xs f zero b h l =
    let lt : f % 256 < length xs = omega arith in
    rw (add-zero f) (rw get_or-set_same refl)
around_more xs f (suc n) b h l =
    let ne : f % 256 ≢ (f + suc n) % 256 = omega arith in
    let e : (f + 1) + n ≡ f + suc n = omega arith in
    let m : n < 256 = omega arith in
    let r : around (set xs ((f + suc n) % 256) b) (f + 1) (n + 1) ≡ around xs (f + 1) n ++ (b ∷ []) = rw (sym e) (around_more xs (f + 1) n b m l) in
    let s : get_or (set xs ((f + suc n) % 256) b) (f % 256) 0 ≡ get_or xs (f % 256) 0 = rw get_or-set_other refl in
    let o : suc n + 1 ≡ suc (n + 1) = omega arith in
    rw o (rw (s, r) refl)
