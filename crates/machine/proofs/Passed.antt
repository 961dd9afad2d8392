-- Operands passed to a called function. Assumes nothing.
use Rattle.std.proofs.Common.{◌≡◌, ℕ, zero, suc, ◌-◌, ◌≤◌, List, [], ◌∷◌, ◌++◌, length, take, drop, reverse, replicate, ℤ, refl, ap, ◌∙◌, arith, length-append}
use Rattle.std.proofs.lemmas.Grind.{reverse_onto}
use Rattle.std.proofs.lemmas.List.{length-reverse, drop_all, drop-append-le}
use Rattle.machine.specs.View.{down}
use Rattle.machine.specs.States.{args}

-- the upper operands, as they lie in the cells
pub args_are : (p : ℕ) (ops : List ℤ) → p ≤ length ops → drop (length (reverse ops) - p) (reverse ops) ≡ args p ops
unfolding args
args_are zero ops h = drop_all (length (reverse ops) - 0) (reverse ops) (omega arith)
args_are (suc p) [] h = absurd (omega arith)
args_are (suc p) (v ∷ ops) h =
    let r = args_are p ops (omega arith) in
    let o = reverse_onto ops v [] in
    let l = length-reverse ops in
    let m = length-reverse (v ∷ ops) in
    let i : length (reverse (v ∷ ops)) - suc p ≡ length (reverse ops) - p = omega arith in
    let a = drop-append-le (length (reverse ops) - p) (reverse ops) (v ∷ []) (omega arith) in
    rw (i, o) (rw (a, r) refl)

pub length-args : (p : ℕ) (ops : List ℤ) → p ≤ length ops → length (args p ops) ≡ p
unfolding args
length-args zero ops h = refl
length-args (suc p) [] h = let z : ⊥ = omega arith in absurd z
length-args (suc p) (v ∷ ops) h = let r = length-args p ops (omega arith) in simp length-append (omega arith)

pub drop_down : (xs : List ℤ) (lo n k : ℕ) → k ≤ n → drop k (down xs lo n) ≡ down xs lo (n - k)
unfolding down
drop_down xs lo n zero h = let e : n - 0 ≡ n = omega arith in rw e refl
drop_down xs lo zero (suc k) h = let z : ⊥ = omega arith in absurd z
drop_down xs lo (suc n) (suc k) h = let e : suc n - suc k ≡ n - k = omega arith in drop_down xs lo n k (omega arith) ∙ rw e refl

take_rep : (v n : ℕ) (a : ℤ) → v ≤ n → take v (replicate n a) ≡ replicate v a
take_rep zero n a h = refl
take_rep (suc v) zero a h = let z : ⊥ = omega arith in absurd z
take_rep (suc v) (suc n) a h = ap (λ (l : List ℤ). a ∷ l) (take_rep v n a (omega arith))

-- the variables of a function that was called
pub passed-vars : (xs : List ℤ) (v m : ℕ) (a : ℤ) → length xs ≤ v → v - length xs ≤ m → take v (xs ++ replicate m a) ≡ xs ++ replicate (v - length xs) a
passed-vars [] v m a h k = let e : v - 0 ≡ v = omega arith in rw e (take_rep v m a (omega arith))
passed-vars (x ∷ xs) zero m a h k = let z : ⊥ = omega arith in absurd z
passed-vars (x ∷ xs) (suc v) m a h k =
    let e : suc v - suc (length xs) ≡ v - length xs = omega arith in
    rw e (ap (λ (l : List ℤ). x ∷ l) (passed-vars xs v m a (omega arith) (omega arith)))
