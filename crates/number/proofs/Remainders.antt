-- What the code finds by one remainder and one comparison is what folding gives.
use Rattle.std.proofs.Common.{◌≡◌, ℕ, ℤ, pos, ◌+ℤ◌, ◌-ℤ◌, ◌*ℤ◌, ◌≤ℤ◌, ◌<ℤ◌, sym, ◌∙◌, ap, arith}
use Rattle.std.proofs.Math.IntN.{+ℤ_one, +ℤ_idr, zero-*ℤ, suc_ℤ-*ℤ}
use Rattle.std.specs.Int.{int_rem_euclid}
use Rattle.std.proofs.lemmas.Int.{ints}
use Rattle.number.specs.Number.{Kind, Within, Cells, Folds, Folding, folded}
use Rattle.number.specs.Folding.{rest_of, some, only}

-- What is left of n by the span is the number itself, where that is not too high, and else one span too high.
pub fold_rest : (k : Kind) → Cells k → (n r : ℤ) → r ≡ int_rem_euclid n (pos k.span) → r ≤ℤ k.high → r ≡ folded k n
fold_rest k c n r e h =
    let t = rest_of n k.span (some k c) in
    let d = t.is in
    let w = t.whole in
    only k c n r t.times (record { least = omega (arith, ints); most = h }) (omega (arith, ints))

more : (n : ℤ) (m : ℕ) (q : ℤ) (s : ℕ) (r : ℤ) → n ≡ pos m +ℤ (q *ℤ pos s) → r ≡ pos m → n ≡ (r -ℤ pos s) +ℤ ((q +ℤ pos 1) *ℤ pos s)
more n m q s r e h =
    let d : (q +ℤ pos 1) *ℤ pos s ≡ (q *ℤ pos s) +ℤ pos s = ap (λ (x : ℤ). x *ℤ pos s) (+ℤ_one q) ∙ suc_ℤ-*ℤ q (pos s) in
    omega (arith, ints)

pub fold_less : (k : Kind) → Cells k → (n r : ℤ) → r ≡ int_rem_euclid n (pos k.span) → k.high <ℤ r → (r -ℤ pos k.span) ≡ folded k n
fold_less k c n r e h =
    let t = rest_of n k.span (some k c) in
    let d = t.is in
    let w = t.whole in
    let m = t.small in
    only k c n (r -ℤ pos k.span) (t.times +ℤ pos 1) (record { least = omega (arith, ints); most = omega (arith, ints) }) (more n t.rest t.times k.span r w (omega (arith, ints)))

-- A number of the kind stays as it is.
pub folded-within : (k : Kind) → Cells k → (n : ℤ) → Within k n → folded k n ≡ n
folded-within k c n w = sym (only k c n n (pos 0) w (sym (ap (λ (x : ℤ). n +ℤ x) (zero-*ℤ (pos k.span)) ∙ +ℤ_idr n)))

-- A number that is what folding gives has the law of folding.
pub told : (k : Kind) → Folding k → (n r x : ℤ) → x ≡ r → r ≡ folded k n → (x ≡ folded k n) × Folds k n x
told k f n r x p e = let q : x ≡ folded k n = p ∙ e in (q, rw q (f n))
