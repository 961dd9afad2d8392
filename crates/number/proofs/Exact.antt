-- Exact results in 32 bits: what the code works out by the bits of two numbers of 16 bits is the operation on the numbers.
use Rattle.std.proofs.Common.{◌≡◌, ℕ, suc, ◌*◌, ◌<◌, ◌≤◌, eqb, cond, not, Bool, true, false, ℤ, pos, negsuc, ◌+ℤ◌, ◌-ℤ◌, ◌*ℤ◌, Some, None, sym, refl, ap, ◌∙◌, mul-le-mul, div-le_self, arith, w16, w32, SFits, to_z, of_z}
use lib.Signed.{quot_z, rem_z, mag, mag_rem}
use Rattle.std.proofs.lemmas.Int.{ints, to_z-of_z}
use Rattle.std.specs.Bool.{then_some}
use Rattle.number.specs.Number.{Kind, Within, int, folded, equal, unless_zero}
use Rattle.std.proofs.lemmas.Bool.{both_ways}
use Rattle.std.proofs.lemmas.Bool.Decides.{nat_tests}
use Rattle.number.proofs.Tests.{equal_yes}

-- The operation on two numbers of 16 bits fits 32 bits.
abbrev pub Stays : (ℤ → ℤ → ℤ) → Type 0
Stays f = (x y : ℤ) → Within int x → Within int y → SFits w32 (f x y)

pub sum-stays : Stays (◌+ℤ◌)
sum-stays x y p q = omega (arith, ints)

pub difference-stays : Stays (◌-ℤ◌)
difference-stays x y p q = omega (arith, ints)

below : (x y : ℕ) → x ≤ 32768 → y ≤ 32768 → x * y ≤ 1073741824
below x y p q = mul-le-mul p q

pub product-stays : Stays (◌*ℤ◌)
product-stays (pos x) (pos y) p q = let k = below x y (omega (arith, ints)) (omega (arith, ints)) in omega (arith, ints)
product-stays (pos x) (negsuc y) p q = let k = below x (suc y) (omega (arith, ints)) (omega (arith, ints)) in omega (arith, ints)
product-stays (negsuc x) (pos y) p q = let k = below (suc x) y (omega (arith, ints)) (omega (arith, ints)) in omega (arith, ints)
product-stays (negsuc x) (negsuc y) p q = let k = below (suc x) (suc y) (omega (arith, ints)) (omega (arith, ints)) in omega (arith, ints)

pub quotient-stays : Stays quot_z
quotient-stays (pos x) (pos y) p q = let k = div-le_self x y in omega (arith, ints)
quotient-stays (pos x) (negsuc y) p q = let k = div-le_self x (suc y) in omega (arith, ints)
quotient-stays (negsuc x) (pos y) p q = let k = div-le_self (suc x) y in omega (arith, ints)
quotient-stays (negsuc x) (negsuc y) p q = let k = div-le_self (suc x) (suc y) in omega (arith, ints)

size : (x : ℤ) → Within int x → mag x < 32768
size (pos n) p = omega (arith, ints)
size (negsuc n) p = omega (arith, ints)

pub remainder-stays : Stays rem_z
remainder-stays x y p q = let k = mag_rem x y in let m = size x p in record { sfits = omega arith }

same : (z : ℤ) → Within int z → to_z w32 (of_z w32 z) ≡ z
same z p = omega (arith, ints)

pub by_bits : (f : ℤ → ℤ → ℤ) → Stays f → (x y : ℤ) → Within int x → Within int y → SFits w32 (f (to_z w32 (of_z w32 x)) (to_z w32 (of_z w32 y)))
by_bits f s x y p q = rw (same x p, same y q) (s x y p q)

-- What folding the exact result of two operands u and v gives.
pub gives : (f : ℤ → ℤ → ℤ) → Stays f → (k : Kind) (x y u v r : ℤ) → Within int x → Within int y → x ≡ u → y ≡ v → SFits w16 r
    → r ≡ folded k (to_z w32 (of_z w32 (f (to_z w32 (of_z w32 x)) (to_z w32 (of_z w32 y))))) → to_z w16 (of_z w16 r) ≡ folded k (f u v)
gives f s k x y u v r p q d e g h =
    let t : to_z w32 (of_z w32 (f (to_z w32 (of_z w32 x)) (to_z w32 (of_z w32 y)))) ≡ f x y = rw (same x p, same y q) (to_z-of_z w32 (f x y) (s x y p q)) in
    to_z-of_z w16 r g ∙ (h ∙ (ap (folded k) t ∙ rw (d, e) refl))

-- The test of the bits of two numbers is the test of the numbers.
bits_equal : (x y : ℤ) → Within int x → Within int y → eqb (of_z w32 x) (of_z w32 y) ≡ equal x y
unfolding equal
bits_equal (pos x) (pos y) p q = refl
bits_equal (pos x) (negsuc y) p q = let i : x ≤ 32767 = omega (arith, ints) in let j : y ≤ 32767 = omega (arith, ints) in grind (arith, nat_tests)
bits_equal (negsuc x) (pos y) p q = let i : x ≤ 32767 = omega (arith, ints) in let j : y ≤ 32767 = omega (arith, ints) in grind (arith, nat_tests)
bits_equal (negsuc x) (negsuc y) p q = let i : x ≤ 32767 = omega (arith, ints) in let j : y ≤ 32767 = omega (arith, ints) in grind (arith, nat_tests)

pub compares : (x y u v : ℤ) → Within int x → Within int y → x ≡ u → y ≡ v → eqb (of_z w32 x) (of_z w32 y) ≡ equal u v
compares x y u v p q d e = rw (sym d, sym e) (bits_equal x y p q)

pub compares-zero : (x u : ℤ) → Within int x → x ≡ u → eqb (of_z w32 x) 0 ≡ equal u (pos 0)
compares-zero x u p d = rw (sym d) (bits_equal x (pos 0) p (record { least = omega (arith, ints); most = omega (arith, ints) }))

-- A divisor that is 0 is none.
by_test : (b : Bool) (n : ℤ) → then_some (not b) n ≡ cond b None (Some n)
by_test true n = refl
by_test false n = refl

pub divisor_of : (y v : ℤ) → Within int y → y ≡ v → then_some (not (eqb (of_z w32 y) 0)) (to_z w32 (of_z w32 y)) ≡ unless_zero v v
divisor_of y v p e = rw (compares-zero y v p e, same y p, e) (by_test (equal v (pos 0)) v)

parted : (b : Bool) (d v : ℤ) → Some d ≡ cond b None (Some v) → (b ≡ false) × (d ≡ v)
parted true d v e = let z : ◌≡◌ {A = ℕ} 0 1 = cc in absurd (omega arith)
parted false d v e = (refl, cc)

-- A divisor that is there is the number, and not 0.
pub some_divisor : (v d : ℤ) → Within int d → Some d ≡ unless_zero v v → (d ≡ v) × (0 < of_z w32 d) × ((n : ℤ) → Some n ≡ unless_zero v n)
some_divisor v d w e =
    let p = parted (equal v (pos 0)) d v e in
    let z : d ≡ pos 0 → ⊥ = λ h. both_ways (equal v (pos 0)) p.0 (equal_yes v (pos 0) (sym p.1 ∙ h)) in
    (p.1, omega (arith, ints, z), (λ n. rw p.0 refl))
