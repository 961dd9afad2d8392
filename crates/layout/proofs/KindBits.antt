-- The kinds of a function's variables as bits of a number.
use Rattle.std.proofs.Common.{◌≡◌, ℕ, zero, suc, ◌+◌, ◌-◌, ◌*◌, ◌/◌, ◌%◌, ◌^◌, ◌<◌, ◌≤◌, cond, eqb, List, [], ◌∷◌, map, length, sym, refl, ap, ◌∙◌, mod-lt, mod-eq_of_lt, pow-suc, arith}
use Rattle.std.specs.List.{range_with_len}
use Rattle.std.proofs.lemmas.Nat.{pow_pos, mod-pow-add, shr_high}
use Rattle.std.proofs.lemmas.Bool.Decides.{nat_tests}
use Rattle.table.specs.Fields.{kind_bit}
use Rattle.table.specs.declared.shape.Kind.{Kind}
use Rattle.table.specs.declared.shape.Kind.TheVariants.{Int, Byte}
use Rattle.table.specs.Numbers.{kind_number}
use Rattle.language.specs.Layout.{kind_bits}

-- the kinds of n slots, from the most significant of the low w bits of K on
abbrev kinds_in : ℕ → ℕ → ℕ → List Kind
kinds_in K w zero = []
kinds_in K w (suc n) = cond (eqb (K / 2 ^ (w - 1) % 2) 0) Int Byte ∷ kinds_in K (w - 1) n

slots : (K a n : ℕ) → a + n ≤ 32 → map (kind_bit K) (range_with_len a n) ≡ kinds_in K (32 - a) n
slots K a zero h = refl
slots K a (suc n) h =
    let e : 31 - a ≡ 32 - a - 1 = omega arith in
    let m : 32 - (a + 1) ≡ 32 - a - 1 = omega arith in
    rw (e, slots K (a + 1) n (omega arith), m)

-- a number's top bit and the others
digit : (b c w r q : ℕ) → r < 2 ^ w → q < 2 ^ w → b * 2 ^ w + r ≡ c * 2 ^ w + q → (b ≡ c) × (r ≡ q)
digit b c w r q l m e =
    let s : b ≡ c = sym (shr_high b w r l) ∙ ap (λ x. x / 2 ^ w) e ∙ shr_high c w q m in
    (s, omega (arith, ap (λ x. x * 2 ^ w) s))

split : (K w : ℕ) → K % 2 ^ suc w ≡ K / 2 ^ w % 2 * 2 ^ w + K % 2 ^ w
split K w = let e : suc w ≡ 1 + w = omega arith in rw e (mod-pow-add K 1 w)

kind_of : (b : ℕ) (k : Kind) → b ≡ kind_number k → cond (eqb b 0) Int Byte ≡ k
kind_of b Int h = rw h
kind_of b Byte h = rw h

number_of : (b : ℕ) → b < 2 → kind_number (cond (eqb b 0) Int Byte) ≡ b
number_of b h = grind (arith, nat_tests)

at_most : (k : Kind) (x : ℕ) → kind_number k * x ≤ x
at_most k x = grind arith

below : (w : ℕ) (ks : List Kind) → length ks ≤ w → kind_bits w ks < 2 ^ w
below w [] h = pow_pos w
below zero (k ∷ ks) h = absurd (omega arith)
below (suc w) (k ∷ ks) h =
    let m : suc w - 1 ≡ w = omega arith in
    rw m (omega (arith, below w ks (omega arith), pow-suc 2 w, at_most k (2 ^ w)))

bits_read : (K w : ℕ) (ks : List Kind) → length ks ≤ w → K % 2 ^ w ≡ kind_bits w ks → kinds_in K w (length ks) ≡ ks
bits_read K w [] h e = refl
bits_read K zero (k ∷ ks) h e = absurd (omega arith)
bits_read K (suc w) (k ∷ ks) h e =
    let m : suc w - 1 ≡ w = omega arith in
    let d = digit (K / 2 ^ w % 2) (kind_number k) w (K % 2 ^ w) (kind_bits w ks) (mod-lt K (pow_pos w)) (below w ks (omega arith))
    (sym (split K w) ∙ (rw m at e)) in
    rw (m, kind_of (K / 2 ^ w % 2) k d.0) (ap (λ t. k ∷ t) (bits_read K w ks (omega arith) d.1))

bits_back : (K w n : ℕ) → n ≤ w → kind_bits w (kinds_in K w n) + K % 2 ^ (w - n) ≡ K % 2 ^ w
bits_back K w zero h = let e : w - 0 ≡ w = omega arith in rw e (omega arith)
bits_back K zero (suc n) h = absurd (omega arith)
bits_back K (suc w) (suc n) h =
    let m : suc w - 1 ≡ w = omega arith in
    let l : suc w - suc n ≡ w - n = omega arith in
    rw (m, l, number_of (K / 2 ^ w % 2) (omega arith)) (omega (arith, split K w, bits_back K w n (omega arith)))

whole : (ks : List Kind) → length ks ≤ 32 → kind_bits 32 ks % 2 ^ 32 ≡ kind_bits 32 ks
whole ks h = mod-eq_of_lt (below 32 ks h)

-- the bits of kinds are read as those kinds, and past them there is none
pub kinds-read : (ks : List Kind) → length ks ≤ 32 → map (kind_bit (kind_bits 32 ks)) (range_with_len 0 (length ks)) ≡ ks
kinds-read ks h = slots (kind_bits 32 ks) 0 (length ks) (omega arith) ∙ bits_read (kind_bits 32 ks) 32 ks h (whole ks h)

pub kinds-unused : (ks : List Kind) → length ks ≤ 32 → kind_bits 32 ks % 2 ^ (32 - length ks) ≡ 0
kinds-unused ks h =
    omega (arith, bits_back (kind_bits 32 ks) 32 (length ks) h, whole ks h, ap (kind_bits 32) (bits_read (kind_bits 32 ks) 32 ks h (whole ks h)))

-- bits with none past the n-th are those of the kinds that they are read as
pub kinds_written : (K n : ℕ) → n ≤ 32 → K < 2 ^ 32 → K % 2 ^ (32 - n) ≡ 0 → kind_bits 32 (map (kind_bit K) (range_with_len 0 n)) ≡ K
kinds_written K n h l z =
    let k : K % 2 ^ 32 ≡ K = mod-eq_of_lt l in
    ap (kind_bits 32) (slots K 0 n (omega arith)) ∙ omega (arith, bits_back K 32 n h)
