-- What is written is read back.
use Rattle.std.proofs.Common.{◌≡◌, ℕ, ◌+◌, ◌-◌, ◌^◌, ◌<◌, ◌≤◌, true, false, List, ◌∷◌, ◌++◌, length, take, drop, set, ℤ, pos, negsuc, nat_abs, Some, decimal as unsigned, sym, refl, ap, ◌∙◌, arith, length-append, w16, SFits, to_z, of_z}
use lib.Signed.{lt_z}
use Rattle.std.proofs.lemmas.List.{get_or_append_left, take_at, get_or_at, drop-set}
use Rattle.std.proofs.lemmas.Int.{ints, to_z-of_z}
use Rattle.std.proofs.lemmas.Bool.{both_ways}
use Rattle.std.proofs.lemmas.Str.Parse.{not_in_digits}
use Rattle.std.proofs.lemmas.Fmt.{digits_decimal, digits_value-decimal, length-decimal-le, decimal_nonempty}
use Rattle.number.specs.declared.text.Reading.TheVariants.{Took}
use Rattle.number.specs.Number.{Kind, Cells, Within}
use Rattle.number.specs.Reading.{reading, numeral, ReadBack}
use Rattle.number.specs.Decimal.{decimal}
use Rattle.number.proofs.Feeds.{First, found}
use Rattle.number.proofs.Figures.{own, numeral_some}
use Rattle.number.proofs.Readings.{outcome, takes_number}

-- A byte put before what is written.
pub put-before : (bs : List ℕ) (s v : ℕ) → 0 < s → s ≤ length bs → drop (s - 1) (set bs (s - 1) v) ≡ v ∷ drop s bs
put-before bs s v p q =
    let e : (s - 1) + 1 ≡ s = omega arith in
    drop-set bs (s - 1) v (omega arith) ∙ ap (λ (i : ℕ). v ∷ drop i bs) e

-- The sign of a number tells which text it has.
plain : (n : ℤ) → lt_z n (pos 0) ≡ false → unsigned (nat_abs n) ≡ decimal n
unfolding decimal
plain (pos a) h = refl
plain (negsuc a) h = absurd (both_ways true h refl)

minus : (n : ℤ) → lt_z n (pos 0) ≡ true → (45 ∷ unsigned (nat_abs n)) ≡ decimal n
unfolding decimal
minus (pos a) h = absurd (omega (arith, ints, h))
minus (negsuc a) h = refl

pub writes-plain : (n : ℤ) (m : ℕ) (text : List ℕ) → SFits w16 n → m ≡ nat_abs (to_z w16 (of_z w16 n)) → lt_z (to_z w16 (of_z w16 n)) (pos 0) ≡ false → text ≡ unsigned m → text ≡ decimal n
writes-plain n m text f e h t =
    let z = to_z-of_z w16 n f in
    t ∙ (ap unsigned (e ∙ ap nat_abs z) ∙ plain n (ap (λ (x : ℤ). lt_z x (pos 0)) (sym z) ∙ h))

pub writes-minus : (n : ℤ) (m : ℕ) (text : List ℕ) → SFits w16 n → m ≡ nat_abs (to_z w16 (of_z w16 n)) → lt_z (to_z w16 (of_z w16 n)) (pos 0) ≡ true → text ≡ unsigned m → (45 ∷ text) ≡ decimal n
writes-minus n m text f e h t =
    let z = to_z-of_z w16 n f in
    ap (λ (x : List ℕ). 45 ∷ x) (t ∙ ap unsigned (e ∙ ap nat_abs z)) ∙ minus n (ap (λ (x : ℤ). lt_z x (pos 0)) (sym z) ∙ h)

-- A number below 100000 has at most five digits.
pub five : (m : ℕ) → m < 100000 → length (unsigned m) ≤ 5
five m h = length-decimal-le 5 m (omega arith) h (omega arith)

-- The line feed behind the digits of a number below 100000 is the first one.
first-behind : (a : ℕ) (more : List ℕ) → a < 100000 → First 8 (unsigned a ++ (10 ∷ more)) (length (unsigned a))
first-behind a more h =
    let u : a < 2 ^ 64 = omega arith in
    let l = five a h in
    let s = length-append (unsigned a) (10 ∷ more) in
    record {
      among = omega arith;
      inside = omega arith;
      before = λ k p q e. not_in_digits own (unsigned a) 10 (digits_decimal own a u) (λ d. omega arith) k p (sym (get_or_append_left (unsigned a) (10 ∷ more) 0 k p) ∙ e);
      feed = get_or_at (unsigned a) 10 more 0 (length (unsigned a)) refl;
    }

number_back : (a : ℕ) (k : Kind) (more : List ℕ) → Cells k → Within k (pos a) → reading k (unsigned a ++ (10 ∷ more)) ≡ Took (pos a) (length (unsigned a) + 1)
number_back a k more c w =
    let h : a < 100000 = omega (arith, ints) in
    let u : a < 2 ^ 64 = omega arith in
    let i = length (unsigned a) in
    let t : take i (unsigned a ++ (10 ∷ more)) ≡ unsigned a = take_at (unsigned a) (10 ∷ more) i refl in
    let o : Some a ≡ numeral (unsigned a) = ap Some (sym (digits_value-decimal own a u)) ∙ sym (numeral_some (unsigned a) (decimal_nonempty a u) (digits_decimal own a u)) in
    sym (outcome k (unsigned a ++ (10 ∷ more)) i (Some a) (Took (pos a) (i + 1)) (found 8 (unsigned a ++ (10 ∷ more)) i (first-behind a more h)) (o ∙ ap numeral (sym t)) (takes_number k c a (i + 1) (omega (arith, ints))))

pub reads_back : (n : ℤ) (text : List ℕ) → text ≡ decimal n → ReadBack n text
unfolding decimal
reads_back (pos a) text e k more c w h = rw e (number_back a k more c w)
reads_back (negsuc a) text e k more c w h = absurd (omega (arith, ints))
