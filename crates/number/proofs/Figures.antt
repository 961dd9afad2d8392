-- Texts of digits and the numbers that they write.
use Rattle.std.proofs.Common.{◌≡◌, ℕ, ◌+◌, ◌-◌, ◌*◌, ◌<◌, ◌≤◌, true, List, [], ◌∷◌, ◌++◌, length, get_or, take, Some, None, sym, refl, ap, ◌∙◌, ⊎_elim, arith, rules}
use Rattle.std.specs.Int.{IsInRange}
use Rattle.std.specs.Str.{all_ascii_digits}
use Rattle.std.proofs.lemmas.List.{take_more, take_all, length-take-le}
use Rattle.std.proofs.lemmas.Str.Parse.{IsNumeralModel, numerals_by_fold, tells_all_ascii_digits, digits_value_short, not_in_digits}
use Rattle.std.proofs.lemmas.Bool.{cases_Bool, le-ltb, lt-ltb, and_parts, and_from}
use Rattle.std.proofs.lemmas.Bool.Decides.{nat_tests}
use Rattle.number.specs.Reading.{value_after, numeral}

pub own : IsNumeralModel (λ ds. all_ascii_digits ds ≡ true) (value_after 0)
unfolding value_after
own = numerals_by_fold _ tells_all_ascii_digits value_after (search rules)

after : (n : ℕ) (xs : List ℕ) (d : ℕ) → value_after n (xs ++ (d ∷ [])) ≡ value_after n xs * 10 + (d - 48)
unfolding value_after
after n [] d = refl
after n (x ∷ xs) d = after (n * 10 + (x - 48)) xs d

-- One digit more.
pub value_more : (xs : List ℕ) (i : ℕ) → i < length xs → value_after 0 (take (i + 1) xs) ≡ value_after 0 (take i xs) * 10 + (get_or xs i 0 - 48)
value_more xs i h = ap (value_after 0) (take_more xs i 0 h) ∙ after 0 (take i xs) (get_or xs i 0)

digits_all : (xs : List ℕ) (d : ℕ) → all_ascii_digits xs ≡ true → 48 ≤ d → d ≤ 57 → all_ascii_digits (xs ++ (d ∷ [])) ≡ true
digits_all [] d h p q = grind (arith, nat_tests)
digits_all (x ∷ xs) d h p q = let r = and_parts _ _ h in and_from _ _ r.0 (digits_all xs d r.1 p q)

pub digits_more : (xs : List ℕ) (i : ℕ) → i < length xs → all_ascii_digits (take i xs) ≡ true → 48 ≤ get_or xs i 0 → get_or xs i 0 ≤ 57 → all_ascii_digits (take (i + 1) xs) ≡ true
digits_more xs i h a p q = ap all_ascii_digits (take_more xs i 0 h) ∙ digits_all (take i xs) (get_or xs i 0) a p q

-- At most seven digits leave room for one more in 32 bits.
pub value_small : (xs : List ℕ) (i : ℕ) → length xs ≤ 7 → i < length xs → all_ascii_digits (take i xs) ≡ true → value_after 0 (take i xs) < 1000000
value_small xs i s h a = digits_value_short own (take i xs) 6 a (rw (length-take-le i xs (omega arith)) (omega arith))

pub numeral-empty : (xs : List ℕ) → length xs ≡ 0 → numeral xs ≡ None
unfolding numeral
numeral-empty xs h = rw (le-ltb 0 (length xs) (omega arith)) refl

pub numeral-other : (xs : List ℕ) (i : ℕ) → i < length xs → (IsInRange 48 57 (get_or xs i 0) → ⊥) → numeral xs ≡ None
unfolding numeral
numeral-other xs i h o = ⊎_elim (λ t. absurd (not_in_digits own xs (get_or xs i 0) t o i h refl)) (λ f. rw f (grind (arith, nat_tests))) (cases_Bool (all_ascii_digits xs))

pub numeral_some : (xs : List ℕ) → 0 < length xs → all_ascii_digits xs ≡ true → numeral xs ≡ Some (value_after 0 xs)
unfolding numeral
numeral_some xs h a = rw (a, lt-ltb 0 (length xs) h) refl

-- What has been read to the end of the text.
pub numeral-read : (xs : List ℕ) (i v : ℕ) → (length xs ≡ 0 → ⊥) → length xs ≤ i → all_ascii_digits (take i xs) ≡ true → v ≡ value_after 0 (take i xs) → Some v ≡ numeral xs
numeral-read xs i v o h a e =
    let t = take_all i xs h in
    let d : all_ascii_digits xs ≡ true = ap all_ascii_digits (sym t) ∙ a in
    let w : v ≡ value_after 0 xs = e ∙ ap (value_after 0) t in
    ap Some w ∙ sym (numeral_some xs (omega (arith, o)) d)
