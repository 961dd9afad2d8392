-- The kinds of number, and what arithmetic, comparison and conversion give in a kind.
use Rattle.std.specs.Prelude.{◌≡◌, ℕ, Bool, false, cond, not, ◌&&◌, ◌||◌, ℤ, pos, negsuc, ◌+ℤ◌, ◌-ℤ◌, ◌*ℤ◌, neg_ℤ, ◌≤ℤ◌, Some, None, Option, ◌==◌, int_div, int_le, int_lt, int_rem}
use Rattle.std.specs.Int.{int_rem_euclid}

-- A kind of number: the whole numbers from low to high, of which there are span.
pub record Kind : Type 0 where
  pub low : ℤ
  pub high : ℤ
  pub span : ℕ

abbrev pub int : Kind
int = record { low = negsuc 32767; high = pos 32767; span = 65536 }

abbrev pub byte : Kind
byte = record { low = pos 0; high = pos 255; span = 256 }

-- n is a number of the kind.
pub record Within (k : Kind) (n : ℤ) : Type 0 where
  pub least : k.low ≤ℤ n
  pub most : n ≤ℤ k.high

-- The same as a test.
unfoldable pub in_range : Kind → ℤ → Bool
in_range k n = int_le k.low n && int_le n k.high

-- n brought into the kind by a multiple of the span.
unfoldable pub folded : Kind → ℤ → ℤ
folded k n = int_rem_euclid (n -ℤ k.low) (pos k.span) +ℤ k.low

-- r is a number of the kind that differs from n by a multiple of the span, and the only one.
pub record Folds (k : Kind) (n r : ℤ) : Type 0 where
  pub within : Within k r
  pub apart : (m : ℤ) × (n ≡ r +ℤ (m *ℤ pos k.span))
  pub only : (q m : ℤ) → Within k q → n ≡ q +ℤ (m *ℤ pos k.span) → q ≡ r

-- The law of a kind.
abbrev pub Folding : Kind → Type 0
Folding k = (n : ℤ) → Folds k n (folded k n)

-- The kind's numbers fit a signed cell of 16 bits, 0 is one of them, and the span counts them.
pub record Cells (k : Kind) : Type 0 where
  pub bottom : negsuc 32767 ≤ℤ k.low
  pub nought : k.low ≤ℤ pos 0
  pub past : pos 0 ≤ℤ k.high
  pub top : k.high ≤ℤ pos 32767
  pub counted : pos k.span ≡ (k.high -ℤ k.low) +ℤ pos 1

-- Arithmetic: the exact result, folded.
abbrev pub sum : Kind → ℤ → ℤ → ℤ
sum k a b = folded k (a +ℤ b)

abbrev pub difference : Kind → ℤ → ℤ → ℤ
difference k a b = folded k (a -ℤ b)

abbrev pub product : Kind → ℤ → ℤ → ℤ
product k a b = folded k (a *ℤ b)

abbrev pub negation : Kind → ℤ → ℤ
negation k a = folded k (neg_ℤ a)

-- Comparison. It asks nothing of the kind.
unfoldable pub equal : ℤ → ℤ → Bool
equal (pos a) (pos b) = a == b
equal (pos a) (negsuc b) = false
equal (negsuc a) (pos b) = false
equal (negsuc a) (negsuc b) = a == b

abbrev pub unequal : ℤ → ℤ → Bool
unequal a b = not (equal a b)

abbrev pub less : ℤ → ℤ → Bool
less a b = int_lt a b

abbrev pub greater : ℤ → ℤ → Bool
greater a b = int_lt b a

abbrev pub at_most : ℤ → ℤ → Bool
at_most a b = int_le a b

abbrev pub at_least : ℤ → ℤ → Bool
at_least a b = int_le b a

-- Nothing at a zero divisor.
abbrev pub unless_zero : ℤ → ℤ → Option ℤ
unless_zero divisor n = cond (equal divisor (pos 0)) None (Some n)

-- Division drops the fraction, the remainder has the dividend's sign.
abbrev pub quotient : Kind → ℤ → ℤ → Option ℤ
quotient k a b = unless_zero b (folded k (int_div a b))

abbrev pub remainder : Kind → ℤ → ℤ → Option ℤ
remainder k a b = unless_zero b (folded k (int_rem a b))

-- A byte holds as a condition where it is not 0; the logic of bytes gives 0 or 1.
abbrev pub holds : ℤ → Bool
holds a = unequal a (pos 0)

abbrev pub bit : Bool → ℤ
bit b = cond b (pos 1) (pos 0)

abbrev pub conjunction : ℤ → ℤ → ℤ
conjunction a b = bit (holds a && holds b)

abbrev pub disjunction : ℤ → ℤ → ℤ
disjunction a b = bit (holds a || holds b)

abbrev pub inversion : ℤ → ℤ
inversion a = bit (not (holds a))

-- From a byte to the int of the same number, and from an int to a byte.
abbrev pub extended : ℤ → ℤ
extended a = a

abbrev pub shrunk : ℤ → ℤ
shrunk a = folded byte a
