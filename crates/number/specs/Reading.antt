-- What becomes of a reading of a number, given the bytes that wait.
use Rattle.std.specs.Prelude.{◌≡◌, ℕ, zero, suc, ◌+◌, ◌-◌, ◌*◌, cond, ◌&&◌, List, [], ◌∷◌, ◌++◌, length, take, ℤ, pos, ◌≤ℤ◌, Some, None, Option, ◌==◌, ◌≢◌, nat_lt}
use Rattle.std.specs.Str.{all_ascii_digits}
use Rattle.number.specs.declared.text.Reading.{Reading}
use Rattle.number.specs.declared.text.Reading.TheVariants.{Wait, Refused, Took}
use Rattle.number.specs.Number.{Kind, Within, Cells, in_range}

abbrev pub one_on : Option ℕ → Option ℕ
one_on None = None
one_on (Some i) = Some (suc i)

-- The place of the first line feed (0A) among the first n bytes.
unfoldable pub feed_among : ℕ → List ℕ → Option ℕ
feed_among zero bs = None
feed_among (suc n) [] = None
feed_among (suc n) (b ∷ bs) = cond (b == 10) (Some 0) (one_on (feed_among n bs))

-- The number that digits write behind the number n, leading zeros allowed.
unfoldable pub value_after : ℕ → List ℕ → ℕ
value_after n [] = n
value_after n (d ∷ ds) = value_after (n * 10 + (d - 48)) ds

-- The number that a text of one or more digits writes.
unfoldable pub numeral : List ℕ → Option ℕ
numeral text = cond (nat_lt 0 (length text) && all_ascii_digits text) (Some (value_after 0 text)) None

-- A number of the kind is taken, with n bytes.
unfoldable pub taken : Kind → ℕ → Option ℕ → Reading
taken k n None = Refused
taken k n (Some v) = cond (in_range k (pos v)) (Took (pos v) n) Refused

-- A text is judged when its line feed has come: it is then taken with its line feed, or refused.
-- Without a line feed fewer than eight bytes wait for more, and eight are refused.
unfoldable pub judged : Kind → List ℕ → Option ℕ → Reading
judged k bytes None = cond (nat_lt (length bytes) 8) Wait Refused
judged k bytes (Some i) = taken k (i + 1) (numeral (take i bytes))

-- The outcome of a reading. It looks at the first eight bytes only.
unfoldable pub reading : Kind → List ℕ → Reading
reading k bytes = judged k bytes (feed_among 8 bytes)

-- More bytes behind change no outcome but a wait.
abbrev pub Settled : Kind → List ℕ → Reading → Type 0
Settled k bytes r = (more : List ℕ) → (r ≢ Wait) → reading k (bytes ++ more) ≡ r

-- A number that is not negative is read back, in every kind that has it, from a text that writes it and a line feed,
-- whatever follows.
abbrev pub ReadBack : ℤ → List ℕ → Type 0
ReadBack n text = (k : Kind) (more : List ℕ) → Cells k → Within k n → pos 0 ≤ℤ n → reading k (text ++ (10 ∷ more)) ≡ Took n (length text + 1)
