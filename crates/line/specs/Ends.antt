-- What the calls of a line answer, and what they leave.
use Rattle.std.specs.Prelude.{◌≡◌, ℕ, ◌+◌, ◌<◌, ◌≤◌, Bool, cond, List, [], ◌∷◌, ◌++◌, length, drop, Some, None, MatchBool, Option, Result, MatchResult, nat_lt, slice_index}
use Rattle.line.specs.declared.refusal.LineRefusal.{LineRefusal}
use Rattle.line.specs.declared.refusal.LineRefusal.TheVariants.{NoHold, NoRoom, TooFew}

-- The number of a refusal and the place that it tells.
abbrev pub told : LineRefusal → ℕ × ℕ
told NoHold = (50, 0)
told NoRoom = (51, 0)
told TooFew = (52, 0)

-- What stands at place i, or nothing past the end.
abbrev pub at : List ℕ → ℕ → Option ℕ
at xs i = cond (nat_lt i (length xs)) (Some (slice_index xs i)) None

-- Bytes, and the free places beside them, that a call leaves as they were.
abbrev pub Kept : List ℕ → ℕ → List ℕ → ℕ → Type 0
Kept xs free ys free' = (ys ≡ xs) × (free' ≡ free)

-- One byte more at the end of xs and one free place fewer; refused, with this number, exactly where no place is free.
abbrev pub Added : ℕ → Result (Unit {0}) LineRefusal → ℕ → List ℕ → ℕ → List ℕ → ℕ → Type 0
Added number r b xs free ys free' =
    MatchResult r (λ _. (ys ≡ xs ++ (b ∷ [])) × (free ≡ free' + 1)) (λ e. (told e ≡ (number, 0)) × (free ≡ 0) × (ys ≡ xs) × (free' ≡ free))

-- The first n bytes gone and at most n free places more; refused exactly where fewer than n wait.
abbrev pub Removed : Result (Unit {0}) LineRefusal → ℕ → List ℕ → ℕ → List ℕ → ℕ → Type 0
Removed r n xs free ys free' =
    MatchResult r (λ _. (n ≤ length xs) × (ys ≡ drop n xs) × (free ≤ free') × (free' ≤ free + n)) (λ e. (told e ≡ (52, 0)) × (length xs < n) × (ys ≡ xs) × (free' ≡ free))

-- A text sent whole, or not at all exactly where it is longer than the room.
abbrev pub Whole : Bool → List ℕ → List ℕ → ℕ → List ℕ → ℕ → Type 0
Whole r text xs free ys free' = MatchBool r ((ys ≡ xs ++ text) × (free ≡ free' + length text)) ((free < length text) × (ys ≡ xs) × (free' ≡ free))
