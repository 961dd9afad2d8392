-- Bytes by their places in a buffer.
use Rattle.std.specs.Prelude.{ℕ, zero, suc, ◌+◌, ◌%◌, List, [], ◌∷◌, take, drop, slice_index}

-- The bytes from place i up to place j.
abbrev pub span : ℕ → ℕ → List ℕ → List ℕ
span i j xs = drop i (take j xs)

-- The n bytes from place f on in a buffer of 256, where the place after 255 is 0.
unfoldable pub around : List ℕ → ℕ → ℕ → List ℕ
around xs f zero = []
around xs f (suc n) = slice_index xs (f % 256) ∷ around xs (f + 1) n
