-- A tree's nodes standing in a table.
use Rattle.std.specs.Prelude.{◌≡◌, ℕ, ◌+◌, ◌<◌, List, [], ◌∷◌, Some}
use Rattle.table.specs.Shapes.{shape_of}
use Rattle.table.specs.View.{View, node_at}
use Rattle.language.specs.Listing.{Placed}

-- these nodes stand from place i on
abbrev pub Spells : View → ℕ → List Placed → Type 0
Spells v i [] = Unit {0}
Spells v i (x ∷ xs) = (x.0 ≡ i) × (i < v.nodes) × (shape_of (node_at v i) ≡ Some x.1) × Spells v (i + 1) xs
