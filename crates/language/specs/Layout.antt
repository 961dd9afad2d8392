-- The table of a program, byte by byte.
use Rattle.std.specs.Prelude.{ℕ, ◌+◌, ◌-◌, ◌*◌, ◌/◌, ◌%◌, ◌^◌, List, [], ◌∷◌, ◌++◌, length}
use Rattle.std.specs.List.{flat_map}
use Rattle.table.specs.Shapes.{node_of}
use Rattle.table.specs.Numbers.{kind_number, result_number}
use Rattle.table.specs.declared.record.Node.{Node}
use Rattle.table.specs.declared.shape.Kind.{Kind}
use Rattle.language.specs.Tree.{Signature, Program}
use Rattle.language.specs.Listing.{Placed, list_p}
use Rattle.language.specs.Rules.{signatures}

-- version 1 (4 bits), functions (6), nodes (14)
abbrev pub header_bytes : ℕ → ℕ → List ℕ
header_bytes f n = (16 + f / 4) ∷ (f % 4 * 64 + n / 256) ∷ (n % 256) ∷ []

-- one bit for each variable from the most significant of w bits on
abbrev pub kind_bits : ℕ → List Kind → ℕ
kind_bits w [] = 0
kind_bits w (k ∷ ks) = kind_number k * 2 ^ (w - 1) + kind_bits (w - 1) ks

-- result (2 bits), parameters (4), variables (6), zero (4), kinds (32)
abbrev pub record_bytes : ℕ → ℕ → ℕ → ℕ → List ℕ
record_bytes result parameters variables kinds =
    (result * 64 + parameters * 4 + variables / 16) ∷ (variables % 16 * 16)
    ∷ (kinds / 2 ^ 24) ∷ (kinds / 2 ^ 16 % 256) ∷ (kinds / 2 ^ 8 % 256) ∷ (kinds % 256) ∷ []

abbrev pub signature_bytes : Signature → List ℕ
signature_bytes s = record_bytes (result_number s.result) s.parameters (length s.variables) (kind_bits 32 s.variables)

-- kind (6 bits), aux (2), operand (16)
abbrev pub node_bytes : Node → List ℕ
node_bytes n = (n.kind * 4 + n.aux) ∷ (n.operand / 256) ∷ (n.operand % 256) ∷ []

abbrev pub placed_bytes : Placed → List ℕ
placed_bytes x = node_bytes (node_of x.1)

-- header, function records, node records
unfoldable pub layout : Program → List ℕ
layout P = header_bytes (length P) (length (list_p P)) ++ (flat_map signature_bytes (signatures P) ++ flat_map placed_bytes (list_p P))
