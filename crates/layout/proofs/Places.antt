-- The bytes of a program's table, place by place.
use Rattle.std.proofs.Common.{◌≡◌, ℕ, ◌+◌, ◌-◌, ◌*◌, ◌<◌, ◌++◌, length, get_or, Some, refl, ◌∙◌, arith}
use Rattle.std.specs.List.{flat_map, slice_get}
use Rattle.std.proofs.lemmas.List.{length-append, length-map, get_or_append_left, get_or-append_right}
use Rattle.std.proofs.lemmas.Option.{slice_get_within}
use Rattle.table.specs.Fields.{byte_at}
use Rattle.language.specs.Tree.{Signature, Program}
use Rattle.language.specs.Listing.{Placed, list_p}
use Rattle.language.specs.Rules.{signatures}
use Rattle.language.specs.Layout.{layout, header_bytes, signature_bytes, placed_bytes}
use Rattle.layout.proofs.Pieces.{length-joined, get_or-joined}

pub length-signatures : (P : Program) → length (signatures P) ≡ length P
length-signatures P = length-map P (λ f. f.signature)

length_records : (P : Program) → length (flat_map signature_bytes (signatures P)) ≡ 6 * length P
length_records P = omega (arith, length-joined 6 signature_bytes (λ s. refl) (signatures P), length-signatures P)

pub length-layout : (P : Program) → length (layout P) ≡ 3 + 6 * length P + 3 * length (list_p P)
unfolding layout
length-layout P =
    omega (
      arith,
      length-append (flat_map signature_bytes (signatures P)) (flat_map placed_bytes (list_p P)),
      length_records P,
      length-joined 3 placed_bytes (λ x. refl) (list_p P),
    )

pub header-byte : (P : Program) (j : ℕ) → j < 3 → byte_at (layout P) j ≡ get_or (header_bytes (length P) (length (list_p P))) j 0
unfolding layout
header-byte P j l = get_or_append_left (header_bytes (length P) (length (list_p P))) _ 0 j l

-- past the header
after : (P : Program) (p q : ℕ) → p ≡ 3 + q →
    byte_at (layout P) p ≡ byte_at (flat_map signature_bytes (signatures P) ++ flat_map placed_bytes (list_p P)) q
unfolding layout
after P p q e =
    let m : p - 3 ≡ q = omega arith in
    get_or-append_right (header_bytes (length P) (length (list_p P))) _ 3 p 0 refl (omega arith) ∙ rw m

-- byte j of function f's record
pub record_byte : (P : Program) (f j p : ℕ) (s : Signature) → slice_get (signatures P) f ≡ Some s → j < 6 → p ≡ 3 + 6 * f + j →
    byte_at (layout P) p ≡ get_or (signature_bytes s) j 0
record_byte P f j p s h l e =
    let w = slice_get_within (signatures P) f s h in
    after P p (6 * f + j) (omega arith)
    ∙ get_or_append_left (flat_map signature_bytes (signatures P)) (flat_map placed_bytes (list_p P)) 0 (6 * f + j)
    (omega (arith, length_records P, length-signatures P))
    ∙ get_or-joined 6 signature_bytes (λ s. refl) (signatures P) f j s 0 h l

-- byte j of node i
pub node-byte : (P : Program) (i j p : ℕ) (x : Placed) → slice_get (list_p P) i ≡ Some x → j < 3 → p ≡ 3 + 6 * length P + 3 * i + j →
    byte_at (layout P) p ≡ get_or (placed_bytes x) j 0
node-byte P i j p x h l e =
    let m : 6 * length P + (3 * i + j) - 6 * length P ≡ 3 * i + j = omega arith in
    after P p (6 * length P + (3 * i + j)) (omega arith)
    ∙ get_or-append_right (flat_map signature_bytes (signatures P)) (flat_map placed_bytes (list_p P)) (6 * length P) (6 * length P + (3 * i + j)) 0
    (length_records P) (omega arith)
    ∙ rw m (get_or-joined 3 placed_bytes (λ s. refl) (list_p P) i j x 0 h l)
