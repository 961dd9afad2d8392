-- The table of a program is read as that program.
use Rattle.std.proofs.Common.{◌≡◌, ℕ, zero, suc, ◌+◌, ◌*◌, ◌<◌, true, List, [], ◌∷◌, length, Some, None, Ok, Option, refl, arith}
use Rattle.std.specs.List.{slice_get}
use Rattle.std.proofs.lemmas.Bool.{ne_eqb, lt-ltb, le-ltb}
use Rattle.std.proofs.lemmas.Bool.Decides.{nat_tests}
use Rattle.std.proofs.lemmas.Option.{slice_get_within}
use Rattle.table.specs.Fields.{header_of, first_broken, function_at, record_place, record_holds}
use Rattle.table.specs.Shapes.{node_of}
use Rattle.table.specs.View.{node_at}
use Rattle.table.specs.declared.record.Function.{Function}
use Rattle.language.specs.Tree.{Signature, Program}
use Rattle.language.specs.Listing.{Placed, list_p}
use Rattle.language.specs.Rules.{FineSignature, signatures}
use Rattle.language.specs.Layout.{layout, kind_bits}
use Rattle.walk.specs.Bodies.{signature_in, view_of}
use Rattle.layout.specs.Stored.{Plain, Limits, counts_of, LayoutsRead}
use Rattle.layout.proofs.Pieces.{nth_none, all-nth}
use Rattle.layout.proofs.KindBits.{kinds-read, kinds-unused}
use Rattle.layout.proofs.Places.{length-signatures, length-layout, record_byte, node-byte}
use Rattle.layout.proofs.Headers.{header-there}
use Rattle.layout.proofs.Records.{Fits, function_of, fields_read, none_broken}
use Rattle.layout.proofs.Nodes.{small-aux, node-read, stored-from}

-- the function that a signature's record gives
abbrev record_of : Signature → Function
record_of s = record { result = s.result; parameters = s.parameters; variables = length s.variables; kinds = kind_bits 32 s.variables }

fits : (s : Signature) → FineSignature s → Fits (record_of s)
fits s w = record { few = w.few; short = w.short; among = w.among; unused = kinds-unused s.variables w.short }

function-read : (P : Program) (f : ℕ) (s : Signature) → slice_get (signatures P) f ≡ Some s → FineSignature s → function_at (layout P) f ≡ Some (record_of s)
function-read P f s h w =
    function_of (layout P) f (record_of s)
    (fields_read (layout P) (record_place f) (record_of s) (fits s w) (λ j l. record_byte P f j (record_place f + j) s h l refl))

some-function : (P : Program) → Plain (signatures P) → 0 < length P
some-function [] p = absurd p
some-function (f ∷ fs) p = omega arith

-- the record of an element of a list of signatures that starts with a plain one
holds : (S : List Signature) (f : ℕ) (s : Signature) → Plain S → slice_get S f ≡ Some s → record_holds f (Some (record_of s)) ≡ true
holds [] f s p h = absurd p
holds (x ∷ xs) zero s p h = let e : x ≡ s = cc in rw (← e, p.0, p.1)
holds (x ∷ xs) (suc f) s p h = rw (ne_eqb (suc f) 0 (omega arith))

module _ (P : Program) (l : Limits P) where
  function-at : (f : ℕ) (s : Signature) → slice_get (signatures P) f ≡ Some s → function_at (layout P) f ≡ Some (record_of s)
  function-at f s h = function-read P f s h (all-nth FineSignature (signatures P) f s l.fine h)

  record_holds_lem : (f : ℕ) → f < length P → (o : Option Signature) → slice_get (signatures P) f ≡ o → record_holds f (function_at (layout P) f) ≡ true
  record_holds_lem f m None h = absurd (omega (arith, nth_none (signatures P) f h, length-signatures P))
  record_holds_lem f m (Some s) h = rw (function-at f s h) (holds (signatures P) f s l.plain h)

  read-signature : (f : ℕ) (o : Option Signature) → slice_get (signatures P) f ≡ o → signature_in (view_of (layout P) (counts_of P)) f ≡ o
  read-signature f None h = rw (le-ltb f (length P) (omega (arith, nth_none (signatures P) f h, length-signatures P)))
  read-signature f (Some s) h =
      rw (lt-ltb f (length P) (omega (arith, slice_get_within (signatures P) f s h, length-signatures P)), function-at f s h)
      (rw (kinds-read s.variables (all-nth FineSignature (signatures P) f s l.fine h).short))

  read-header : header_of (layout P) ≡ Ok (counts_of P)
  unfolding layout
  read-header =
      let some = some-function P l.plain in
      header-there (layout P) (counts_of P) (record { one = omega arith; functions = omega arith; nodes = omega arith; hold = grind (arith, nat_tests); long = length-layout P })

  read_records : first_broken (layout P) (length P) 0 ≡ None
  read_records = none_broken (layout P) (length P) 0 (λ f k m. record_holds_lem f (omega arith) (slice_get (signatures P) f) refl)

  read-node : (i : ℕ) (x : Placed) → slice_get (list_p P) i ≡ Some x → node_at (view_of (layout P) (counts_of P)) (0 + i) ≡ node_of x.1
  read-node i x h =
      node-read (layout P) (3 + 6 * length P + 3 * (0 + i)) (node_of x.1) (small-aux x.1)
      (λ j m. node-byte P i j (3 + 6 * length P + 3 * (0 + i) + j) x h m (omega arith))

pub layouts_read : LayoutsRead
layouts_read P l =
    record {
      header = rw (read-header P l, read_records P l);
      functions = λ f. read-signature P l f (slice_get (signatures P) f) refl;
      nodes = stored-from (view_of (layout P) (counts_of P)) 0 (list_p P) (omega arith) (read-node P l);
    }
