-- Bytes that are read as a program are its table.
use Rattle.std.proofs.Common.{◌≡◌, ℕ, ◌+◌, ◌-◌, ◌*◌, ◌/◌, ◌%◌, ◌^◌, ◌<◌, ◌≤◌, Bool, true, false, cond, ltb, List, length, get_or, Some, None, Option, sym, refl, ap, ◌∙◌, subst, inl, inr, arith}
use Rattle.std.specs.List.{slice_get}
use Rattle.std.proofs.lemmas.List.FromFn.{length-map-range_with_len}
use Rattle.std.proofs.lemmas.List.{ext_get_or}
use Rattle.std.proofs.lemmas.Bool.{cases_lt}
use Rattle.table.specs.Flow.{mapped}
use Rattle.table.specs.Fields.{byte_at, function_at, kind_bit, kinds_field, record_place, variables_of}
use Rattle.table.specs.View.{View, node_at}
use Rattle.table.specs.declared.record.Header.{Header}
use Rattle.table.specs.declared.record.Function.{Function}
use Rattle.language.specs.Tree.{Signature, Program}
use Rattle.language.specs.Listing.{Placed, list_p}
use Rattle.language.specs.Rules.{signatures}
use Rattle.language.specs.Layout.{layout, header_bytes, signature_bytes, kind_bits, node_bytes}
use Rattle.walk.specs.Bodies.{signature_of, signature_in, view_of}
use Rattle.layout.specs.Stored.{Agrees, Bytes, LayoutsWritten}
use Rattle.layout.proofs.Pieces.{At, nth_none}
use Rattle.layout.proofs.KindBits.{kinds_written}
use Rattle.layout.proofs.Headers.{header_back, header_written}
use Rattle.layout.proofs.Records.{Fits, bytes_of, fields_of, fields_written}
use Rattle.layout.proofs.Recorded.{passed}
use Rattle.layout.proofs.Nodes.{stored_at, node_written}
use Rattle.layout.proofs.Places.{length-signatures, length-layout, header-byte, record_byte, node-byte}

-- the function whose signature is read
behind : (v : View) (f : ℕ) (s : Signature) → signature_in v f ≡ Some s →
    (g : Function) × (function_at v.bytes f ≡ Some g) × (signature_of g ≡ s)
behind v f s h = from (ltb f v.functions) (function_at v.bytes f) refl h
  where
    from : (b : Bool) (o : Option Function) → function_at v.bytes f ≡ o → mapped signature_of (cond b o None) ≡ Some s →
        (g : Function) × (function_at v.bytes f ≡ Some g) × (signature_of g ≡ s)
    from true None e q = absurd (grind arith)
    from true (Some g) e q = (g, e, cc)
    from false o e q = absurd (grind arith)

signature-bytes : (g : Function) → Fits g → g.kinds < 2 ^ 32 → bytes_of g ≡ signature_bytes (signature_of g)
signature-bytes g f l =
    let n : length (variables_of g) ≡ g.variables = length-map-range_with_len (kind_bit g.kinds) 0 g.variables in
    let k : kind_bits 32 (variables_of g) ≡ g.kinds = kinds_written g.kinds g.variables f.short l f.unused in
    cc

small-kinds : (bs : List ℕ) (q : ℕ) → Bytes bs → kinds_field bs q < 2 ^ 32
small-kinds bs q b = omega (arith, b (q + 2), b (q + 3), b (q + 4), b (q + 5))

module _ (bs : List ℕ) (h : Header) (P : Program) (b : Bytes bs) (a : Agrees bs h P) where
  header_same : (j : ℕ) → j < 3 → byte_at (layout P) j ≡ byte_at bs j
  header_same j l =
      let w = header_back bs h (passed bs h a.passes).0 in
      let e : 0 + j ≡ j = omega arith in
      let t : byte_at bs (0 + j) ≡ get_or (header_bytes h.functions h.nodes) j 0 = header_written bs h b w j l in
      let c : header_bytes (length P) (length (list_p P)) ≡ header_bytes h.functions h.nodes = cc (a.many, a.long) in
      header-byte P j l ∙ ap (λ xs. get_or xs j 0) c ∙ (rw e at (sym t))

  record_same : (f j : ℕ) → f < length P → j < 6 → (o : Option Signature) → slice_get (signatures P) f ≡ o →
      byte_at (layout P) (record_place f + j) ≡ byte_at bs (record_place f + j)
  record_same f j m l None e = absurd (omega (arith, nth_none (signatures P) f e, length-signatures P))
  record_same f j m l (Some s) e =
      let g = behind (view_of bs h) f s (a.functions f ∙ e) in
      let w = fields_of bs f g.0 g.1 in
      let k : g.0.kinds < 2 ^ 32 = omega (arith, small-kinds bs (record_place f) b, w.kinds) in
      let q : bytes_of g.0 ≡ signature_bytes s = signature-bytes g.0 w.fits k ∙ ap signature_bytes g.2 in
      record_byte P f j (record_place f + j) s e l refl
      ∙ sym (subst (At bs (record_place f) 6) q (fields_written bs (record_place f) g.0 b w) j l)

  node_same : (i j : ℕ) → i < length (list_p P) → j < 3 → (o : Option Placed) → slice_get (list_p P) i ≡ o →
      byte_at (layout P) (3 + 6 * length P + 3 * i + j) ≡ byte_at bs (3 + 6 * length P + 3 * i + j)
  node_same i j m l None e = absurd (omega (arith, nth_none (list_p P) i e))
  node_same i j m l (Some x) e =
      let s = stored_at (view_of bs h) 0 (list_p P) i x a.nodes e in
      let p : 3 + 6 * h.functions + 3 * (0 + i) ≡ 3 + 6 * length P + 3 * i = omega (arith, a.many) in
      let w : byte_at bs (3 + 6 * h.functions + 3 * (0 + i) + j) ≡ get_or (node_bytes (node_at (view_of bs h) (0 + i))) j 0 =
      node_written bs (3 + 6 * h.functions + 3 * (0 + i)) b j l in
      node-byte P i j (3 + 6 * length P + 3 * i + j) x e l refl
      ∙ sym (rw p at w ∙ ap (λ n. get_or (node_bytes n) j 0) s)

  byte_same : (i : ℕ) → i < length (layout P) → byte_at (layout P) i ≡ byte_at bs i
  byte_same i l =
      elim (cases_lt i 3) [ inl m ↦ header_same i m | inr m ↦ elim (cases_lt i (3 + 6 * length P)) [ inl n ↦ in_records m n | inr n ↦ in_nodes n ] ]
    where
      in_records : 3 ≤ i → i < 3 + 6 * length P → byte_at (layout P) i ≡ byte_at bs i
      in_records m n =
          let r = i - 3 in
          let e : record_place (r / 6) + r % 6 ≡ i = omega arith in
          rw e at (record_same (r / 6) (r % 6) (omega arith) (omega arith) (slice_get (signatures P) (r / 6)) refl)

      in_nodes : 3 + 6 * length P ≤ i → byte_at (layout P) i ≡ byte_at bs i
      in_nodes n =
          let r = i - (3 + 6 * length P) in
          let e : 3 + 6 * length P + 3 * (r / 3) + r % 3 ≡ i = omega arith in
          rw e at (node_same (r / 3) (r % 3) (omega (arith, length-layout P)) (omega arith) (slice_get (list_p P) (r / 3)) refl)

pub layouts_written : LayoutsWritten
layouts_written bs h P b a =
    let w = header_back bs h (passed bs h a.passes).0 in
    ext_get_or 0 (layout P) bs (omega (arith, length-layout P, a.many, a.long)) (byte_same bs h P b a)
