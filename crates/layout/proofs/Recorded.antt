-- Where the layout passes, every function has a record that keeps the limits.
use Rattle.std.proofs.Common.{◌≡◌, ℕ, true, eqb, List, Some, None, Ok, Err, Option, Result, refl, ap, arith}
use Rattle.std.proofs.lemmas.List.FromFn.{length-map-range_with_len}
use Rattle.std.proofs.lemmas.Bool.Decides.{nat_tests}
use Rattle.table.specs.Flow.{onward}
use Rattle.table.specs.Fields.{judged, header_of, first_broken, function_at, record_holds, is_plain, layout_of, kind_bit}
use Rattle.table.specs.declared.record.Header.{Header}
use Rattle.table.specs.declared.record.Function.{Function}
use Rattle.table.specs.declared.record.TableFault.{TableFault}
use Rattle.table.specs.declared.shape.Kind.{Kind}
use Rattle.language.specs.Rules.{FineSignature}
use Rattle.walk.specs.Bodies.{signature_of}
use Rattle.layout.specs.Stored.{Recorded, LayoutsRecorded}
use Rattle.layout.proofs.Records.{Fits, fields_of, each_holds}

-- header and records both pass
pub passed : (bs : List ℕ) (h : Header) → layout_of bs ≡ Ok h → (header_of bs ≡ Ok h) × (first_broken bs h.functions 0 ≡ None)
passed bs h p = from (header_of bs) p
  where
    judge : (x : Header) (o : Option ℕ) → judged x o ≡ Ok h → (x ≡ h) × (o ≡ None)
    judge x None q = grind arith
    judge x (Some i) q = absurd (grind arith)

    from : (r : Result Header TableFault) → onward r (λ x. judged x (first_broken bs x.functions 0)) ≡ Ok h → (r ≡ Ok h) × (first_broken bs h.functions 0 ≡ None)
    from (Ok x) q =
        let j = judge x (first_broken bs x.functions 0) q in
        (ap Ok j.0, rw j.0 at j.1)
    from (Err e) q = absurd (grind arith)

fine : (g : Function) → Fits g → FineSignature (signature_of g)
fine g h =
    let l = length-map-range_with_len (kind_bit g.kinds) 0 g.variables in
    record { few = omega arith; among = omega arith; short = omega arith }

plain_back : (o : Option Kind) (p : ℕ) → is_plain o p ≡ true → (o ≡ None) × (p ≡ 0)
plain_back None p h = grind (arith, nat_tests)
plain_back (Some k) p h = absurd (grind arith)

record_back : (bs : List ℕ) (f : ℕ) (o : Option Function) → function_at bs f ≡ o → record_holds f o ≡ true → Recorded bs f
record_back bs f None e h = absurd (grind arith)
record_back bs f (Some g) e h =
    record {
      function = g;
      there = e;
      fine = fine g (fields_of bs f g e).fits;
      plain = λ z. plain_back g.result g.parameters (rw (ap (λ x. eqb x 0) z) at h);
    }

pub layouts_recorded : LayoutsRecorded
layouts_recorded bs h p f l =
    record_back bs f (function_at bs f) refl (each_holds bs h.functions 0 f (passed bs h p).1 (omega arith) (omega arith))
