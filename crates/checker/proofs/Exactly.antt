-- A table passes exactly if it is the table of a program that keeps the rules, which is then the only one.
use Rattle.std.proofs.Common.{◌≡◌, ℕ, ◌+◌, ◌*◌, ◌<◌, ◌≤◌, Bool, true, false, cond, ltb, List, length, IfOk, Ok, Err, Result, sym, refl, ap, ◌∙◌, subst, arith}
use Rattle.std.proofs.lemmas.Bool.Decides.{nat_tests}
use Rattle.std.proofs.lemmas.Bool.{le-ltb}
use Rattle.table.specs.Flow.{onward}
use Rattle.table.specs.Fields.{layout_of, counts_hold}
use Rattle.table.specs.declared.record.Header.{Header}
use Rattle.table.specs.declared.record.TableFault.{TableFault}
use Rattle.language.specs.Tree.{Program}
use Rattle.language.specs.Listing.{list_p}
use Rattle.language.specs.Measures.{words_p}
use Rattle.language.specs.Rules.{Keeps}
use Rattle.language.specs.Layout.{layout}
use Rattle.walk.specs.Walk.{Answer}
use Rattle.walk.specs.Bodies.{view_of, bodies_from, ended, from_table, checked}
use Rattle.walk.specs.declared.fault.CheckFault.TheVariants.{NoNode}
use Rattle.walk.specs.declared.found.Passed.{Passed}
use Rattle.layout.specs.Stored.{Bytes, counts_of as header_for}
use Rattle.layout.proofs.Read.{layouts_read}
use Rattle.layout.proofs.Written.{layouts_written}
use Rattle.layout.proofs.Recorded.{passed, layouts_recorded}
use Rattle.layout.proofs.Headers.{header_back}
use Rattle.checker.specs.Exact.{counts_of, Only, Exact}
use Rattle.checker.proofs.Spelling.{onward_ok}
use Rattle.checker.proofs.Acts.{Small}
use Rattle.checker.proofs.Functions.{Bodied, bodied-spells, bodies_sound, bodies_complete, bodies_same}
use Rattle.checker.proofs.Programs.{stored-from, numbered-from, spells-from, spells_end, program-bodied, program_fits, program_limits, signatures_same, functions-fine}

-- the counts and the length of a table whose layout passes
layout-counts : (bs : List ℕ) (h : Header) → layout_of bs ≡ Ok h → (0 < h.functions) × (h.functions ≤ 32) × (h.nodes ≤ 8192) × (length bs ≤ 24771)
layout-counts bs h e =
    let w = header_back bs h (passed bs h e).0 in
    let c : (0 < h.functions) × (h.functions ≤ 32) × (h.nodes ≤ 8192) = holding h.functions h.nodes w.hold in
    let l = w.long in
    (c.0, c.1, c.2, omega arith)
  where
    holding : (f n : ℕ) → counts_hold f n ≡ true → (0 < f) × (f ≤ 32) × (n ≤ 8192)
    holding f n t = grind (arith, nat_tests)

from_table_ok : {A : Type 0} (r : Result A TableFault) (x : A) → from_table r ≡ Ok x → r ≡ Ok x
from_table_ok (Ok y) x e = grind arith
from_table_ok (Err f) x e = absurd (grind arith)

ended_ok : (h : Header) (p : ℕ × ℕ) (r : Passed) → ended h p ≡ Ok r → (h.nodes ≤ p.1) × (r ≡ record { functions = h.functions; nodes = h.nodes; words = p.0 })
ended_ok h p r e = shown (ltb p.1 h.nodes) refl e
  where
    shown : (b : Bool) → ltb p.1 h.nodes ≡ b → ◌≡◌ {A = Answer Passed} (cond b (Err (NoNode p.1)) (Ok (record { functions = h.functions; nodes = h.nodes; words = p.0 }))) (Ok r) →
        (h.nodes ≤ p.1) × (r ≡ record { functions = h.functions; nodes = h.nodes; words = p.0 })
    shown true q e = absurd (grind arith)
    shown false q e = (grind (arith, nat_tests), grind arith)

small : (bs : List ℕ) (h : Header) → Bytes bs → Small (view_of bs h)
small bs h b i =
    let x = b (3 + 6 * h.functions + 3 * i + 1) in
    let y = b (3 + 6 * h.functions + 3 * i + 2) in
    omega arith

-- a program that keeps the rules stands in its own table
bodied : (P : Program) → Keeps P → Bodied (view_of (layout P) (header_for P)) 0 0 P
bodied P k =
    let s = layouts_read P (program_limits P k) in
    let v = view_of (layout P) (header_for P) in
    program-bodied v P s.functions k.functions (spells-from v 0 (list_p P) s.nodes k.numbered (program_fits P k.functions))

-- and passes
pub complete : (P : Program) → Keeps P → checked (layout P) ≡ Ok (counts_of P)
unfolding checked
complete P k =
    let s = layouts_read P (program_limits P k) in
    let v = view_of (layout P) (header_for P) in
    let b = bodies_complete v P 0 (length P) 0 (bodied P k) in
    let z : 0 + length (list_p P) ≡ length (list_p P) = omega arith in
    ap (λ r. onward (from_table r) (λ h. onward (bodies_from (view_of (layout P) h) h.functions 0 h.functions 0) (ended h))) s.header
    ∙ ap (λ r. onward r (ended (header_for P))) b
    ∙ ap (λ n. ended (header_for P) (words_p P, n)) z
    ∙ ap (λ t. cond t (Err (NoNode (length (list_p P)))) (Ok (counts_of P))) (le-ltb (length (list_p P)) (length (list_p P)) (omega arith))

-- the header of a table that is a program's
same-header : (bs : List ℕ) (h : Header) (P : Program) → Keeps P → layout P ≡ bs → layout_of bs ≡ Ok h → header_for P ≡ h
same-header bs h P k l e =
    let s = (layouts_read P (program_limits P k)).header in
    let c : ◌≡◌ {A = Result Header TableFault} (Ok (header_for P)) (Ok h) = sym s ∙ ap layout_of l ∙ e in
    grind (arith, c)

sound : (bs : List ℕ) (p : Passed) → Bytes bs → checked bs ≡ Ok p → Only bs p
unfolding checked
sound bs p bytes e =
    let o = onward_ok (from_table (layout_of bs)) (λ h. onward (bodies_from (view_of bs h) h.functions 0 h.functions 0) (ended h)) p e in
    let h = o.0 in
    let passes = from_table_ok (layout_of bs) o.0 o.1 in
    let u = onward_ok (bodies_from (view_of bs h) h.functions 0 h.functions 0) (ended h) p o.2 in
    let v = view_of bs h in
    let b = bodies_sound v (small bs h bytes) h.functions 0 h.functions 0 u.0.0 u.0.1 u.1 in
    let d = ended_ok h u.0 p u.2 in
    let P = b.functions in
    let c = layout-counts bs h passes in
    let many = b.many in
    let spells = bodied-spells v 0 0 P b.bodied in
    let low = spells_end v 0 (list_p P) (omega arith) spells in
    let long : length (list_p P) ≡ h.nodes = omega (arith, low, d.0, b.ends) in
    let same = signatures_same v P many b.bodied in
    let total = b.total in
    let words : u.0.0 ≡ words_p P = omega (arith, total, many) in
    let keeps : Keeps P = record {
      functions = functions-fine v (λ f l. layouts_recorded bs h passes f l) P (omega (arith, c.0, many)) many b.bodied;
      few = omega (arith, c.1, many);
      short = omega (arith, c.2, long);
      numbered = numbered-from v 0 (list_p P) spells;
    } in
    let lies : layout P ≡ bs = layouts_written bs h P bytes (record { passes = passes; many = many; functions = same; long = long; nodes = stored-from v 0 (list_p P) spells }) in
    record {
      program = P;
      keeps = keeps;
      lies = lies;
      tells = d.1 ∙ ap (λ n. record { functions = n; nodes = h.nodes; words = u.0.0 }) (sym many)
          ∙ ap (λ n. record { functions = length P; nodes = n; words = u.0.0 }) (sym long)
          ∙ ap (λ n. record { functions = length P; nodes = length (list_p P); words = n }) words;
      only = λ Q k l.
          let g = same-header bs h Q k l passes in
          let stands : Bodied v 0 0 Q = subst (λ (x : List ℕ × Header). Bodied (view_of x.0 x.1) 0 0 Q) (ap (λ (y : List ℕ). (y, header_for Q)) l ∙ ap (λ (y : Header). (bs, y)) g) (bodied Q k) in
          let n : length Q ≡ length P = ap (λ x. x.functions) g ∙ sym many in
          bodies_same v Q P 0 0 n stands b.bodied;
    }

pub exactly : (bs : List ℕ) (r : Answer Passed) → Bytes bs → r ≡ checked bs → Exact bs r
exactly bs (Ok p) bytes e = sound bs p bytes (sym e)
exactly bs (Err f) bytes e = λ P k l.
    let c : ◌≡◌ {A = Answer Passed} (Err f) (Ok (counts_of P)) = e ∙ ap checked (sym l) ∙ complete P k in
    absurd (grind (arith, c))

pub at_most : (bs : List ℕ) (r : Answer Passed) → r ≡ checked bs → IfOk r (λ _. length bs ≤ 24771)
unfolding checked
at_most bs (Err f) e = tt
at_most bs (Ok p) e =
    let o = onward_ok (from_table (layout_of bs)) (λ h. onward (bodies_from (view_of bs h) h.functions 0 h.functions 0) (ended h)) p (sym e) in
    (layout-counts bs o.0 (from_table_ok (layout_of bs) o.0 o.1)).3
