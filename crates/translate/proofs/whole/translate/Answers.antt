use Rattle.std.proofs.Common.{◌≡◌, ℕ, ◌<◌, List, ◌++◌, length, drop, Ok, Err, Result, length-take, refl, ap, ◌∙◌, arith}
use Rattle.std.specs.Result.{IsErrAnd}
use Rattle.language.specs.Tree.{Program}
use Rattle.language.specs.Measures.{words_p}
use Rattle.checker.specs.Held.{held}
use Rattle.translate.specs.Code.{code_p}
use Rattle.translate.specs.Faults.{told}
use Rattle.translate.specs.Translated.{Outcome}
use Rattle.translate.specs.declared.fault.TranslateFault.{TranslateFault}
use Rattle.translate.proofs.Lengths.{long_code}
use Rattle.translate.proofs.Back.{counted, total, coded}
use Rattle.translate.proofs.whole.translate.Goals as goal

pub invariant_of-table : goal.invariant_of-table
invariant_of-table c =
    let n = counted (held c.args.program.now) c.counts-counts.result c.counts-counts.ensures c.table.result.now c.table.ensures in
    record { long = n.0; few = n.1; short = n.2 }

pub program-requires-clause-room : goal.program-requires-clause-room
program-requires-clause-room c =
    let t = total (held c.args.program.now) c.counts-counts.result c.counts-counts.ensures c.table.result.now c.table.ensures in
    omega (arith, length-take c.counts-counts.result.words c.args.code.now, t.0, c.in_ok-enough.ensures)

pub program-requires-clause-near : goal.program-requires-clause-near
program-requires-clause-near c =
    let t = total (held c.args.program.now) c.counts-counts.result c.counts-counts.ensures c.table.result.now c.table.ensures in
    omega (arith, length-take c.counts-counts.result.words c.args.code.now, t.2)

refused : (P : Program) (memory : List ℕ) (e : TranslateFault) (r : Result ℕ TranslateFault) → IsErrAnd r (λ f. f ≡ e) → length memory < words_p P → told e ≡ (30, words_p P) →
    Outcome P memory memory r
refused P memory e (Ok n) h s t = absurd h
refused P memory e (Err f) h s t = record { short = s; tells = ap told h ∙ t; memory = refl }

pub returns-in_err-enough : goal.returns-in_err-enough
returns-in_err-enough c =
    let o = c.counts-counts.ensures in
    let w = (total (held c.args.program.now) c.counts-counts.result o (held c.args.program.now) refl).1 in
    let l = c.in_err-enough.ensures in
    record {
      counts = c.counts-counts.result;
      only = o;
      outcome = refused o.program c.args.code.now _ c.from_residual.result c.from_residual.ensures.1 (omega (arith, w, l.0)) (l.1 ∙ (λ i. (30, w i)));
    }

pub returns : goal.returns
returns c =
    let o = c.counts-counts.ensures in
    let t = total (held c.args.program.now) c.counts-counts.result o c.table.result.now c.table.ensures in
    record {
      counts = c.counts-counts.result;
      only = o;
      outcome =
          record {
            room = omega (arith, t.1, c.in_ok-enough.ensures);
            words = t.1;
            most = omega (arith, t.1, t.2);
            long = long_code o.program;
            memory =
                ap (λ (l : List ℕ). l ++ drop c.counts-counts.result.words c.args.code.now) (c.program.ensures ∙ coded (held c.args.program.now) c.counts-counts.result o c.table.result.now c.table.ensures)
                ∙ ap (λ (n : ℕ). code_p o.program ++ drop n c.args.code.now) t.1;
          };
    }
