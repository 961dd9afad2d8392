-- A block, statement by statement.
use Rattle.std.proofs.Common.{◌≡◌, ℕ, ◌+◌, ◌-◌, ◌<◌, List, sym, subst, ap, ◌∙◌, arith}
use Rattle.language.specs.Tree.{Stmt, Stmts, next}
use Rattle.language.specs.Measures.{words_s, words_ss}
use Rattle.language.specs.Reader.{read_ss}
use Rattle.translate.specs.Code.{code_s, code_ss}
use Rattle.translate.specs.Written.{Writes}
use Rattle.translate.specs.declared.targets.Target.{Target}
use Rattle.translate.specs.declared.write.Writer.{Writer}
use Rattle.translate.proofs.Steps.{stmts_step}
use Rattle.translate.proofs.Writes.{Remains, remains_more}

-- of the statements `all` those of `rest` are still to be written, in the open loops ts
pub record StatementsLeft (ts : List Target) (old now : Writer) (rest all : Stmts × ℕ) : Type 0 where
  pub words : Remains old now (words_ss rest.0) (code_ss rest.0 ts now.here) (words_ss all.0) (code_ss all.0 ts old.here)
  pub next : rest.1 ≡ all.1

-- one statement more of n
pub block-again : (ts : List Target) (one : ℕ → Stmt × ℕ) (n i j q : ℕ) (all : Stmts × ℕ) (old mid now : Writer) → i < n →
    StatementsLeft ts old mid (read_ss one (n - i) j) all → Writes mid now (words_s (one j).0) (code_s (one j).0 ts mid.here) → q ≡ (one j).1 →
    StatementsLeft ts old now (read_ss one (n - (i + 1)) q) all
block-again ts one n i j q all old mid now l p w g =
    let k : n - i - 1 ≡ n - (i + 1) = omega arith in
    let s : read_ss one (n - i) j ≡ (next (one j).0 (read_ss one (n - (i + 1)) q).0, (read_ss one (n - (i + 1)) q).1) = rw (← k, g) (stmts_step one (n - i) j (omega arith)) in
    let r : Remains old mid (words_s (one j).0 + words_ss (read_ss one (n - (i + 1)) q).0) _ (words_ss all.0) (code_ss all.0 ts old.here) = rw s at p.words in
    record {
      words = subst (λ (h : ℕ). Remains old now (words_ss (read_ss one (n - (i + 1)) q).0) (code_ss (read_ss one (n - (i + 1)) q).0 ts h) (words_ss all.0) (code_ss all.0 ts old.here)) (sym w.many) (remains_more r w);
      next = ap (λ x. x.1) (sym s) ∙ p.next;
    }
