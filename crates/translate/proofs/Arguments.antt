-- Arguments, one by one.
use Rattle.std.proofs.Common.{◌≡◌, ℕ, ◌+◌, ◌-◌, ◌<◌, sym, ap, ◌∙◌, arith}
use Rattle.language.specs.Tree.{Expr, Args, more}
use Rattle.language.specs.Measures.{words_e, words_a}
use Rattle.translate.specs.Code.{code_e, code_a}
use Rattle.translate.specs.Source.{args_from}
use Rattle.translate.specs.Written.{Writes}
use Rattle.translate.specs.declared.write.Writer.{Writer}
use Rattle.translate.proofs.Steps.{args_step}
use Rattle.translate.proofs.Writes.{Remains, remains_more}

-- of the arguments `all` those of `rest` are still to be written
pub record ArgumentsLeft (old now : Writer) (rest all : Args × ℕ) : Type 0 where
  pub words : Remains old now (words_a rest.0) (code_a rest.0) (words_a all.0) (code_a all.0)
  pub next : rest.1 ≡ all.1

-- one argument more of n
pub arguments-again : (one : ℕ → Expr × ℕ) (n i j q : ℕ) (all : Args × ℕ) (old mid now : Writer) → i < n →
    ArgumentsLeft old mid (args_from one (n - i) j) all → Writes mid now (words_e (one j).0) (code_e (one j).0) → q ≡ (one j).1 →
    ArgumentsLeft old now (args_from one (n - (i + 1)) q) all
arguments-again one n i j q all old mid now l p w g =
    let k : n - i - 1 ≡ n - (i + 1) = omega arith in
    let s : args_from one (n - i) j ≡ (more (one j).0 (args_from one (n - (i + 1)) q).0, (args_from one (n - (i + 1)) q).1) = rw (← k, g) (args_step one (n - i) j (omega arith)) in
    let r : Remains old mid (words_e (one j).0 + words_a (args_from one (n - (i + 1)) q).0) _ (words_a all.0) (code_a all.0) = rw s at p.words in
    record { words = remains_more r w; next = ap (λ x. x.1) (sym s) ∙ p.next }
