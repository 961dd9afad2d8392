-- What a translation leaves in memory, and what it answers.
use Rattle.std.specs.Prelude.{◌≡◌, ℕ, ◌<◌, ◌≤◌, List, ◌++◌, length, drop, Ok, Err, Result}
use Rattle.language.specs.Tree.{Program}
use Rattle.language.specs.Measures.{words_p}
use Rattle.walk.specs.declared.found.Passed.{Passed}
use Rattle.checker.specs.Exact.{Only}
use Rattle.translate.specs.Code.{code_p}
use Rattle.translate.specs.Faults.{told}
use Rattle.translate.specs.declared.fault.TranslateFault.{TranslateFault}

-- The code stands at the memory's start, and the words past it are as they were.
pub record Coded (P : Program) (before after : List ℕ) (n : ℕ) : Type 0 where
  pub room : words_p P ≤ length before
  pub words : n ≡ words_p P
  pub most : words_p P ≤ 8224
  pub long : length (code_p P) ≡ words_p P
  pub memory : after ≡ code_p P ++ drop (words_p P) before

-- The memory is too short, and is as it was.
pub record Refused (P : Program) (before after : List ℕ) (e : TranslateFault) : Type 0 where
  pub short : length before < words_p P
  pub tells : told e ≡ (30, words_p P)
  pub memory : after ≡ before

abbrev pub Outcome : Program → List ℕ → List ℕ → Result ℕ TranslateFault → Type 0
Outcome P before after (Ok n) = Coded P before after n
Outcome P before after (Err e) = Refused P before after e

-- The program is the one whose table is held.
pub record Translated (table before after : List ℕ) (r : Result ℕ TranslateFault) : Type 0 where
  pub counts : Passed
  pub only : Only table counts
  pub outcome : Outcome only.program before after r
