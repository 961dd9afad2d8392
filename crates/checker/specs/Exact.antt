-- What the check's answer says of programs.
use Rattle.std.specs.Prelude.{◌≡◌, ℕ, List, length, Ok, Err, ◌≢◌}
use Rattle.language.specs.Tree.{Program}
use Rattle.language.specs.Listing.{list_p}
use Rattle.language.specs.Measures.{words_p}
use Rattle.language.specs.Rules.{Keeps}
use Rattle.language.specs.Layout.{layout}
use Rattle.walk.specs.Walk.{Answer}
use Rattle.walk.specs.declared.found.Passed.{Passed}

-- the counts of a program
abbrev pub counts_of : Program → Passed
counts_of P = record { functions = length P; nodes = length (list_p P); words = words_p P }

-- These bytes are the table of one program that keeps the rules, and of no other.
pub record Only (bs : List ℕ) (p : Passed) : Type 0 where
  pub program : Program
  pub keeps : Keeps program
  pub lies : layout program ≡ bs
  pub tells : p ≡ counts_of program
  pub only : (Q : Program) → Keeps Q → layout Q ≡ bs → Q ≡ program

-- A table passes exactly if it is the table of a program that keeps the rules, which is then the only one.
abbrev pub Exact : List ℕ → Answer Passed → Type 0
Exact bs (Ok p) = Only bs p
Exact bs (Err e) = (P : Program) → Keeps P → layout P ≢ bs
