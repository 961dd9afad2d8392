-- A shape taken for a sort is what the reader takes it for.
use Rattle.std.proofs.Common.{◌≡◌, ℕ, Some, None, Option, Result, refl, ap, ◌∙◌}
use Rattle.std.specs.Result.{result_ok}
use Rattle.table.specs.Sorts.{expression_in, condition_in, statement_in, block_in}
use Rattle.table.specs.declared.shape.Expression.{Expression}
use Rattle.table.specs.declared.shape.Condition.{Condition}
use Rattle.table.specs.declared.shape.Statement.{Statement}
use Rattle.table.specs.declared.shape.Shape.{Shape}
use Rattle.table.specs.declared.shape.Shape.TheVariants.{Expression as Value, Condition as Test, Statement as Act, Block as Body}
use Rattle.table.specs.declared.sort.WrongSort.{WrongSort}
use Rattle.language.specs.Reader.{value_of, test_of, act_of, body_of}
use Rattle.translate.specs.Source.{TakenFor}

-- `told` is how a sort is told, and `kept` what the reader keeps of a shape
taken : {S : Type 0} (told : Shape → Result S WrongSort) (kept : Option Shape → Option S) → None ≡ kept None → ((s : Shape) → result_ok (told s) ≡ kept (Some s)) →
    (o : Option Shape) (r : Option S) → TakenFor (λ s w. w ≡ told s) o r → r ≡ kept o
taken told kept n k None r h = h ∙ n
taken told kept n k (Some s) r h = h.2 ∙ ap result_ok h.1 ∙ k s

pub value_taken : (o : Option Shape) (r : Option Expression) → TakenFor (λ s w. w ≡ expression_in s) o r → r ≡ value_of o
value_taken = taken expression_in value_of refl (elim [ Value e ↦ refl | Test c ↦ refl | Act s ↦ refl | Body n ↦ refl ])

pub test_taken : (o : Option Shape) (r : Option Condition) → TakenFor (λ s w. w ≡ condition_in s) o r → r ≡ test_of o
test_taken = taken condition_in test_of refl (elim [ Value e ↦ refl | Test c ↦ refl | Act s ↦ refl | Body n ↦ refl ])

pub act_taken : (o : Option Shape) (r : Option Statement) → TakenFor (λ s w. w ≡ statement_in s) o r → r ≡ act_of o
act_taken = taken statement_in act_of refl (elim [ Value e ↦ refl | Test c ↦ refl | Act s ↦ refl | Body n ↦ refl ])

pub body_taken : (o : Option Shape) (r : Option ℕ) → TakenFor (λ s w. w ≡ block_in s) o r → r ≡ body_of o
body_taken = taken block_in body_of refl (elim [ Value e ↦ refl | Test c ↦ refl | Act s ↦ refl | Body n ↦ refl ])
