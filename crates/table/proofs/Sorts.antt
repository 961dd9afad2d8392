-- The sort of a node goes by its kind alone.
use Rattle.std.proofs.Common.{◌≡◌, ℕ, ◌<◌, ◌≤◌, Option, arith}
use Rattle.std.proofs.lemmas.Bool.Decides.{nat_tests}
use Rattle.table.specs.Flow.{mapped}
use Rattle.table.specs.Shapes.{sorted, shape_of, expression_of, condition_of, block_of, statement_of}
use Rattle.table.specs.declared.record.Node.{Node}
use Rattle.table.specs.declared.shape.Expression.{Expression}
use Rattle.table.specs.declared.shape.Condition.{Condition}
use Rattle.table.specs.declared.shape.Statement.{Statement}
use Rattle.table.specs.declared.shape.Shape.TheVariants.{Expression as Value, Condition as Test, Statement as Act, Block}

module _ (k : ℕ) (e : Option Expression) (c : Option Condition) (b : Option ℕ) (s : Option Statement) where
  sorted_value : k < 20 → sorted k e c b s ≡ mapped Value e
  sorted_value h = grind (arith, nat_tests)

  sorted_test : 20 ≤ k → k < 30 → sorted k e c b s ≡ mapped Test c
  sorted_test h g = grind (arith, nat_tests)

  sorted-block : k ≡ 41 → sorted k e c b s ≡ mapped Block b
  sorted-block h = grind (arith, nat_tests)

  sorted_act : 30 ≤ k → (k ≡ 41 → ⊥) → sorted k e c b s ≡ mapped Act s
  sorted_act h g = grind (arith, nat_tests)

module _ (n : Node) where
  pub shape_value : n.kind < 20 → shape_of n ≡ mapped Value (expression_of n.kind n.aux n.operand)
  unfolding shape_of
  shape_value h = sorted_value n.kind _ _ _ _ h

  pub shape_test : 20 ≤ n.kind → n.kind < 30 → shape_of n ≡ mapped Test (condition_of n.kind n.aux n.operand)
  unfolding shape_of
  shape_test h g = sorted_test n.kind _ _ _ _ h g

  pub shape-block : n.kind ≡ 41 → shape_of n ≡ mapped Block (block_of n.aux n.operand)
  unfolding shape_of
  shape-block h = sorted-block n.kind _ _ _ _ h

  pub shape_act : 30 ≤ n.kind → (n.kind ≡ 41 → ⊥) → shape_of n ≡ mapped Act (statement_of n.kind n.aux n.operand)
  unfolding shape_of
  shape_act h g = sorted_act n.kind _ _ _ _ h g
