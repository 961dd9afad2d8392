-- What a shape is, taken for one of the sorts.
use Rattle.std.specs.Prelude.{ℕ, Ok, Err, Result}
use Rattle.table.specs.declared.shape.Expression.{Expression}
use Rattle.table.specs.declared.shape.Condition.{Condition}
use Rattle.table.specs.declared.shape.Statement.{Statement}
use Rattle.table.specs.declared.shape.Shape.{Shape}
use Rattle.table.specs.declared.shape.Shape.TheVariants.{Expression as Value, Condition as Test, Statement as Act, Block}
use Rattle.table.specs.declared.sort.WrongSort.{WrongSort}

abbrev pub wrong : {A : Type 0} → Result A WrongSort
wrong = Err (record {})

abbrev pub expression_in : Shape → Result Expression WrongSort
expression_in (Value e) = Ok e
expression_in (Test c) = wrong
expression_in (Act s) = wrong
expression_in (Block n) = wrong

abbrev pub condition_in : Shape → Result Condition WrongSort
condition_in (Value e) = wrong
condition_in (Test c) = Ok c
condition_in (Act s) = wrong
condition_in (Block n) = wrong

abbrev pub statement_in : Shape → Result Statement WrongSort
statement_in (Value e) = wrong
statement_in (Test c) = wrong
statement_in (Act s) = Ok s
statement_in (Block n) = wrong

-- how many statements a block has
abbrev pub block_in : Shape → Result ℕ WrongSort
block_in (Value e) = wrong
block_in (Test c) = wrong
block_in (Act s) = wrong
block_in (Block n) = Ok n
