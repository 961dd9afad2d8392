-- What a node record is, and the record of each node.
use Rattle.std.specs.Prelude.{◌≡◌, ℕ, ◌<◌, ◌≤◌, cond, ◌&&◌, Some, None, Option, ◌==◌, nat_le, nat_lt}
use Rattle.std.specs.Bool.{then_some}
use Rattle.std.specs.Option.{option_or, option_and_then}
use Rattle.table.specs.Flow.{mapped}
use Rattle.table.specs.Kinds.{constant_count}
use Rattle.table.specs.Numbers.{kind_of, scope_number, format_number, unary_number, binary_number, comparison_number, junction_number, scope_of, format_of, unary_of, binary_of, comparison_of, junction_of}
use Rattle.table.specs.declared.record.Node.{Node}
use Rattle.table.specs.declared.shape.Kind.{Kind}
use Rattle.table.specs.declared.shape.Kind.TheVariants.{Int, Byte}
use Rattle.table.specs.declared.shape.Expression.{Expression}
use Rattle.table.specs.declared.shape.Expression.TheVariants.{Constant, Variable, Unary as OfOne, Binary as OfTwo, Call, Read}
use Rattle.table.specs.declared.shape.Condition.{Condition}
use Rattle.table.specs.declared.shape.Condition.TheVariants.{Compare, Not, Join, Holds}
use Rattle.table.specs.declared.shape.Statement.{Statement}
use Rattle.table.specs.declared.shape.Statement.TheVariants.{Skip, Assign, Perform, If, IfElse, Loop, Break, Continue, Exit, Return, Write}
use Rattle.table.specs.declared.shape.Shape.{Shape}
use Rattle.table.specs.declared.shape.Shape.TheVariants.{Expression as Value, Condition as Test, Statement as Act, Block}

abbrev pub node : ℕ → ℕ → ℕ → Node
node k a o = record { kind = k; aux = a; operand = o }

-- The record of each node; an unused field is 0.
abbrev pub of_expression : Expression → Node
of_expression (Constant Int n) = node 1 0 n
of_expression (Constant Byte n) = node 1 1 n
of_expression (Variable s x) = node 2 (scope_number s) x
of_expression (OfOne u) = node (unary_number u) 0 0
of_expression (OfTwo b) = node (binary_number b) 0 0
of_expression (Call f) = node 13 0 f
of_expression (Read q) = node 16 (format_number q) 0

abbrev pub of_condition : Condition → Node
of_condition (Compare c) = node (comparison_number c) 0 0
of_condition Not = node 26 0 0
of_condition (Join j) = node (junction_number j) 0 0
of_condition Holds = node 29 0 0

abbrev pub of_statement : Statement → Node
of_statement Skip = node 32 0 0
of_statement (Assign s x) = node 33 (scope_number s) x
of_statement (Perform f) = node 34 0 f
of_statement If = node 35 0 0
of_statement IfElse = node 35 1 0
of_statement (Loop m) = node 36 0 m
of_statement (Break m) = node 37 0 m
of_statement (Continue m) = node 38 0 m
of_statement Exit = node 39 0 0
of_statement Return = node 40 0 0
of_statement (Write q) = node 42 (format_number q) 0

abbrev pub node_of : Shape → Node
node_of (Value e) = of_expression e
node_of (Test c) = of_condition c
node_of (Act s) = of_statement s
node_of (Block n) = node 41 0 n

-- What a record is, or none if its kind is not listed, a field is out of range, or an unused field is not 0.
abbrev pub constant_of : ℕ → ℕ → Option Expression
constant_of a o = option_and_then (λ k. then_some (nat_lt o (constant_count k)) (Constant k o)) (kind_of a)

-- the kinds of expression without aux and operand
abbrev pub operator_of : ℕ → Option Expression
operator_of k = option_or (mapped OfOne (unary_of k)) (mapped OfTwo (binary_of k))

abbrev pub expression_of : ℕ → ℕ → ℕ → Option Expression
expression_of k a o =
    cond (k == 1) (constant_of a o)
    (cond (k == 2) (mapped (λ s. Variable s o) (scope_of a))
    (cond (k == 13) (then_some (a == 0) (Call o))
    (cond (k == 16) (cond (o == 0) (mapped Read (format_of a)) None)
    (cond (a == 0 && o == 0) (operator_of k) None))))

abbrev pub joined_of : ℕ → Option Condition
joined_of k = option_or (mapped Compare (comparison_of k)) (mapped Join (junction_of k))

abbrev pub test_of : ℕ → Option Condition
test_of k = cond (k == 26) (Some Not) (cond (k == 29) (Some Holds) (joined_of k))

abbrev pub condition_of : ℕ → ℕ → ℕ → Option Condition
condition_of k a o = cond (a == 0 && o == 0) (test_of k) None

abbrev pub if_of : ℕ → Option Statement
if_of a = cond (a == 0) (Some If) (cond (a == 1) (Some IfElse) None)

-- the kinds of statement with neither aux nor operand
abbrev pub bare_of : ℕ → Option Statement
bare_of k = cond (k == 32) (Some Skip) (cond (k == 39) (Some Exit) (cond (k == 40) (Some Return) None))

-- the kinds of statement without aux
abbrev pub act_of : ℕ → ℕ → Option Statement
act_of k o =
    cond (k == 34) (Some (Perform o))
    (cond (k == 36) (Some (Loop o))
    (cond (k == 37) (Some (Break o))
    (cond (k == 38) (Some (Continue o))
    (cond (o == 0) (bare_of k) None))))

abbrev pub statement_of : ℕ → ℕ → ℕ → Option Statement
statement_of k a o =
    cond (k == 33) (mapped (λ s. Assign s o) (scope_of a))
    (cond (k == 35) (cond (o == 0) (if_of a) None)
    (cond (k == 42) (cond (o == 0) (mapped Write (format_of a)) None)
    (cond (a == 0) (act_of k o) None)))

abbrev pub block_of : ℕ → ℕ → Option ℕ
block_of a o = then_some (a == 0 && (nat_lt 0 o && nat_le o 8192)) o

-- kinds below 20 are expressions, those from 20 to 29 conditions, 41 is a block, and the others are statements
abbrev pub sorted : ℕ → Option Expression → Option Condition → Option ℕ → Option Statement → Option Shape
sorted k e c b s =
    cond (nat_lt k 20) (mapped Value e) (cond (nat_lt k 30) (mapped Test c) (cond (k == 41) (mapped Block b) (mapped Act s)))

unfoldable pub shape_of : Node → Option Shape
shape_of n =
    sorted n.kind (expression_of n.kind n.aux n.operand) (condition_of n.kind n.aux n.operand)
    (block_of n.aux n.operand) (statement_of n.kind n.aux n.operand)

-- The ranges of the fields: a constant within its kind, a block of 1 to 8,192 statements.
abbrev pub ConstantFits : Kind → ℕ → Type 0
ConstantFits Int n = n < 32768
ConstantFits Byte n = n < 256

abbrev pub ExpressionFits : Expression → Type 0
ExpressionFits (Constant k n) = ConstantFits k n
ExpressionFits (Variable s x) = Unit {0}
ExpressionFits (OfOne u) = Unit {0}
ExpressionFits (OfTwo b) = Unit {0}
ExpressionFits (Call f) = Unit {0}
ExpressionFits (Read q) = Unit {0}

abbrev pub ShapeFits : Shape → Type 0
ShapeFits (Value e) = ExpressionFits e
ShapeFits (Test c) = Unit {0}
ShapeFits (Act s) = Unit {0}
ShapeFits (Block n) = (0 < n) × (n ≤ 8192)

-- a record is a node exactly if it is that node's record and its fields are in range
abbrev pub Decodes : Node → Option Shape → Type 0
Decodes n r = (s : Shape) → (r ≡ Some s → (n ≡ node_of s) × ShapeFits s) × ((n ≡ node_of s) × ShapeFits s → r ≡ Some s)
