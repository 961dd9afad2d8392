-- A record and its node determine each other.
use Rattle.std.proofs.Common.{◌≡◌, ℕ, ◌<◌, ◌≤◌, eqb, ltb, Some, refl, ap, ◌∙◌, arith}
use Rattle.std.proofs.lemmas.Bool.Decides.{nat_tests}
use Rattle.table.specs.Shapes.{node, expression_of, condition_of, statement_of, block_of, shape_of, of_expression, of_condition, of_statement, node_of, ExpressionFits, ShapeFits, Decodes}
use Rattle.table.proofs.Cases.{either, unmapped}
use Rattle.table.specs.declared.record.Node.{Node}
use Rattle.table.specs.declared.shape.Kind.TheVariants.{Int, Byte}
use Rattle.table.specs.declared.shape.Expression.{Expression}
use Rattle.table.specs.declared.shape.Expression.TheVariants.{Constant, Variable, Unary as OfOne, Binary as OfTwo, Call, Read}
use Rattle.table.specs.declared.shape.Condition.{Condition}
use Rattle.table.specs.declared.shape.Statement.{Statement}
use Rattle.table.specs.declared.shape.Statement.TheVariants.{Skip, Assign, Perform, If, IfElse, Loop, Break, Continue, Exit, Return, Write}
use Rattle.table.specs.declared.shape.Unary.TheVariants.{Plus, Minus, ByteNot, Extend, Shrink}
use Rattle.table.specs.declared.shape.Binary.TheVariants.{Add, Sub, Mul, Div, Rem, ByteAnd, ByteOr}
use Rattle.table.specs.declared.shape.Comparison.TheVariants.{Equal, Unequal, Less, Greater, AtMost, AtLeast}
use Rattle.table.specs.declared.shape.Junction.TheVariants.{And, Or}
use Rattle.table.specs.declared.shape.Condition.TheVariants.{Compare, Not, Join, Holds}
use Rattle.table.specs.declared.shape.Shape.{Shape}
use Rattle.table.specs.declared.shape.Shape.TheVariants.{Expression as Value, Condition as Test, Statement as Act, Block}

expression_back : (k a o : ℕ) (e : Expression) → expression_of k a o ≡ Some e → (node k a o ≡ of_expression e) × ExpressionFits e
expression_back k a o e h = grind (arith, nat_tests)

condition_back : (k a o : ℕ) (c : Condition) → condition_of k a o ≡ Some c → node k a o ≡ of_condition c
condition_back k a o c h = grind (arith, nat_tests)

statement_back : (k a o : ℕ) (s : Statement) → statement_of k a o ≡ Some s → node k a o ≡ of_statement s
statement_back k a o s h = grind (arith, nat_tests)

block_back : (a o m : ℕ) → block_of a o ≡ Some m → (node 41 a o ≡ node 41 0 m) × (0 < m) × (m ≤ 8192)
block_back a o m h = grind (arith, nat_tests)

pub decoded : (n : Node) (s : Shape) → shape_of n ≡ Some s → (n ≡ node_of s) × ShapeFits s
unfolding shape_of
decoded n s =
    either (ltb n.kind 20) _ _ s
    (λ _. unmapped Value _ s (λ e f g. let b = expression_back n.kind n.aux n.operand e f in rw (← g) b))
    (λ _. either (ltb n.kind 30) _ _ s
    (λ _. unmapped Test _ s (λ e f g. let b = condition_back n.kind n.aux n.operand e f in rw (← g) (b, tt)))
    (λ _. either (eqb n.kind 41) _ _ s
    (λ p. unmapped Block _ s (λ m f g.
    let q : n.kind ≡ 41 = grind (arith, nat_tests) in
    let b = block_back n.aux n.operand m f in
    rw (← g) (ap (λ k. node k n.aux n.operand) q ∙ b.0, (b.1, b.2))))
    (λ _. unmapped Act _ s (λ e f g. let b = statement_back n.kind n.aux n.operand e f in rw (← g) (b, tt)))))

pub encoded : (s : Shape) → ShapeFits s → shape_of (node_of s) ≡ Some s
unfolding shape_of
encoded (Value (Constant Int n)) f = grind (arith, nat_tests)
encoded (Value (Constant Byte n)) f = grind (arith, nat_tests)
encoded (Value (Variable s x)) f = grind (arith, nat_tests)
encoded (Value (OfOne Plus)) f = refl
encoded (Value (OfOne Minus)) f = refl
encoded (Value (OfOne ByteNot)) f = refl
encoded (Value (OfOne Extend)) f = refl
encoded (Value (OfOne Shrink)) f = refl
encoded (Value (OfTwo Add)) f = refl
encoded (Value (OfTwo Sub)) f = refl
encoded (Value (OfTwo Mul)) f = refl
encoded (Value (OfTwo Div)) f = refl
encoded (Value (OfTwo Rem)) f = refl
encoded (Value (OfTwo ByteAnd)) f = refl
encoded (Value (OfTwo ByteOr)) f = refl
encoded (Value (Call g)) f = refl
encoded (Value (Read q)) f = grind (arith, nat_tests)
encoded (Test (Compare Equal)) f = refl
encoded (Test (Compare Unequal)) f = refl
encoded (Test (Compare Less)) f = refl
encoded (Test (Compare Greater)) f = refl
encoded (Test (Compare AtMost)) f = refl
encoded (Test (Compare AtLeast)) f = refl
encoded (Test Not) f = refl
encoded (Test (Join And)) f = refl
encoded (Test (Join Or)) f = refl
encoded (Test Holds) f = refl
encoded (Act Skip) f = refl
encoded (Act (Assign s x)) f = grind (arith, nat_tests)
encoded (Act (Perform g)) f = refl
encoded (Act If) f = refl
encoded (Act IfElse) f = refl
encoded (Act (Loop m)) f = refl
encoded (Act (Break m)) f = refl
encoded (Act (Continue m)) f = refl
encoded (Act Exit) f = refl
encoded (Act Return) f = refl
encoded (Act (Write q)) f = grind (arith, nat_tests)
encoded (Block n) f = grind (arith, nat_tests)

pub decodes : (n : Node) → Decodes n (shape_of n)
decodes n s = (decoded n s, λ p. ap shape_of p.0 ∙ encoded s p.1)
