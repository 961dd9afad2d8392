use Rattle.std.proofs.Common.{rules, ◌≡◌, Option, sym, ◌∙◌, arith}
use Rattle.table.specs.Flow.{mapped}
use Rattle.table.specs.declared.shape.Shape.TheVariants.{Expression as Value, Condition as Test, Statement as Act, Block}
use Rattle.table.specs.Shapes.{expression_of, condition_of, statement_of, block_of, shape_of, Decodes}
use Rattle.table.specs.declared.record.Node.{Node}
use Rattle.table.specs.declared.shape.Shape.{Shape}
use Rattle.table.proofs.Round.{decodes}
use Rattle.table.proofs.Sorts.{shape_value, shape_test, shape-block, shape_act}
use Rattle.table.proofs.record.Node.shape.Goals as goal

-- what is the shape by its definition is it exactly
both : (n : Node) {r s : Option Shape} → r ≡ s → shape_of n ≡ s → record { is : r ≡ shape_of n; exactly : Decodes n r }
both n h g = let e = h ∙ sym g in record { is = e; exactly = rw e (decodes n) }

pub returns-in-41 : goal.returns-in-41
returns-in-41 c =
    let m : c.map.result ≡ mapped Block (block_of c.args.self.now.aux c.args.self.now.operand) = search rules in
    both c.args.self.now m (shape-block c.args.self.now (omega arith))

pub returns-in-0-to-19 : goal.returns-in-0-to-19
returns-in-0-to-19 c =
    let m : c.map-in-0-to-19.result ≡ mapped Value (expression_of c.args.self.now.kind c.args.self.now.aux c.args.self.now.operand) = search rules in
    both c.args.self.now m (shape_value c.args.self.now (omega arith))

pub returns-in-20-to-29 : goal.returns-in-20-to-29
returns-in-20-to-29 c =
    let m : c.map-in-20-to-29.result ≡ mapped Test (condition_of c.args.self.now.kind c.args.self.now.aux c.args.self.now.operand) = search rules in
    both c.args.self.now m (shape_test c.args.self.now (omega arith) (omega arith))

pub returns-in_default : goal.returns-in_default
returns-in_default c =
    let m : c.map-in_default.result ≡ mapped Act (statement_of c.args.self.now.kind c.args.self.now.aux c.args.self.now.operand) = search rules in
    both c.args.self.now m (shape_act c.args.self.now (omega arith) (omega arith))
