use Rattle.std.proofs.Common.{rules}
use Rattle.translate.specs.Source.{expr_in}
use Rattle.translate.proofs.Arguments.{arguments-again}
use Rattle.translate.proofs.Writes.{writes_two}
use Rattle.translate.proofs.value.+arguments_operands_value.Goals as goal

pub arguments-loop-preserved : goal.arguments-loop-preserved
arguments-loop-preserved t c =
    arguments-again (expr_in c.args.body.now c.args.left) c.args.count c.loop.counter c.loop.next _ _ _ _ _ c.loop-test.true c.loop.invariant c.value.ensures.is c.value.ensures.next

pub operands-returns-clause-is : goal.operands-returns-clause-is
operands-returns-clause-is t c = writes_two c.value-kind.ensures.is c.value-next.ensures.is (search rules) (search rules)
