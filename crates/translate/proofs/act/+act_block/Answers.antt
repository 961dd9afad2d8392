use Rattle.std.proofs.Common.{◌-◌, refl, ◌∙◌, rules}
use Rattle.translate.specs.Source.{stmt_in}
use Rattle.translate.proofs.Blocks.{block-again}
use Rattle.translate.proofs.Writes.{writes_two}
use Rattle.translate.proofs.act.+act_block.Goals as goal

pub act-returns-in-If-clause-is : goal.act-returns-in-If-clause-is
act-returns-in-If-clause-is t c = writes_two c.jump_if_false-inner.ensures.is c.block.ensures.is (search rules) (search rules)

pub act-returns-in-IfElse-clause-is : goal.act-returns-in-IfElse-clause-is
act-returns-in-IfElse-clause-is t c =
    writes_two (writes_two (writes_two c.jump_if_false-first.ensures.is c.block-second.ensures.is refl refl) c.put-in-IfElse.ensures refl refl) c.block-in-IfElse.ensures.is (search rules) (search rules)

pub block-loop-preserved : goal.block-loop-preserved
block-loop-preserved t c =
    let a = c.act-next in
    let p = c.loop.invariant in
    record {
      left =
          block-again _ (stmt_in c.args.body.now (c.args.left - 1)) c.in-Some.count c.loop.counter c.loop.next _ _ _ _ _ c.loop-test.true p.left (rw p.kept at a.ensures.is) a.ensures.next;
      kept = a.ensures.kept ∙ p.kept;
    }
