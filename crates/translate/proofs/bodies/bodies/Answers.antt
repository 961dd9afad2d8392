use Rattle.table.specs.View.{view}
use Rattle.translate.specs.Functions.{program_in}
use Rattle.translate.proofs.Functions.{bodies-again}
use Rattle.translate.proofs.bodies.bodies.Goals as goal

pub loop-f-preserved : goal.loop-f-preserved
loop-f-preserved c =
    let e = c.whole_body-at.ensures in
    bodies-again (view c.args.table.now) c.args.table.now.functions c.loop-f.f c.loop-f.at _ (program_in c.args.table.now) _ _ _ c.loop-f-test.true (rw (c.body.ensures.table, c.body.ensures.context) at e.next) c.loop-f.invariant (rw (c.body.ensures.table, c.body.ensures.context) at e.is)
