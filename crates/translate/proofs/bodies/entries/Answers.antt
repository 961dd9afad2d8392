use Rattle.table.specs.View.{view}
use Rattle.translate.specs.Functions.{program_in}
use Rattle.translate.proofs.Functions.{entries-again}
use Rattle.translate.proofs.bodies.entries.Goals as goal

pub loop-f-preserved : goal.loop-f-preserved
loop-f-preserved c =
    let e = c.body_size-words.ensures in
    rw (e.words, c.body-body.ensures.table, c.body-body.ensures.context) (entries-again (view c.args.table.now) c.args.table.now.functions c.loop-f.f c.loop-f.at _ (program_in c.args.table.now) _ _ _ c.loop-f-test.true (rw (c.body-body.ensures.table, c.body-body.ensures.context) at e.next) c.loop-f.address c.loop-f.invariant (rw (c.entry_of.ensures, c.body-body.ensures.context) at c.put_entry.ensures))
