use Rattle.std.proofs.Common.{◌≤◌, length, arith}
use Rattle.machine.specs.View.{view}
use Rattle.machine.proofs.Tables.{run-read, run-write}
use Rattle.machine.proofs.state.Core.run.Goals as goal

pub returns-in-Read : goal.returns-in-Read
unfolding view
returns-in-Read c =
    let l : c.args.self.now.depth ≤ length c.args.self.now.activations = omega arith in
    run-read _ _ _ _ _ c.requires l c.args.code.now c.args.instruction c.in-Read.format c.in-Read.is _ c.free-free.result c.free-free.ensures c.to_read.result c.to_read.ensures

pub returns-in-Write : goal.returns-in-Write
unfolding view
returns-in-Write c =
    let l : c.args.self.now.depth ≤ length c.args.self.now.activations = omega arith in
    run-write _ _ _ _ _ c.requires l c.args.code.now c.args.instruction c.in-Write.format c.in-Write.is _ c.last-last.result c.last-last.ensures c.to_send.result c.to_send.ensures
