use Rattle.std.proofs.Common.{◌≡◌, ◌-◌, length, arith, rules}
use Rattle.machine.specs.View.{seen}
use Rattle.machine.proofs.Cells.{down_reversed}
use Rattle.machine.proofs.state.Activation.operands.Goals as goal

pub returns-clause-are : goal.returns-clause-are
unfolding seen
returns-clause-are c =
    let l : length c.args.self.now.cells ≡ 64 = search rules in
    down_reversed c.args.self.now.cells c.args.self.now.variables (c.args.self.now.count - c.args.self.now.variables) (omega arith)
