use Rattle.std.proofs.Common.{◌≡◌, ◌+◌, ◌-◌}
use Rattle.language.specs.Reader.{read_ss}
use Rattle.translate.specs.Aims.{aims}
use Rattle.translate.specs.Source.{stmt_in}
use Rattle.translate.proofs.Blocks.{StatementsLeft}
use Rattle.translate.proofs.act.+act_block.Given as goal

abbrev pub decreases-act : goal.decreases-act
decreases-act l = l.left

abbrev pub decreases-block : goal.decreases-block
decreases-block l = l.left

abbrev pub invariant-block-loop : goal.invariant-block-loop
invariant-block-loop l =
    record {
      left : StatementsLeft (aims l.initial.targets) l.initial.out l.out (read_ss (stmt_in l.body (l.left - 1)) (l.count - l.counter) l.next) (read_ss (stmt_in l.body (l.left - 1)) l.count (l.at + 1));
      kept : aims l.targets ≡ aims l.initial.targets;
    }
