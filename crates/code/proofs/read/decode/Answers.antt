use Rattle.std.proofs.Common.{◌≡◌}
use Rattle.code.specs.Word.{instruction_of}
use Rattle.code.proofs.Round.{written_again}
use Rattle.code.proofs.read.decode.Goals as goal

pub returns : goal.returns
unfolding instruction_of
returns c =
    let e : c.instruction_from.result ≡ instruction_of c.args.word = cc in
    record { value = e; again = written_again c.args.word c.instruction_from.result e }
