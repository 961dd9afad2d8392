use Rattle.std.proofs.Common.{arith}
use Rattle.code.specs.Word.{word_of}
use Rattle.code.proofs.Round.{read_again}
use Rattle.code.proofs.write.encode.Goals as goal

pub returns : goal.returns
unfolding word_of
returns c = record { value = omega arith; again = read_again c.args.instruction c.args.node _ (omega arith) (omega arith) }
