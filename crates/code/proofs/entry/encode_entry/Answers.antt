use Rattle.std.proofs.Common.{arith}
use Rattle.code.specs.Entries.{entry_word}
use Rattle.code.proofs.EntryRound.{entry-read-again}
use Rattle.code.proofs.entry.encode_entry.Goals as goal

pub returns : goal.returns
unfolding entry_word
returns c = record { value = omega arith; again = entry-read-again c.args.entry _ (omega arith) }
