use Rattle.std.proofs.Common.{◌≡◌, ◌≤◌, ◌∙◌, rules, arith}
use Rattle.code.proofs.EntryRound.{entry_none, entry_by_bytes, entry_written_again}
use Rattle.code.proofs.entry.decode_entry.Goals as goal

-- a word past 32 bits is none
pub returns-in_err-ok-clause-value : goal.returns-in_err-ok-clause-value
returns-in_err-ok-clause-value c =
    let h : 4294967296 ≤ c.args.word = search rules in
    c.from_residual.ensures ∙ entry_none c.args.word h

pub returns : goal.returns
returns c =
    let w : c.in_ok-ok.field-0 ≡ c.args.word = search rules in
    let e = c.entry_from.ensures ∙ entry_by_bytes c.args.word c.in_ok-ok.field-0 c.from_be_bytes.result c.to_be_bytes.result w (omega arith) c.to_be_bytes.ensures c.from_be_bytes.ensures in
    record { value = e; again = entry_written_again c.args.word c.entry_from.result e }
