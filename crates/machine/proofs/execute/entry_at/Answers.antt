use Rattle.std.proofs.Common.{◌≡◌, ◌<◌, ◌≤◌, None, length, get_or, rules}
use Rattle.code.specs.Entries.{entry_of}
use Rattle.machine.proofs.Entries.{entry-out, entry_in}
use Rattle.machine.proofs.execute.entry_at.Goals as goal

pub returns-in_err-get-clause-is : goal.returns-in_err-get-clause-is
returns-in_err-get-clause-is c =
    let r : c.from_residual.result ≡ None = search rules in
    let h : length c.args.code.now ≤ c.args.function = search rules in
    rw r (entry-out c.args.code.now c.args.function h)

pub returns-clause-is : goal.returns-clause-is
returns-clause-is c =
    let h : c.args.function < length c.args.code.now = search rules in
    let e : c.decode_entry.result ≡ entry_of (get_or c.args.code.now c.args.function 0) = search rules in
    entry_in c.args.code.now c.args.function c.decode_entry.result h e
