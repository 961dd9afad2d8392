use Rattle.std.proofs.Common.{◌≡◌, rules}
use Rattle.number.specs.Number.{byte, folded}
use Rattle.number.proofs.Exact.{compares-zero}
use Rattle.number.proofs.logic.is_true.Goals as goal

pub returns : goal.returns
returns c =
    let x : c.operand.result ≡ folded byte c.args.a = search rules in
    let e = compares-zero c.operand.result (folded byte c.args.a) c.operand.ensures.small x in cc
