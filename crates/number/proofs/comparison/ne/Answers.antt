use Rattle.std.proofs.Common.{◌≡◌, not, ap, rules}
use Rattle.number.specs.Number.{folded}
use Rattle.number.proofs.Exact.{compares}
use Rattle.number.proofs.comparison.ne.Goals as goal

pub returns : goal.returns
returns g c =
    let k = g.K.NumberKind.kind in
    let x : c.operand.result ≡ folded k c.args.a = search rules in
    let y : c.operand-2.result ≡ folded k c.args.b = search rules in
    ap not (compares c.operand.result c.operand-2.result _ _ c.operand.ensures.small c.operand-2.ensures.small x y)
