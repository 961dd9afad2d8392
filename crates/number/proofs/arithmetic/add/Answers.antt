use Rattle.std.proofs.Common.{◌≡◌, ◌+ℤ◌, rules}
use Rattle.number.specs.Number.{folded}
use Rattle.number.proofs.Exact.{gives, sum-stays}
use Rattle.number.proofs.arithmetic.add.Goals as goal

pub returns : goal.returns
returns g c =
    let k = g.K.NumberKind.kind in
    let x : c.operand.result ≡ folded k c.args.a = search rules in
    let y : c.operand-2.result ≡ folded k c.args.b = search rules in
    gives (◌+ℤ◌) sum-stays k c.operand.result c.operand-2.result _ _ c.fold.result c.operand.ensures.small c.operand-2.ensures.small x y (search rules) c.fold.ensures.value
