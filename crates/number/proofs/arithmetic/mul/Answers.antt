use Rattle.std.proofs.Common.{◌≡◌, ◌*ℤ◌, rules}
use Rattle.number.specs.Number.{folded}
use Rattle.number.proofs.Exact.{gives, by_bits, product-stays}
use Rattle.number.proofs.arithmetic.mul.Goals as goal

pub returns : goal.returns
returns g c =
    let k = g.K.NumberKind.kind in
    let x : c.operand.result ≡ folded k c.args.a = search rules in
    let y : c.operand-2.result ≡ folded k c.args.b = search rules in
    gives (◌*ℤ◌) product-stays k c.operand.result c.operand-2.result _ _ c.fold.result c.operand.ensures.small c.operand-2.ensures.small x y (search rules) c.fold.ensures.value

pub overflow_mul-operand : goal.overflow_mul-operand
overflow_mul-operand g c = by_bits (◌*ℤ◌) product-stays c.operand.result c.operand-2.result c.operand.ensures.small c.operand-2.ensures.small
