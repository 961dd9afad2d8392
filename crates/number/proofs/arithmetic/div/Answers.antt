use Rattle.std.proofs.Common.{◌≡◌, ◌∙◌, ap, rules, Some}
use lib.Signed.{quot_z}
use Rattle.number.specs.Number.{folded, unless_zero}
use Rattle.number.proofs.Exact.{gives, by_bits, some_divisor, quotient-stays}
use Rattle.number.proofs.arithmetic.div.Goals as goal

pub nonzero_div-operand : goal.nonzero_div-operand
nonzero_div-operand g c =
    let d = c.in_ok-divisor.ensures in
    let p = some_divisor _ c.in_ok-divisor.divisor d.small d.value in
    (p.1, by_bits quot_z quotient-stays c.operand.result c.in_ok-divisor.divisor c.operand.ensures.small d.small)

pub returns : goal.returns
returns g c =
    let k = g.K.NumberKind.kind in
    let d = c.in_ok-divisor in
    let v : Some d.divisor ≡ unless_zero (folded k c.args.b) (folded k c.args.b) = search rules in
    let p = some_divisor _ d.divisor d.ensures.small v in
    let x : c.operand.result ≡ folded k c.args.a = search rules in
    let q = gives quot_z quotient-stays k c.operand.result d.divisor _ _ c.fold.result c.operand.ensures.small d.ensures.small x p.0 (search rules) c.fold.ensures.value in
    ap Some q ∙ p.2 _
