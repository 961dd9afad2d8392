use Rattle.std.proofs.Common.{◌≡◌, ◌∙◌, rules}
use Rattle.number.specs.Number.{folded}
use Rattle.number.proofs.Exact.{divisor_of}
use Rattle.number.proofs.arithmetic.nonzero.Goals as goal

pub returns-clause-value : goal.returns-clause-value
returns-clause-value g c =
    let v : c.operand-divisor.result ≡ folded g.K.NumberKind.kind c.args.cell = search rules in
    c.then_some.ensures ∙ divisor_of c.operand-divisor.result _ c.operand-divisor.ensures.small v
