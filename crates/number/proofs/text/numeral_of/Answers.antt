use Rattle.std.proofs.Common.{sym, refl, arith}
use Rattle.std.proofs.lemmas.Bool.{eqb-true, eqb-false}
use Rattle.number.specs.Reading.{value_after}
use Rattle.number.proofs.Figures.{value_more, digits_more, value_small, numeral-empty, numeral-other, numeral-read}
use Rattle.number.proofs.text.numeral_of.Goals as goal

pub returns-then-is_empty : goal.returns-then-is_empty
returns-then-is_empty c = sym (numeral-empty c.args.text.now (eqb-true _ _ (sym c.if-is_empty.ensures)))

pub loop-b-init : goal.loop-b-init
unfolding value_after
loop-b-init c = (refl, refl)

pub returns-then-not-is_ascii_digit : goal.returns-then-not-is_ascii_digit
returns-then-not-is_ascii_digit c =
    let n = c.if-not-is_ascii_digit.ensures.cases in
    sym (numeral-other c.args.text.now c.loop-b.b-index c.loop-b-test.true (λ d. omega arith))

pub overflow_mul-value : goal.overflow_mul-value
overflow_mul-value c = let s = value_small c.args.text.now c.loop-b.b-index c.requires c.loop-b-test.true c.loop-b.invariant.0 in omega arith

pub overflow_add-value : goal.overflow_add-value
overflow_add-value c = let s = value_small c.args.text.now c.loop-b.b-index c.requires c.loop-b-test.true c.loop-b.invariant.0 in omega arith

pub loop-b-preserved : goal.loop-b-preserved
loop-b-preserved c =
    let d = c.if-not-is_ascii_digit.ensures.cases in (
      digits_more c.args.text.now c.loop-b.b-index c.loop-b-test.true c.loop-b.invariant.0 (omega arith) (omega arith),
      (let v = value_more c.args.text.now c.loop-b.b-index c.loop-b-test.true in omega arith),
    )

pub returns : goal.returns
returns c =
    numeral-read c.args.text.now c.loop-b.b-index c.loop-b.value (eqb-false _ _ (sym c.if-is_empty.ensures)) (omega arith) c.loop-b.invariant.0 c.loop-b.invariant.1
