use Rattle.std.proofs.Common.{◌≡◌, [], ◌∷◌, ℤ, nat_abs, sym, ap, ◌∙◌, arith, w16, w32, SFits, to_z, of_z}
use Rattle.std.proofs.lemmas.Int.{to_z-of_z, ints}
use Rattle.table.specs.declared.shape.Format.{Format}
use Rattle.number.specs.Number.{byte, folded}
use Rattle.number.specs.Decimal.{decimal}
use Rattle.machine.specs.Values.{text_of}
use Rattle.machine.proofs.message.compose.Goals as goal

pub returns-in-Integer : goal.returns-in-Integer
unfolding text_of
returns-in-Integer c =
    c.write.ensures.value ∙ (ap decimal (to_z-of_z w16 c.args.value c.ranges.value) ∙ sym (ap (λ (q : Format). text_of q c.args.value) c.in-Integer.is))

pub returns-in-Byte : goal.returns-in-Byte
unfolding text_of
returns-in-Byte c =
    let f : SFits w16 c.fold.result = omega (arith, ints) in
    let e : to_z w32 (of_z w32 c.from.result) ≡ c.args.value = omega (arith, ints) in
    c.write-in-Byte.ensures.value
    ∙ (ap decimal (to_z-of_z w16 c.fold.result f ∙ (c.fold.ensures.value ∙ ap (folded byte) e)) ∙ sym (ap (λ (q : Format). text_of q c.args.value) c.in-Byte.is))

pub returns-in-Char : goal.returns-in-Char
unfolding text_of
returns-in-Char c =
    let f : SFits w16 c.fold-in-Char.result = omega (arith, ints) in
    let e : to_z w32 (of_z w32 c.from-in-Char.result) ≡ c.args.value = omega (arith, ints) in
    ap (λ (z : ℤ). nat_abs z ∷ []) (to_z-of_z w16 c.fold-in-Char.result f ∙ (c.fold-in-Char.ensures.value ∙ ap (folded byte) e)) ∙ sym (ap (λ (q : Format). text_of q c.args.value) c.in-Char.is)
