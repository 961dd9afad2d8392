use Rattle.std.proofs.Common.{◌≡◌, pos, ◌-ℤ◌, ◌∙◌, arith, rules}
use Rattle.std.specs.Int.{int_rem_euclid}
use Rattle.std.proofs.lemmas.Int.{ints, to_z-of_z}
use Rattle.number.proofs.Remainders.{told, fold_rest, fold_less}
use Rattle.number.proofs.arithmetic.fold.Goals as goal

pub returns-then-rest-HIGH : goal.returns-then-rest-HIGH
returns-then-rest-HIGH g c =
    let k = g.K.NumberKind in
    let l = k.cells in
    let h : c.HIGH.result ≡ k.kind.high = c.HIGH.ensures ∙ k.constants.1 in
    let s : c.SPAN-span.result ≡ pos k.kind.span = c.SPAN-span.ensures ∙ k.constants.2 in
    let e : c.rem_euclid-rest.result ≡ int_rem_euclid c.args.n (pos k.kind.span) = search (rules, to_z-of_z) in
    let r = told k.kind k.folding c.args.n c.rem_euclid-rest.result _ (omega (arith, ints)) (fold_rest k.kind l c.args.n c.rem_euclid-rest.result e (omega (arith, ints))) in
    record { value = r.0; law = r.1 }

pub returns-else-rest-HIGH : goal.returns-else-rest-HIGH
returns-else-rest-HIGH g c =
    let k = g.K.NumberKind in
    let l = k.cells in
    let h : c.HIGH.result ≡ k.kind.high = c.HIGH.ensures ∙ k.constants.1 in
    let s : c.SPAN-span.result ≡ pos k.kind.span = c.SPAN-span.ensures ∙ k.constants.2 in
    let e : c.rem_euclid-rest.result ≡ int_rem_euclid c.args.n (pos k.kind.span) = search (rules, to_z-of_z) in
    let r = told k.kind k.folding c.args.n (c.rem_euclid-rest.result -ℤ pos k.kind.span) _ (omega (arith, ints)) (fold_less k.kind l c.args.n c.rem_euclid-rest.result e (omega (arith, ints))) in
    record { value = r.0; law = r.1 }
