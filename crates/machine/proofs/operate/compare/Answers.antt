use Rattle.std.proofs.Common.{◌≡◌, sym, ap, ◌∙◌}
use Rattle.std.proofs.lemmas.Int.{to_z-of_z}
use Rattle.table.specs.declared.shape.Kind.{Kind}
use Rattle.number.specs.Number.{int, byte}
use Rattle.machine.specs.Values.{numbers_of, compared_in, compared}
use Rattle.machine.proofs.operate.compare.Goals as goal

pub returns-in-Int : goal.returns-in-Int
unfolding compared
returns-in-Int c =
    let f = c.ranges.x in
    let g = c.ranges.y in
    let e : c.compare_in.result ≡ compared_in c.args.comparison int c.args.x c.args.y = simp to_z-of_z at c.compare_in.ensures in
    e ∙ ap (λ (k : Kind). compared_in c.args.comparison (numbers_of k) c.args.x c.args.y) (sym c.in-Int.is)

pub returns-in-Byte : goal.returns-in-Byte
unfolding compared
returns-in-Byte c =
    let f = c.ranges.x in
    let g = c.ranges.y in
    let e : c.compare_in-in-Byte.result ≡ compared_in c.args.comparison byte c.args.x c.args.y = simp to_z-of_z at c.compare_in-in-Byte.ensures in
    e ∙ ap (λ (k : Kind). compared_in c.args.comparison (numbers_of k) c.args.x c.args.y) (sym c.in-Byte.is)
