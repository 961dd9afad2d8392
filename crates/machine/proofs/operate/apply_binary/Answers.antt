use Rattle.std.proofs.Common.{◌≡◌, sym, ap, ◌∙◌}
use Rattle.std.proofs.lemmas.Int.{to_z-of_z}
use Rattle.table.specs.declared.shape.Kind.{Kind}
use Rattle.number.specs.Number.{int, byte}
use Rattle.machine.specs.Values.{numbers_of, binary_in, apply_binary}
use Rattle.machine.proofs.operate.apply_binary.Goals as goal

pub returns-in-Int : goal.returns-in-Int
unfolding apply_binary
returns-in-Int c =
    let f = c.ranges.x in
    let g = c.ranges.y in
    let e : c.binary_in.result ≡ binary_in c.args.operator int c.args.x c.args.y = simp to_z-of_z at c.binary_in.ensures in
    e ∙ ap (λ (k : Kind). binary_in c.args.operator (numbers_of k) c.args.x c.args.y) (sym c.in-Int.is)

pub returns-in-Byte : goal.returns-in-Byte
unfolding apply_binary
returns-in-Byte c =
    let f = c.ranges.x in
    let g = c.ranges.y in
    let e : c.binary_in-in-Byte.result ≡ binary_in c.args.operator byte c.args.x c.args.y = simp to_z-of_z at c.binary_in-in-Byte.ensures in
    e ∙ ap (λ (k : Kind). binary_in c.args.operator (numbers_of k) c.args.x c.args.y) (sym c.in-Byte.is)
