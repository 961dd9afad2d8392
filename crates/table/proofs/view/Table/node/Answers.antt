use Rattle.std.proofs.Common.{rules, ◌≡◌, ◌<◌, ◌+◌, ◌-◌, ◌*◌, ◌/◌, [], length, true, ltb, refl, get_or, arith}
use Rattle.std.proofs.lemmas.Bool.Decides.{nat_tests}
use Rattle.table.proofs.Chunks.{record_byte, length_among}
use Rattle.table.proofs.view.Table.node.Goals as goal

pub returns : goal.returns
returns c =
    let bs = c.args.self.now.bytes.now in
    let p = 3 + 6 * c.args.self.now.functions in
    let long : length bs ≡ 3 + 6 * c.args.self.now.functions + 3 * c.args.self.now.nodes = search rules in
    let below : c.args.at < c.args.self.now.nodes = omega (arith, c.if-at-self.false) in
    let all = length_among bs (length bs - p) p (omega (arith, long)) in
    let among : c.args.at < (length bs - p) / 3 = omega (arith, long, below) in
    let inside : ltb c.args.at c.args.self.now.nodes ≡ true = grind (arith, nat_tests, below) in
    let byte = record_byte bs (length bs - p) p 3 _ c.args.at c.as_chunks.result.0.now (get_or c.as_chunks.result.0.now c.args.at []) c.as_chunks.ensures.front refl (rw all among) in
    rw (inside, c.from_be_bytes.ensures, byte 0 (p + 3 * c.args.at) (omega arith) (omega (arith, long, below)) (omega arith), byte 1 (p + 3 * c.args.at + 1) (omega arith) (omega (arith, long, below)) refl, byte 2 (p + 3 * c.args.at + 2) (omega arith) (omega (arith, long, below)) refl) refl
