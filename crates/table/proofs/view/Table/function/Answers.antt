use Rattle.std.proofs.Common.{rules, ◌≡◌, ◌<◌, ◌+◌, ◌-◌, ◌*◌, ◌/◌, [], length, true, ltb, refl, get_or, ◌∙◌, arith}
use Rattle.std.proofs.lemmas.Bool.Decides.{nat_tests}
use Rattle.table.proofs.Chunks.{record_byte, length_among}
use Rattle.table.specs.Fields.{function_at}
use Rattle.table.proofs.view.Table.function.Goals as goal

pub returns : goal.returns
unfolding function_at
returns c =
    let bs = c.args.self.now.bytes.now in
    let m = 3 + 6 * c.args.self.now.functions - 3 in
    let long : length bs ≡ 3 + 6 * c.args.self.now.functions + 3 * c.args.self.now.nodes = search rules in
    let below : c.args.f < c.args.self.now.functions = omega (arith, c.if-f-self.false) in
    let all = length_among bs m 3 (omega (arith, long)) in
    let among : c.args.f < m / 6 = omega (arith, below) in
    let inside : ltb c.args.f c.args.self.now.functions ≡ true = grind (arith, nat_tests, below) in
    let byte = record_byte bs m 3 6 _ c.args.f c.as_chunks.result.0.now (get_or c.as_chunks.result.0.now c.args.f []) c.as_chunks.ensures.front refl (rw all among) in
    let q = 3 + 6 * c.args.f in
    let b0 = byte 0 q (omega arith) (omega (arith, below)) (omega arith) in
    let b1 = byte 1 (q + 1) (omega arith) (omega (arith, below)) refl in
    let b2 = byte 2 (q + 2) (omega arith) (omega (arith, below)) refl in
    let b3 = byte 3 (q + 3) (omega arith) (omega (arith, below)) refl in
    let b4 = byte 4 (q + 4) (omega arith) (omega (arith, below)) refl in
    let b5 = byte 5 (q + 5) (omega arith) (omega (arith, below)) refl in
    c.function_from.ensures ∙ rw (inside, c.from_be_bytes.ensures, b0, b1, b2, b3, b4, b5) refl
