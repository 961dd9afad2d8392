use Rattle.std.proofs.Common.{◌≡◌, sym}
use Rattle.number.specs.declared.text.Reading.TheVariants.{Wait, Refused}
use Rattle.number.specs.Reading.{reading}
use Rattle.number.proofs.Readings.{outcome, waits, fills, settled, eight}
use Rattle.number.proofs.text.read.Goals as goal

pub returns-in-Some : goal.returns-in-Some
returns-in-Some g c =
    let k = g.K.NumberKind.kind in
    let bs = c.args.bytes.now in
    let e : c.judge.result ≡ reading k bs = outcome k bs c.in-Some.i c.numeral_of.result c.judge.result (sym c.in-Some.ensures.place) c.numeral_of.ensures c.judge.ensures in
    record { value = e; eight = eight k bs c.judge.result e; settled = settled k bs c.judge.result e }

pub returns-then-bytes-lt-WINDOW : goal.returns-then-bytes-lt-WINDOW
returns-then-bytes-lt-WINDOW g c =
    let k = g.K.NumberKind.kind in
    let bs = c.args.bytes.now in
    let e = waits k bs (sym c.in-None.ensures.place) c.if-bytes-lt-WINDOW.true in
    record { value = e; eight = eight k bs Wait e; settled = settled k bs Wait e }

pub returns-else-bytes-lt-WINDOW : goal.returns-else-bytes-lt-WINDOW
returns-else-bytes-lt-WINDOW g c =
    let k = g.K.NumberKind.kind in
    let bs = c.args.bytes.now in
    let e = fills k bs (sym c.in-None.ensures.place) c.if-bytes-lt-WINDOW.false in
    record { value = e; eight = eight k bs Refused e; settled = settled k bs Refused e }
