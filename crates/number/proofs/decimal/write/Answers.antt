use Rattle.std.proofs.Common.{◌≡◌, drop, rules, arith}
use Rattle.std.specs.Fmt.{decimal as unsigned}
use Rattle.number.specs.Decimal.{decimal}
use Rattle.number.proofs.Back.{put-before, writes-plain, writes-minus, reads_back, five}
use Rattle.number.proofs.decimal.write.Goals as goal
use Rattle.number.proofs.decimal.write.Goals.{then-n-lt0, else-n-lt0}

pub write_digits-start-requires : goal.write_digits-start-requires
write_digits-start-requires c =
    let l = five c.from.result (omega arith) in
    (omega arith, omega arith)

pub overflow_sub-start : goal.overflow_sub-start
overflow_sub-start c =
    let l = five c.from.result (omega arith) in
    omega arith

pub returns : goal.returns
returns c =
    let l = five c.from.result (omega arith) in
    let t : drop c.write_digits-start.result c.write_digits-start.new.buf ≡ unsigned c.unsigned_abs.result = search rules in
    let e : drop c.if-n-lt0.start c.if-n-lt0.bytes ≡ decimal c.args.n =
    elim c.if-n-lt0.branch [
      | then-n-lt0 w ↦
          let p = put-before c.write_digits-start.new.buf c.write_digits-start.result 45 (omega arith) (omega arith) in
          let q = writes-minus c.args.n c.unsigned_abs.result _ c.ranges.n c.unsigned_abs.ensures.value w.if-n-lt0.true t in cc
      | else-n-lt0 w ↦ let q = writes-plain c.args.n c.unsigned_abs.result _ c.ranges.n c.unsigned_abs.ensures.value w.if-n-lt0.false t in cc
    ] in
    record { value = e; back = reads_back c.args.n _ e }
