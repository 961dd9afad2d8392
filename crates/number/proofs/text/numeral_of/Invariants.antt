use Rattle.std.proofs.Common.{◌≡◌, true, take}
use Rattle.std.specs.Str.{all_ascii_digits}
use Rattle.number.specs.Reading.{value_after}
use Rattle.number.proofs.text.numeral_of.Given as goal

abbrev pub invariant-loop-b : goal.invariant-loop-b
invariant-loop-b l = (all_ascii_digits (take l.b-index l.text) ≡ true) × (l.value ≡ value_after 0 (take l.b-index l.text))
