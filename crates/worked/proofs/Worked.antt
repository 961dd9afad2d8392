-- The worked cases: all that is told and reported of them is computed, and compared with what is written as one list.
use Rattle.std.proofs.Common.{◌≡◌, ℕ, pred, List, [], ◌∷◌, map, Some, Option, refl, ap}
use Rattle.std.specs.List.{AllByRecursion}
use Rattle.std.specs.Fmt.{digits}
use Rattle.table.specs.Fields.{function_at}
use Rattle.table.specs.Shapes.{shape_of}
use Rattle.number.specs.Number.{in_range, folded, equal}
use Rattle.number.specs.Reading.{feed_among, value_after, numeral, taken, judged, reading}
use Rattle.number.specs.Decimal.{decimal}
use Rattle.language.specs.State.{Report}
use Rattle.language.specs.Layout.{layout}
use Rattle.language.specs.Meaning.{expression, condition, rounds, statement, functions, walk}
use Rattle.walk.specs.Walk.{Answer}
use Rattle.walk.specs.Bodies.{body_from, checked}
use Rattle.walk.specs.declared.found.Passed.{Passed}
use Rattle.worked.specs.Cases.{Case, refused, runs, reported, passed_as, told_by, Holds, cases, WorkedCases}

-- what a case is compared by
data Seen : Type 0 where
  refusal : Option (ℕ × ℕ) → Seen
  run : Answer Passed → Report → Report → Seen

abbrev found : Case → Seen
found (refused P number place) = refusal (told_by (checked (layout P)))
found (runs c) = run (checked (layout c.program)) (reported c c.entries) (reported c (pred c.entries))

abbrev wanted : Case → Seen
wanted (refused P number place) = refusal (Some (number, place))
wanted (runs c) = run (passed_as c) c.expected c.before

abbrev first : Seen → List Seen → Seen
first r [] = r
first r (x ∷ xs) = x

abbrev others : List Seen → List Seen
others [] = []
others (x ∷ xs) = xs

holds : (c : Case) → found c ≡ wanted c → Holds c
holds (refused P number place) e = cc
holds (runs c) e = record { passes = cc; within = cc; earlier = cc }

each : (cs : List Case) → map found cs ≡ map wanted cs → AllByRecursion Holds cs
each [] e = tt
each (c ∷ cs) e = (holds c (ap (first (wanted c)) e), each cs (ap others e))

pub worked : WorkedCases
unfolding expression condition rounds statement functions walk in_range folded equal feed_among value_after numeral taken judged reading decimal digits layout checked body_from function_at shape_of
worked = each cases refl
