-- Going on from an answer.
use Rattle.std.specs.Prelude.{Some, None, Ok, Err, Option, Result}

-- go on from what passed; a refusal is final
abbrev pub onward : {A B E : Type 0} → Result A E → (A → Result B E) → Result B E
onward (Ok x) f = f x
onward (Err e) f = Err e

-- the value in an option, changed
abbrev pub mapped : {A B : Type 0} → (A → B) → Option A → Option B
mapped f None = None
mapped f (Some x) = Some (f x)

-- what passed, changed
abbrev pub passing : {A B E : Type 0} → (A → B) → Result A E → Result B E
passing f (Ok x) = Ok (f x)
passing f (Err e) = Err e
