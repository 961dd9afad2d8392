-- That values keep to their kinds in a program that keeps the rules.
use Rattle.std.specs.Prelude.{ℕ, ◌<◌, List, [], ◌∷◌, ℤ}
use Rattle.std.specs.List.{AllByRecursion}
use Rattle.table.specs.declared.shape.Kind.{Kind}
use Rattle.number.specs.Number.{Within}
use Rattle.language.specs.Tree.{Program}
use Rattle.language.specs.Rules.{Keeps}
use Rattle.language.specs.State.{Report, running, waits, ended, fault, ◌▷◌}
use Rattle.language.specs.Operators.{numbers_of}
use Rattle.language.specs.Meaning.{function_at, meaning, start}

-- A value is a number of the kind.
abbrev pub IsOf : Kind → ℤ → Type 0
IsOf k v = Within (numbers_of k) v

-- There is one value for each kind, of that kind.
abbrev pub Fitting : List Kind → List ℤ → Type 0
Fitting [] [] = Unit {0}
Fitting [] (v ∷ vs) = ⊥
Fitting (k ∷ ks) [] = ⊥
Fitting (k ∷ ks) (v ∷ vs) = IsOf k v × Fitting ks vs

-- Where main's variables are reported, they are of their kinds.
abbrev pub KindsKept : List Kind → Report → Type 0
KindsKept kinds running = Unit {0}
KindsKept kinds waits = Unit {0}
KindsKept kinds (ended variables) = Fitting kinds variables
KindsKept kinds (fault cause node variables) = Fitting kinds variables
KindsKept kinds (h ▷ r) = KindsKept kinds r

-- Main's variables are in range at the end and at every fault of a program that keeps the rules, from its start on,
-- whatever bytes are fed.
abbrev pub ValuesInRange : Type 0
ValuesInRange =
    (P : Program) → Keeps P → (bytes : List ℕ) → AllByRecursion (λ b. b < 256) bytes → (room n : ℕ) → KindsKept (function_at P 0).signature.variables (meaning P (start P bytes room) n)
