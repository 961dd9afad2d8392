-- The functions of a program, one by one.
use Rattle.std.proofs.Common.{◌≡◌, ℕ, zero, suc, ◌+◌, ◌-◌, ◌<◌, ◌∷◌, length, Some, None, Option, refl, arith}
use Rattle.std.proofs.lemmas.List.FromFn.{length-map-range_with_len}
use Rattle.table.specs.Fields.{variables_of, kind_bit}
use Rattle.table.specs.Shapes.{shape_of}
use Rattle.table.specs.View.{View, node_at}
use Rattle.table.specs.declared.record.Function.{Function as Record}
use Rattle.language.specs.Tree.{Stmt}
use Rattle.language.specs.Rules.{Env}
use Rattle.language.specs.Reader.{body_of, read_s, read_b_at, read_b}
use Rattle.walk.specs.Bodies.{signature_of}
use Rattle.translate.specs.Code.{place_b}
use Rattle.translate.specs.Functions.{context_in, body_at, functions_from}

-- a block's place is where it is read
at_place : (one : ℕ → Stmt × ℕ) (i : ℕ) (o : Option ℕ) → place_b (read_b_at one i o).0 ≡ i
at_place one i None = refl
at_place one i (Some n) = refl

pub body_place : (v : View) (e : Env) (k i : ℕ) → place_b (read_b v e k i).0 ≡ i
body_place v e zero i = refl
body_place v e (suc k) i = at_place (read_s v e k) i (body_of (shape_of (node_at v i)))

functions_step : (v : View) (n f i : ℕ) → 0 < n →
    functions_from v n f i
    ≡ record { signature = signature_of (context_in v f).own; body = (body_at v (context_in v f) i).0 } ∷ functions_from v (n - 1) (f + 1) (body_at v (context_in v f) i).1
functions_step v zero f i h = absurd (omega arith)
functions_step v (suc n) f i h = let q : suc n - 1 ≡ n = omega arith in rw q

-- one more function of n
pub functions-next : (v : View) (n f i : ℕ) → f < n →
    functions_from v (n - f) f i
    ≡ record { signature = signature_of (context_in v f).own; body = (body_at v (context_in v f) i).0 } ∷ functions_from v (n - (f + 1)) (f + 1) (body_at v (context_in v f) i).1
functions-next v n f i h =
    let q : n - f - 1 ≡ n - (f + 1) = omega arith in rw (← q) (functions_step v (n - f) f i (omega arith))

-- a function's record tells how many variables it has
pub variables-many : (r : Record) → length (variables_of r) ≡ r.variables
variables-many r = length-map-range_with_len (kind_bit r.kinds) 0 r.variables
