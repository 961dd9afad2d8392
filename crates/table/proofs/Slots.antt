-- The records of functions one by one, and their variables by slot.
use Rattle.std.proofs.Common.{◌≡◌, ℕ, zero, suc, ◌+◌, ◌<◌, ◌≤◌, Bool, true, false, cond, not, ltb, length, Some, None, Option, refl, sym, ap, ◌∙◌, arith}
use Rattle.std.specs.List.{slice_get, find, range_with_len}
use Rattle.std.specs.Bool.{then_some}
use Rattle.std.specs.Option.{option_map}
use Rattle.std.proofs.lemmas.Bool.Decides.{nat_tests}
use Rattle.std.proofs.lemmas.Option.{slice_get-get_or, slice_get_past}
use Rattle.std.proofs.lemmas.List.FromFn.{length-map-range_with_len, get_or-map-range_with_len}
use Rattle.table.specs.Fields.{first_broken, record_holds, function_at, variables_of, kind_bit}
use Rattle.table.specs.View.{View, function_of}
use Rattle.table.specs.declared.record.Function.{Function}

-- the first broken record is found by its test
pub broken_found : (v : View) (n f : ℕ) → f + n ≤ v.functions →
    find (λ k. not (record_holds k (function_of v k))) (range_with_len f n) ≡ first_broken v.bytes n f
broken_found v zero f h = refl
broken_found v (suc n) f h =
    let t : ltb f v.functions ≡ true = grind (arith, nat_tests) in
    rw t (by_case (record_holds f (function_at v.bytes f)) (broken_found v n (f + 1) (omega arith)))
  where
    by_case : (b : Bool) {x y : Option ℕ} → x ≡ y → cond (not b) (Some f) x ≡ cond b y (Some f)
    by_case true e = e
    by_case false e = refl

pub unchanged : {A : Type 0} (o : Option A) → option_map (λ x. x) o ≡ o
unchanged None = refl
unchanged (Some x) = refl

pub variable-at : (f : Function) (slot : ℕ) → slot < f.variables → slice_get (variables_of f) slot ≡ Some (kind_bit f.kinds slot)
variable-at f slot h =
    let long : slot < length (variables_of f) = omega (arith, length-map-range_with_len (kind_bit f.kinds) 0 f.variables) in
    slice_get-get_or (variables_of f) slot (kind_bit 0 0) long
    ∙ ap Some (get_or-map-range_with_len (kind_bit f.kinds) 0 f.variables slot slot (kind_bit 0 0) h (omega arith))

pub variable-past : (f : Function) (slot : ℕ) → f.variables ≤ slot → slice_get (variables_of f) slot ≡ None
variable-past f slot h = slice_get_past (variables_of f) slot (omega (arith, length-map-range_with_len (kind_bit f.kinds) 0 f.variables))

pub variable_in : (f : Function) (slot : ℕ) → then_some (ltb slot f.variables) (kind_bit f.kinds slot) ≡ slice_get (variables_of f) slot
variable_in f slot = by_test (ltb slot f.variables) refl
  where
    by_test : (b : Bool) → ltb slot f.variables ≡ b → then_some b (kind_bit f.kinds slot) ≡ slice_get (variables_of f) slot
    by_test true e = sym (variable-at f slot (grind (arith, nat_tests)))
    by_test false e = sym (variable-past f slot (grind (arith, nat_tests)))
