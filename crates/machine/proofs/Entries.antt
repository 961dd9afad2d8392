-- Entry words as the machine reads them.
use Rattle.std.proofs.Common.{◌≡◌, ℕ, ◌<◌, ◌≤◌, true, false, eqb, ltb, List, length, get_or, Some, None, Option, sym, refl, ap, ◌∙◌, arith}
use Rattle.std.proofs.lemmas.Bool.Decides.{nat_tests}
use Rattle.code.specs.declared.instruction.Entry.{Entry}
use Rattle.code.specs.Entries.{entry_of}
use Rattle.machine.specs.States.{entry_at, has_result, plain_entry, main_entry}

pub entry-out : (code : List ℕ) (f : ℕ) → length code ≤ f → None ≡ entry_at code f
unfolding entry_at
entry-out code f h = let e : ltb f (length code) ≡ false = grind (arith, nat_tests) in rw e refl

pub entry_in : (code : List ℕ) (f : ℕ) (r : Option Entry) → f < length code → r ≡ entry_of (get_or code f 0) → r ≡ entry_at code f
unfolding entry_at
entry_in code f r h k = let e : ltb f (length code) ≡ true = grind (arith, nat_tests) in rw e k

pub main-plain : (code : List ℕ) (e : Entry) → Some e ≡ entry_at code 0 → false ≡ has_result e.result → e.parameters ≡ 0 → Some e ≡ main_entry code
unfolding main_entry
main-plain code e h g k =
    let z : eqb e.parameters 0 ≡ true = grind (arith, nat_tests) in
    let t : plain_entry (Some e) ≡ Some e = rw (← g, z) refl in sym t ∙ ap plain_entry h
