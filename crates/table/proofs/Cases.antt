-- What an answer came from, by cases.
use Rattle.std.proofs.Common.{◌≡◌, Bool, true, false, cond, Some, None, Option, refl, arith}
use Rattle.table.specs.Flow.{mapped}

-- a choice between two answers, by cases
pub either : {A B : Type 0} (b : Bool) (x y : Option A) (z : A) →
    (b ≡ true → x ≡ Some z → B) → (b ≡ false → y ≡ Some z → B) → cond b x y ≡ Some z → B
either true x y z f g h = f refl h
either false x y z f g h = g refl h

-- an answer that was changed
pub unmapped : {A B C : Type 0} (f : A → B) (x : Option A) (z : B) → ((y : A) → x ≡ Some y → f y ≡ z → C) → mapped f x ≡ Some z → C
unmapped f None z g h = absurd (grind arith)
unmapped f (Some y) z g h = g y refl (grind arith)
