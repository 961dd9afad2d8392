-- What a read finds: the first eight bytes decide, and it takes no more than waits.
use Rattle.std.proofs.Common.{◌≡◌, ℕ, ◌+◌, ◌≤◌, Bool, true, false, cond, ltb, List, [], ◌∷◌, ◌++◌, length, take, ℤ, pos, Some, None, Option, sym, refl, ap, ◌∙◌, inl, inr, arith}
use Rattle.table.specs.declared.shape.Format.{Format}
use Rattle.table.specs.declared.shape.Format.TheVariants.{Integer, Byte as ByteText, Char}
use Rattle.number.specs.Number.{Kind, int, byte, in_range}
use Rattle.number.specs.Reading.{reading, judged, taken, numeral}
use Rattle.number.specs.declared.text.Reading.{Reading}
use Rattle.number.specs.declared.text.Reading.TheVariants.{Wait, Refused, Took}
use Rattle.number.proofs.Feeds.{Told, found, missing, tells-feed}
use Rattle.number.proofs.Readings.{eight, settled}
use Rattle.machine.specs.Values.{finds}

pub finds-eight : (q : Format) (bytes : List ℕ) → finds q (take 8 bytes) ≡ finds q bytes
unfolding finds
finds-eight Integer bytes = sym (eight int bytes (reading int bytes) refl)
finds-eight ByteText bytes = sym (eight byte bytes (reading byte bytes) refl)
finds-eight Char [] = refl
finds-eight Char (b ∷ bytes) = refl

pub found_there : (q : Format) (r : Reading) (bytes waiting : List ℕ) → r ≡ finds q bytes → bytes ≡ take 8 waiting → r ≡ finds q waiting
found_there q r bytes waiting e f = e ∙ (ap (finds q) f ∙ finds-eight q waiting)

by_bool : (b : Bool) (v : ℤ) (n : ℕ) (x y : Reading) {B : Type 0} → (Took v n ≡ x → B) → (Took v n ≡ y → B) → Took v n ≡ cond b x y → B
by_bool true v n x y f g h = f h
by_bool false v n x y f g h = g h

not_wait : {B : Type 0} (v : ℤ) (n : ℕ) → Took v n ≡ Wait → B
not_wait v n h = let z : ◌≡◌ {A = ℕ} 0 1 = cc in let y : ⊥ = omega arith in absurd y

not_refused : {B : Type 0} (v : ℤ) (n : ℕ) → Took v n ≡ Refused → B
not_refused v n h = let z : ◌≡◌ {A = ℕ} 0 1 = cc in let y : ⊥ = omega arith in absurd y

taken-count : (k : Kind) (m : ℕ) (o : Option ℕ) (v : ℤ) (n : ℕ) → Took v n ≡ taken k m o → n ≡ m
unfolding taken
taken-count k m None v n h = not_refused v n h
taken-count k m (Some u) v n h = by_bool (in_range k (pos u)) v n (Took (pos u) m) Refused (λ e. cc) (not_refused v n) h

reading-inside : (k : Kind) (bytes : List ℕ) (v : ℤ) (n : ℕ) → Took v n ≡ reading k bytes → n ≤ length bytes
unfolding reading judged
reading-inside k bytes v n h = by (tells-feed 8 bytes)
  where
    by : Told 8 bytes → n ≤ length bytes
    by (inl f) =
        let e = found 8 bytes f.0 f.1 in
        let t = taken-count k (f.0 + 1) (numeral (take f.0 bytes)) v n (h ∙ ap (judged k bytes) e) in
        let i = f.1.inside in omega arith
    by (inr f) = by_bool (ltb (length bytes) 8) v n Wait Refused (not_wait v n) (not_refused v n) (h ∙ ap (judged k bytes) (missing 8 bytes f))

pub found_inside : (q : Format) (bytes : List ℕ) (v : ℤ) (n : ℕ) → Took v n ≡ finds q bytes → n ≤ length bytes
unfolding finds
found_inside Integer bytes v n h = reading-inside int bytes v n h
found_inside ByteText bytes v n h = reading-inside byte bytes v n h
found_inside Char [] v n h = not_wait v n h
found_inside Char (b ∷ bytes) v n h = let e : n ≡ 1 = cc in omega arith

-- more bytes behind change nothing but a wait
pub finds_more : (q : Format) (bytes more : List ℕ) → (finds q bytes ≡ Wait → ⊥) → finds q (bytes ++ more) ≡ finds q bytes
unfolding finds
finds_more Integer bytes more h = settled int bytes (reading int bytes) refl more h
finds_more ByteText bytes more h = settled byte bytes (reading byte bytes) refl more h
finds_more Char [] more h = absurd (h refl)
finds_more Char (b ∷ bytes) more h = refl
