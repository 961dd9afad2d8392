-- What a read finds stays found when more bytes come, and the bytes that it takes are there.
use Rattle.std.proofs.Common.{◌≡◌, ℕ, ◌+◌, ◌≤◌, Bool, true, false, cond, ltb, ◌⊎◌, List, [], ◌∷◌, ◌++◌, length, take, pos, Some, None, Option, refl, inl, inr, arith}
use Rattle.table.specs.declared.shape.Format.{Format}
use Rattle.table.specs.declared.shape.Format.TheVariants.{Integer, Byte as ByteText, Char}
use Rattle.number.specs.Number.{Kind, int, byte, in_range}
use Rattle.number.specs.Reading.{numeral, taken, judged, reading}
use Rattle.number.specs.declared.text.Reading.{Reading}
use Rattle.number.specs.declared.text.Reading.TheVariants.{Wait, Refused, Took}
use Rattle.number.proofs.Feeds.{Told, found, missing, tells-feed}
use Rattle.number.proofs.Readings.{settled}
use Rattle.language.specs.Operators.{finds}

-- A reading takes no more than n bytes.
abbrev pub AtMost : ℕ → Reading → Type 0
AtMost n Wait = Unit {0}
AtMost n Refused = Unit {0}
AtMost n (Took v count) = count ≤ n

either : (n : ℕ) (b : Bool) (x y : Reading) → AtMost n x → AtMost n y → AtMost n (cond b x y)
either n true x y p q = p
either n false x y p q = q

taken-inside : (k : Kind) (n m : ℕ) (o : Option ℕ) → m ≤ n → AtMost n (taken k m o)
unfolding taken
taken-inside k n m None l = tt
taken-inside k n m (Some v) l = either n (in_range k (pos v)) (Took (pos v) m) Refused l tt

inside : (k : Kind) (bytes : List ℕ) → Told 8 bytes → AtMost (length bytes) (reading k bytes)
unfolding reading judged
inside k bytes (inl f) =
    let l = f.1.inside in
    rw (found 8 bytes f.0 f.1) (taken-inside k (length bytes) (f.0 + 1) (numeral (take f.0 bytes)) (omega arith))
inside k bytes (inr a) = rw (missing 8 bytes a) (either (length bytes) (ltb (length bytes) 8) Wait Refused tt tt)

abbrev pub Stays : List ℕ → Reading → Reading → Type 0
Stays bytes before after = (before ≡ Wait) ⊎ ((after ≡ before) × AtMost (length bytes) before)

line_stays : (k : Kind) (bytes more : List ℕ) → Stays bytes (reading k bytes) (reading k (bytes ++ more))
line_stays k bytes more = go (reading k bytes) refl
  where
    stays : (reading k bytes ≡ Wait → ⊥) → Stays bytes (reading k bytes) (reading k (bytes ++ more))
    stays h = inr (settled k bytes (reading k bytes) refl more h, inside k bytes (tells-feed 8 bytes))

    go : (r : Reading) → reading k bytes ≡ r → Stays bytes (reading k bytes) (reading k (bytes ++ more))
    go Wait e = inl e
    go Refused e = stays (λ w. let z : ◌≡◌ {A = ℕ} 0 1 = cc in omega arith)
    go (Took v count) e = stays (λ w. let z : ◌≡◌ {A = ℕ} 0 1 = cc in omega arith)

pub finds-stays : (q : Format) (bytes more : List ℕ) → Stays bytes (finds q bytes) (finds q (bytes ++ more))
finds-stays Integer bytes more = line_stays int bytes more
finds-stays ByteText bytes more = line_stays byte bytes more
finds-stays Char [] more = inl refl
finds-stays Char (b ∷ bytes) more = inr (refl, omega arith)
