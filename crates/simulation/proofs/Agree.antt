-- On numbers of their kinds, what the machine does with cells is what the meaning says of values.
use Rattle.std.proofs.Common.{◌≡◌, ℕ, ◌+◌, ◌<◌, Bool, true, false, cond, ltb, List, [], ◌∷◌, length, take, ℤ, pos, negsuc, Some, None, Option, refl, arith}
use Rattle.std.proofs.lemmas.Fmt.{decimal_nonempty}
use Rattle.std.proofs.lemmas.Int.{ints}
use Rattle.table.specs.Shapes.{ConstantFits}
use Rattle.table.specs.declared.shape.Kind.{Kind}
use Rattle.table.specs.declared.shape.Kind.TheVariants.{Int, Byte}
use Rattle.table.specs.declared.shape.Format.{Format}
use Rattle.table.specs.declared.shape.Format.TheVariants.{Integer, Byte as ByteText, Char}
use Rattle.table.specs.declared.shape.Unary.{Unary}
use Rattle.table.specs.declared.shape.Unary.TheVariants.{Plus, Minus, ByteNot, Extend, Shrink}
use Rattle.table.specs.declared.shape.Binary.{Binary}
use Rattle.table.specs.declared.shape.Binary.TheVariants.{Add, Sub, Mul, Div, Rem, ByteAnd, ByteOr}
use Rattle.table.specs.declared.shape.Comparison.{Comparison}
use Rattle.table.specs.declared.shape.Comparison.TheVariants.{Equal, Unequal, Less, Greater, AtMost, AtLeast}
use Rattle.number.specs.Number.{Kind as Numbers, int, byte, folded, holds}
use Rattle.number.specs.Decimal.{decimal}
use Rattle.number.specs.Reading.{numeral, taken, judged, feed_among, reading}
use Rattle.number.specs.declared.text.Reading.{Reading}
use Rattle.number.specs.declared.text.Reading.TheVariants.{Wait, Refused, Took}
use Rattle.number.proofs.Remainders.{folded-within}
use Rattle.language.specs.Measures.{operand_kind, format_kind}
use Rattle.language.specs.Rules.{Operates}
use Rattle.language.specs.Operators.{numbers_of, apply_unary, apply_binary, compares, finds, text_of}
use Rattle.language.specs.Ranges.{IsOf}
use Rattle.language.proofs.Values.{cells, of-constant, of-byte}
use Rattle.machine.specs.Values.{apply_unary as changes, apply_binary as joins, compared_in, compared, is_true, finds as looks, text_of as writes}

stays : (k : Kind) (v : ℤ) → IsOf k v → folded (numbers_of k) v ≡ v
stays k v w = folded-within (numbers_of k) (cells k) v w

wide : (k : Kind) (v : ℤ) → IsOf k v → IsOf Int v
wide Int v w = w
wide Byte v w = of-byte v w

-- a constant is kept as it is
pub constant-kept : (k : Kind) (n : ℕ) → ConstantFits k n → folded int (pos n) ≡ pos n
constant-kept k n h = stays Int (pos n) (wide k (pos n) (of-constant k n h))

pub unary_agrees : (u : Unary) (v : ℤ) → IsOf (operand_kind u) v → changes u v ≡ apply_unary u v
unary_agrees Plus v w = refl
unary_agrees Minus v w = rw (stays Int v w) refl
unary_agrees ByteNot v w = rw (stays Byte v w) refl
unary_agrees Extend v w = rw (stays Byte v w) refl
unary_agrees Shrink v w = refl

pub binary_agrees : (o : Binary) (k : Kind) (x y : ℤ) → Operates o k → IsOf k x → IsOf k y → joins o k x y ≡ apply_binary o k x y
unfolding joins
binary_agrees Add Int x y h a b = rw (stays Int x a, stays Int y b) refl
binary_agrees Add Byte x y h a b = rw (stays Byte x a, stays Byte y b) refl
binary_agrees Sub Int x y h a b = rw (stays Int x a, stays Int y b) refl
binary_agrees Sub Byte x y h a b = rw (stays Byte x a, stays Byte y b) refl
binary_agrees Mul Int x y h a b = rw (stays Int x a, stays Int y b) refl
binary_agrees Mul Byte x y h a b = rw (stays Byte x a, stays Byte y b) refl
binary_agrees Div Int x y h a b = rw (stays Int x a, stays Int y b) refl
binary_agrees Div Byte x y h a b = rw (stays Byte x a, stays Byte y b) refl
binary_agrees Rem Int x y h a b = rw (stays Int x a, stays Int y b) refl
binary_agrees Rem Byte x y h a b = rw (stays Byte x a, stays Byte y b) refl
binary_agrees ByteAnd Int x y h a b = let z : ◌≡◌ {A = ℕ} 0 1 = cc in absurd (omega arith)
binary_agrees ByteAnd Byte x y h a b = rw (stays Byte x a, stays Byte y b) refl
binary_agrees ByteOr Int x y h a b = let z : ◌≡◌ {A = ℕ} 0 1 = cc in absurd (omega arith)
binary_agrees ByteOr Byte x y h a b = rw (stays Byte x a, stays Byte y b) refl

compared_in_lem : (o : Comparison) (n : Numbers) (x y : ℤ) → folded n x ≡ x → folded n y ≡ y → compared_in o n x y ≡ compares o x y
compared_in_lem Equal n x y p q = rw (p, q) refl
compared_in_lem Unequal n x y p q = rw (p, q) refl
compared_in_lem Less n x y p q = rw (p, q) refl
compared_in_lem Greater n x y p q = rw (p, q) refl
compared_in_lem AtMost n x y p q = rw (p, q) refl
compared_in_lem AtLeast n x y p q = rw (p, q) refl

pub compare_agrees : (o : Comparison) (k : Kind) (x y : ℤ) → IsOf k x → IsOf k y → compared o k x y ≡ compares o x y
unfolding compared
compare_agrees o Int x y a b = compared_in_lem o int x y (stays Int x a) (stays Int y b)
compare_agrees o Byte x y a b = compared_in_lem o byte x y (stays Byte x a) (stays Byte y b)

pub truth_agrees : (x : ℤ) → IsOf Byte x → is_true x ≡ holds x
unfolding is_true
truth_agrees x a = rw (stays Byte x a) refl

pub finds_agrees : (q : Format) (ws : List ℕ) → looks q ws ≡ finds q ws
unfolding looks
finds_agrees Integer ws = refl
finds_agrees ByteText ws = refl
finds_agrees Char [] = refl
finds_agrees Char (b ∷ ws) = refl

pub text_agrees : (q : Format) (v : ℤ) → IsOf (format_kind q) v → writes q v ≡ text_of q v
unfolding writes
text_agrees Integer v w = refl
text_agrees ByteText v w = rw (stays Byte v w) refl
text_agrees Char v w = rw (stays Byte v w) refl

-- what is sent is never empty
decimal-there : (v : ℤ) → IsOf Int v → 0 < length (decimal v)
unfolding decimal
decimal-there (pos n) w = let m = w.most in decimal_nonempty n (omega (arith, ints))
decimal-there (negsuc n) w = omega arith

pub text-there : (q : Format) (v : ℤ) → IsOf (format_kind q) v → 0 < length (text_of q v)
text-there Integer v w = decimal-there v w
text-there ByteText v w = decimal-there v (of-byte v w)
text-there Char v w = omega arith

-- nor is what is taken
abbrev pub Takes : Reading → Type 0
Takes Wait = Unit {0}
Takes Refused = Unit {0}
Takes (Took v n) = 0 < n

takes-if : (b : Bool) (v : ℤ) (n : ℕ) → 0 < n → Takes (cond b (Took v n) Refused)
takes-if true v n l = l
takes-if false v n l = tt

takes_none : (b : Bool) → Takes (cond b Wait Refused)
takes_none true = tt
takes_none false = tt

takes-judged : (k : Numbers) (ws : List ℕ) (o : Option ℕ) → Takes (judged k ws o)
unfolding judged taken
takes-judged k ws None = takes_none (ltb (length ws) 8)
takes-judged k ws (Some i) = takes-taken (numeral (take i ws))
  where
    takes-taken : (o : Option ℕ) → Takes (taken k (i + 1) o)
    takes-taken None = tt
    takes-taken (Some v) = takes-if _ (pos v) (i + 1) (omega arith)

takes-reading : (k : Numbers) (ws : List ℕ) → Takes (reading k ws)
unfolding reading
takes-reading k ws = takes-judged k ws (feed_among 8 ws)

pub takes_some : (q : Format) (ws : List ℕ) → Takes (finds q ws)
takes_some Integer ws = takes-reading int ws
takes_some ByteText ws = takes-reading byte ws
takes_some Char [] = tt
takes_some Char (b ∷ ws) = omega arith
