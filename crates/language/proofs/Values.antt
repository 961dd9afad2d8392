-- What operators, constants and reads give is a number of its kind.
use Rattle.std.proofs.Common.{◌≡◌, ℕ, ◌+◌, ◌<◌, Bool, true, false, cond, ltb, List, [], ◌∷◌, length, take, ℤ, pos, Some, None, Option, refl, arith}
use lib.Signed.{quot_z, rem_z}
use Rattle.std.specs.List.{AllByRecursion}
use Rattle.std.proofs.lemmas.Int.{ints}
use Rattle.table.specs.declared.shape.Kind.{Kind}
use Rattle.table.specs.declared.shape.Kind.TheVariants.{Int, Byte}
use Rattle.table.specs.declared.shape.Format.{Format}
use Rattle.table.specs.declared.shape.Format.TheVariants.{Integer, Byte as ByteText, Char}
use Rattle.table.specs.declared.shape.Unary.{Unary}
use Rattle.table.specs.declared.shape.Unary.TheVariants.{Plus, Minus, ByteNot, Extend, Shrink}
use Rattle.table.specs.declared.shape.Binary.{Binary}
use Rattle.table.specs.declared.shape.Binary.TheVariants.{Add, Sub, Mul, Div, Rem, ByteAnd, ByteOr}
use Rattle.number.specs.Number.{Kind as NumberKind, Within, Cells, folded, in_range, equal, bit, int, byte}
use Rattle.number.specs.Reading.{numeral, taken, judged, feed_among, reading}
use Rattle.number.specs.declared.text.Reading.{Reading}
use Rattle.number.specs.declared.text.Reading.TheVariants.{Wait, Refused, Took}
use Rattle.number.specs.Folding.{every_kind_folds, int_cells, byte_cells}
use Rattle.language.specs.Measures.{operand_kind, unary_kind, format_kind}
use Rattle.table.specs.Shapes.{ConstantFits}
use Rattle.language.specs.Rules.{Operates}
use Rattle.language.specs.Operators.{numbers_of, apply_unary, apply_binary, finds}
use Rattle.language.specs.Ranges.{IsOf}

pub cells : (k : Kind) → Cells (numbers_of k)
cells Int = int_cells
cells Byte = byte_cells

folds : (k : Kind) (n : ℤ) → IsOf k (folded (numbers_of k) n)
folds k n = (every_kind_folds (numbers_of k) (cells k) n).within

pub of-constant : (k : Kind) (n : ℕ) → ConstantFits k n → IsOf k (pos n)
of-constant Int n l = record { least = omega (arith, ints); most = omega (arith, ints) }
of-constant Byte n l = record { least = omega (arith, ints); most = omega (arith, ints) }

pub of_zero : (k : Kind) → IsOf k (pos 0)
of_zero Int = of-constant Int 0 (omega arith)
of_zero Byte = of-constant Byte 0 (omega arith)

of-bit : (b : Bool) → IsOf Byte (bit b)
of-bit true = of-constant Byte 1 (omega arith)
of-bit false = of-constant Byte 0 (omega arith)

pub of-byte : (v : ℤ) → IsOf Byte v → IsOf Int v
of-byte v w = let l = w.least in let m = w.most in record { least = omega (arith, ints); most = omega (arith, ints) }

pub of-unary : (u : Unary) (v : ℤ) → IsOf (operand_kind u) v → IsOf (unary_kind u) (apply_unary u v)
of-unary Plus v w = w
of-unary Minus v w = folds Int _
of-unary ByteNot v w = of-bit _
of-unary Extend v w = of-byte v w
of-unary Shrink v w = folds Byte _

-- a value, if there is one
abbrev pub IfOf : Kind → Option ℤ → Type 0
IfOf k None = Unit {0}
IfOf k (Some v) = IsOf k v

unless : (k : Kind) (b : Bool) (n : ℤ) → IfOf k (cond b None (Some (folded (numbers_of k) n)))
unless k true n = tt
unless k false n = folds k n

pub of-binary : (o : Binary) (k : Kind) (a b : ℤ) → Operates o k → IfOf k (apply_binary o k a b)
of-binary Add k a b h = folds k _
of-binary Sub k a b h = folds k _
of-binary Mul k a b h = folds k _
of-binary Div k a b h = unless k (equal b (pos 0)) (quot_z a b)
of-binary Rem k a b h = unless k (equal b (pos 0)) (rem_z a b)
of-binary ByteAnd k a b h = rw h (of-bit _)
of-binary ByteOr k a b h = rw h (of-bit _)

-- a value, if the reading has one
abbrev pub ReadOf : NumberKind → Reading → Type 0
ReadOf k Wait = Unit {0}
ReadOf k Refused = Unit {0}
ReadOf k (Took v count) = Within k v

in_range_lem : (k : NumberKind) (n : ℤ) → in_range k n ≡ true → Within k n
unfolding in_range
in_range_lem k n e = record { least = grind (arith, ints); most = grind (arith, ints) }

tested : (k : NumberKind) (b : Bool) (v : ℤ) (count : ℕ) → (b ≡ true → Within k v) → ReadOf k (cond b (Took v count) Refused)
tested k true v count w = w refl
tested k false v count w = tt

of-taken : (k : NumberKind) (count : ℕ) (o : Option ℕ) → ReadOf k (taken k count o)
unfolding taken
of-taken k count None = tt
of-taken k count (Some v) = tested k (in_range k (pos v)) (pos v) count (in_range_lem k (pos v))

of-judged : (k : NumberKind) (bytes : List ℕ) (o : Option ℕ) → ReadOf k (judged k bytes o)
unfolding judged
of-judged k bytes None = quiet (ltb (length bytes) 8)
  where
    quiet : (b : Bool) → ReadOf k (cond b Wait Refused)
    quiet true = tt
    quiet false = tt
of-judged k bytes (Some i) = of-taken k (i + 1) (numeral (take i bytes))

of-reading : (k : NumberKind) (bytes : List ℕ) → ReadOf k (reading k bytes)
unfolding reading
of-reading k bytes = of-judged k bytes (feed_among 8 bytes)

pub of-read : (q : Format) (bytes : List ℕ) → AllByRecursion (λ b. b < 256) bytes → ReadOf (numbers_of (format_kind q)) (finds q bytes)
of-read Integer bytes l = of-reading int bytes
of-read ByteText bytes l = of-reading byte bytes
of-read Char [] l = tt
of-read Char (b ∷ bytes) l = of-constant Byte b l.0
