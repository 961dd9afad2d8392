-- What the operators give, what a read finds, and what a write sends.
use Rattle.std.specs.Prelude.{ℕ, Bool, List, [], ◌∷◌, ℤ, pos, Some, Option, unsigned_abs}
use Rattle.table.specs.declared.shape.Kind.{Kind}
use Rattle.table.specs.declared.shape.Kind.TheVariants.{Int, Byte}
use Rattle.table.specs.declared.shape.Format.{Format}
use Rattle.table.specs.declared.shape.Format.TheVariants.{Integer, Byte as ByteText, Char}
use Rattle.table.specs.declared.shape.Unary.{Unary}
use Rattle.table.specs.declared.shape.Unary.TheVariants.{Plus, Minus, ByteNot, Extend, Shrink}
use Rattle.table.specs.declared.shape.Binary.{Binary}
use Rattle.table.specs.declared.shape.Binary.TheVariants.{Add, Sub, Mul, Div, Rem, ByteAnd, ByteOr}
use Rattle.table.specs.declared.shape.Comparison.{Comparison}
use Rattle.table.specs.declared.shape.Comparison.TheVariants.{Equal, Unequal, Less, Greater, AtMost, AtLeast}
use Rattle.number.specs.Number.{Kind as NumberKind, int, byte, sum, difference, product, negation, quotient, remainder, equal, unequal, less, greater, at_most, at_least, conjunction, disjunction, inversion, extended, shrunk}
use Rattle.number.specs.Reading.{reading}
use Rattle.number.specs.Decimal.{decimal}
use Rattle.number.specs.declared.text.Reading.{Reading}
use Rattle.number.specs.declared.text.Reading.TheVariants.{Wait, Took}

-- The numbers of a kind: int from -32768 to 32767, byte from 0 to 255.
abbrev pub numbers_of : Kind → NumberKind
numbers_of Int = int
numbers_of Byte = byte

-- The plus sign and extend change nothing of the value. The minus sign is an int's, `!` a byte's.
abbrev pub apply_unary : Unary → ℤ → ℤ
apply_unary Plus a = a
apply_unary Minus a = negation int a
apply_unary ByteNot a = inversion a
apply_unary Extend a = extended a
apply_unary Shrink a = shrunk a

-- Nothing at a zero divisor.
abbrev pub apply_binary : Binary → Kind → ℤ → ℤ → Option ℤ
apply_binary Add k a b = Some (sum (numbers_of k) a b)
apply_binary Sub k a b = Some (difference (numbers_of k) a b)
apply_binary Mul k a b = Some (product (numbers_of k) a b)
apply_binary Div k a b = quotient (numbers_of k) a b
apply_binary Rem k a b = remainder (numbers_of k) a b
apply_binary ByteAnd k a b = Some (conjunction a b)
apply_binary ByteOr k a b = Some (disjunction a b)

abbrev pub compares : Comparison → ℤ → ℤ → Bool
compares Equal a b = equal a b
compares Unequal a b = unequal a b
compares Less a b = less a b
compares Greater a b = greater a b
compares AtMost a b = at_most a b
compares AtLeast a b = at_least a b

-- What a read finds among the waiting bytes: the number of a line of text, or for char the first byte as it is.
abbrev pub first_byte : List ℕ → Reading
first_byte [] = Wait
first_byte (b ∷ bytes) = Took (pos b) 1

abbrev pub finds : Format → List ℕ → Reading
finds Integer bytes = reading int bytes
finds ByteText bytes = reading byte bytes
finds Char bytes = first_byte bytes

-- What a write sends: decimal text, or for char the one byte. (A byte is never negative.)
abbrev pub text_of : Format → ℤ → List ℕ
text_of Integer v = decimal v
text_of ByteText v = decimal v
text_of Char v = unsigned_abs v ∷ []
