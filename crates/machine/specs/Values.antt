-- What is done with the numbers in cells. Each operation first folds its operands into the kind that it works in.
use Rattle.std.specs.Prelude.{ℕ, Bool, List, [], ◌∷◌, ℤ, pos, Some, Option, unsigned_abs}
use Rattle.table.specs.declared.shape.Kind.{Kind}
use Rattle.table.specs.declared.shape.Kind.TheVariants.{Int, Byte}
use Rattle.table.specs.declared.shape.Format.{Format}
use Rattle.table.specs.declared.shape.Format.TheVariants.{Integer, Byte as ByteText, Char}
use Rattle.table.specs.declared.shape.Unary.{Unary}
use Rattle.table.specs.declared.shape.Unary.TheVariants.{Plus, Minus, ByteNot, Extend, Shrink}
use Rattle.table.specs.declared.shape.Binary.{Binary}
use Rattle.table.specs.declared.shape.Binary.TheVariants.{Add, Sub, Mul, Div, Rem, ByteAnd, ByteOr}
use Rattle.table.specs.declared.shape.Comparison.{Comparison}
use Rattle.table.specs.declared.shape.Comparison.TheVariants.{Equal, Unequal, Less, Greater, AtMost, AtLeast}
use Rattle.number.specs.Number.{Kind as Numbers, int, byte, folded, sum, difference, product, negation, quotient, remainder, equal, unequal, less, greater, at_most, at_least, holds, conjunction, disjunction, inversion, extended, shrunk}
use Rattle.number.specs.Reading.{reading}
use Rattle.number.specs.Decimal.{decimal}
use Rattle.number.specs.declared.text.Reading.{Reading}
use Rattle.number.specs.declared.text.Reading.TheVariants.{Wait, Took}

abbrev pub numbers_of : Kind → Numbers
numbers_of Int = int
numbers_of Byte = byte

abbrev pub apply_unary : Unary → ℤ → ℤ
apply_unary Plus x = x
apply_unary Minus x = negation int (folded int x)
apply_unary ByteNot x = inversion (folded byte x)
apply_unary Extend x = extended (folded byte x)
apply_unary Shrink x = shrunk x

-- Nothing at a zero divisor.
abbrev pub binary_in : Binary → Numbers → ℤ → ℤ → Option ℤ
binary_in Add k x y = Some (sum k (folded k x) (folded k y))
binary_in Sub k x y = Some (difference k (folded k x) (folded k y))
binary_in Mul k x y = Some (product k (folded k x) (folded k y))
binary_in Div k x y = quotient k (folded k x) (folded k y)
binary_in Rem k x y = remainder k (folded k x) (folded k y)
binary_in ByteAnd k x y = Some (conjunction (folded byte x) (folded byte y))
binary_in ByteOr k x y = Some (disjunction (folded byte x) (folded byte y))

unfoldable pub apply_binary : Binary → Kind → ℤ → ℤ → Option ℤ
apply_binary o k x y = binary_in o (numbers_of k) x y

abbrev pub compared_in : Comparison → Numbers → ℤ → ℤ → Bool
compared_in Equal k x y = equal (folded k x) (folded k y)
compared_in Unequal k x y = unequal (folded k x) (folded k y)
compared_in Less k x y = less (folded k x) (folded k y)
compared_in Greater k x y = greater (folded k x) (folded k y)
compared_in AtMost k x y = at_most (folded k x) (folded k y)
compared_in AtLeast k x y = at_least (folded k x) (folded k y)

unfoldable pub compared : Comparison → Kind → ℤ → ℤ → Bool
compared o k x y = compared_in o (numbers_of k) x y

-- whether a cell holds as a condition
unfoldable pub is_true : ℤ → Bool
is_true x = holds (folded byte x)

-- What a read finds among the waiting bytes: the number of a line of text, or for char the first byte as it is.
abbrev pub first_byte : List ℕ → Reading
first_byte [] = Wait
first_byte (b ∷ bytes) = Took (pos b) 1

unfoldable pub finds : Format → List ℕ → Reading
finds Integer bytes = reading int bytes
finds ByteText bytes = reading byte bytes
finds Char bytes = first_byte bytes

-- What a write sends: decimal text, or for char the one byte.
unfoldable pub text_of : Format → ℤ → List ℕ
text_of Integer x = decimal x
text_of ByteText x = decimal (folded byte x)
text_of Char x = unsigned_abs (folded byte x) ∷ []
