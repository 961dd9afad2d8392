-- The numbers that stand for kinds, scopes, formats, operators, comparisons and junctions.
use Rattle.std.specs.Prelude.{ℕ, cond, Some, None, Option, Result, ◌==◌}
use Rattle.std.specs.Option.{ok_or}
use Rattle.table.specs.declared.number.Unlisted.{Unlisted}
use Rattle.table.specs.declared.shape.Kind.{Kind}
use Rattle.table.specs.declared.shape.Kind.TheVariants.{Int, Byte}
use Rattle.table.specs.declared.shape.Scope.{Scope}
use Rattle.table.specs.declared.shape.Scope.TheVariants.{Own, Main}
use Rattle.table.specs.declared.shape.Format.{Format}
use Rattle.table.specs.declared.shape.Format.TheVariants.{Integer, Byte as ByteText, Char}
use Rattle.table.specs.declared.shape.Unary.{Unary}
use Rattle.table.specs.declared.shape.Unary.TheVariants.{Plus, Minus, ByteNot, Extend, Shrink}
use Rattle.table.specs.declared.shape.Binary.{Binary}
use Rattle.table.specs.declared.shape.Binary.TheVariants.{Add, Sub, Mul, Div, Rem, ByteAnd, ByteOr}
use Rattle.table.specs.declared.shape.Comparison.{Comparison}
use Rattle.table.specs.declared.shape.Comparison.TheVariants.{Equal, Unequal, Less, Greater, AtMost, AtLeast}
use Rattle.table.specs.declared.shape.Junction.{Junction}
use Rattle.table.specs.declared.shape.Junction.TheVariants.{And, Or}

-- The number of each.
abbrev pub kind_number : Kind → ℕ
kind_number Int = 0
kind_number Byte = 1

abbrev pub scope_number : Scope → ℕ
scope_number Own = 0
scope_number Main = 1

abbrev pub format_number : Format → ℕ
format_number Integer = 0
format_number ByteText = 1
format_number Char = 2

abbrev pub unary_number : Unary → ℕ
unary_number Plus = 3
unary_number Minus = 4
unary_number ByteNot = 5
unary_number Extend = 14
unary_number Shrink = 15

abbrev pub binary_number : Binary → ℕ
binary_number Add = 6
binary_number Sub = 7
binary_number Mul = 8
binary_number Div = 9
binary_number Rem = 10
binary_number ByteAnd = 11
binary_number ByteOr = 12

abbrev pub comparison_number : Comparison → ℕ
comparison_number Equal = 20
comparison_number Unequal = 21
comparison_number Less = 22
comparison_number Greater = 23
comparison_number AtMost = 24
comparison_number AtLeast = 25

abbrev pub junction_number : Junction → ℕ
junction_number And = 27
junction_number Or = 28

abbrev pub result_number : Option Kind → ℕ
result_number None = 0
result_number (Some Int) = 1
result_number (Some Byte) = 2

-- What a number stands for, if it stands for one of them.
abbrev pub kind_of : ℕ → Option Kind
kind_of n = cond (n == 0) (Some Int) (cond (n == 1) (Some Byte) None)

abbrev pub scope_of : ℕ → Option Scope
scope_of n = cond (n == 0) (Some Own) (cond (n == 1) (Some Main) None)

abbrev pub format_of : ℕ → Option Format
format_of n = cond (n == 0) (Some Integer) (cond (n == 1) (Some ByteText) (cond (n == 2) (Some Char) None))

abbrev pub unary_of : ℕ → Option Unary
unary_of n =
    cond (n == 3) (Some Plus)
    (cond (n == 4) (Some Minus)
    (cond (n == 5) (Some ByteNot)
    (cond (n == 14) (Some Extend)
    (cond (n == 15) (Some Shrink) None))))

abbrev pub binary_of : ℕ → Option Binary
binary_of n =
    cond (n == 6) (Some Add)
    (cond (n == 7) (Some Sub)
    (cond (n == 8) (Some Mul)
    (cond (n == 9) (Some Div)
    (cond (n == 10) (Some Rem)
    (cond (n == 11) (Some ByteAnd)
    (cond (n == 12) (Some ByteOr) None))))))

abbrev pub comparison_of : ℕ → Option Comparison
comparison_of n =
    cond (n == 20) (Some Equal)
    (cond (n == 21) (Some Unequal)
    (cond (n == 22) (Some Less)
    (cond (n == 23) (Some Greater)
    (cond (n == 24) (Some AtMost)
    (cond (n == 25) (Some AtLeast) None)))))

abbrev pub junction_of : ℕ → Option Junction
junction_of n = cond (n == 27) (Some And) (cond (n == 28) (Some Or) None)

-- 0 for none, 1 for int, 2 for byte
abbrev pub result_of : ℕ → Option (Option Kind)
result_of r = cond (r == 0) (Some None) (cond (r == 1) (Some (Some Int)) (cond (r == 2) (Some (Some Byte)) None))

-- the same as an answer of a conversion
abbrev pub listed : {A : Type 0} → Option A → Result A Unlisted
listed found = ok_or found (record {})
