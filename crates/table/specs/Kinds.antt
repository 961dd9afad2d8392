-- What goes by a number kind.
use Rattle.std.specs.Prelude.{ℕ, Bool, true, false}
use Rattle.table.specs.declared.shape.Kind.{Kind}
use Rattle.table.specs.declared.shape.Kind.TheVariants.{Int, Byte}
use Rattle.table.specs.declared.shape.Binary.{Binary}
use Rattle.table.specs.declared.shape.Binary.TheVariants.{Add, Sub, Mul, Div, Rem, ByteAnd, ByteOr}

-- how many constants there are of a kind: the numbers below
abbrev pub constant_count : Kind → ℕ
constant_count Int = 32768
constant_count Byte = 256

-- whether an operator takes operands of a kind: arithmetic either, `&` and the or-sign bytes
abbrev pub operates : Binary → Kind → Bool
operates ByteAnd Int = false
operates ByteOr Int = false
operates ByteAnd Byte = true
operates ByteOr Byte = true
operates Add k = true
operates Sub k = true
operates Mul k = true
operates Div k = true
operates Rem k = true
