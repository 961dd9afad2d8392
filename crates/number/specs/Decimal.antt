-- How a number is written.
use Rattle.std.specs.Prelude.{ℕ, List, ℤ}
use Rattle.std.specs.Fmt.{signed_decimal}

-- Decimal digits without leading zeros, a minus sign (2D) before a negative number.
unfoldable pub decimal : ℤ → List ℕ
decimal n = signed_decimal n
