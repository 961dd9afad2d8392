-- What the test of equality tells.
use Rattle.std.proofs.Common.{◌≡◌, true, ℤ, pos, negsuc, arith}
use Rattle.std.proofs.lemmas.Bool.Decides.{nat_tests}
use Rattle.number.specs.Number.{equal}

self : (a : ℤ) → equal a a ≡ true
unfolding equal
self (pos n) = grind (arith, nat_tests)
self (negsuc n) = grind (arith, nat_tests)

pub equal_yes : (a b : ℤ) → a ≡ b → equal a b ≡ true
equal_yes a b e = rw e (self b)
