-- A word and its four fields determine each other.
use Rattle.std.proofs.Common.{◌≡◌, ℕ, ◌<◌, arith}
use Rattle.code.specs.Fields.{op_of, aux_of, node_of, operand_of, packed}

pub repacked : (w : ℕ) → packed (op_of w) (aux_of w) (node_of w) (operand_of w) ≡ w
repacked w = omega arith

module _ (op aux p operand : ℕ) (a : aux < 256) (n : p < 65536) (o : operand < 4294967296) where
  pub op_back : op_of (packed op aux p operand) ≡ op
  op_back = omega arith

  pub aux_back : aux_of (packed op aux p operand) ≡ aux
  aux_back = omega arith

  pub node_back : node_of (packed op aux p operand) ≡ p
  node_back = omega arith

  pub operand_back : operand_of (packed op aux p operand) ≡ operand
  operand_back = omega arith
