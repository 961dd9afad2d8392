-- The fields of a word, most significant first: op (8 bits), aux (8), node (16), operand (32).
use Rattle.std.specs.Prelude.{ℕ, ◌+◌, ◌*◌, ◌/◌, ◌%◌}

abbrev pub op_of : ℕ → ℕ
op_of w = w / 72057594037927936

abbrev pub aux_of : ℕ → ℕ
aux_of w = w / 281474976710656 % 256

abbrev pub node_of : ℕ → ℕ
node_of w = w / 4294967296 % 65536

abbrev pub operand_of : ℕ → ℕ
operand_of w = w % 4294967296

-- the word with these fields
abbrev pub packed : ℕ → ℕ → ℕ → ℕ → ℕ
packed op aux node operand = op * 72057594037927936 + aux * 281474976710656 + node * 4294967296 + operand
