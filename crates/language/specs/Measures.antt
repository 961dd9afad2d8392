-- The kind of an expression, and the levels, the height and the words of a tree.
use Rattle.std.specs.Prelude.{ℕ, suc, ◌+◌, max, [], ◌∷◌, length}
use Rattle.table.specs.declared.shape.Kind.{Kind}
use Rattle.table.specs.declared.shape.Kind.TheVariants.{Int, Byte}
use Rattle.table.specs.declared.shape.Format.{Format}
use Rattle.table.specs.declared.shape.Format.TheVariants.{Integer, Byte as ByteText, Char}
use Rattle.table.specs.declared.shape.Unary.{Unary}
use Rattle.table.specs.declared.shape.Unary.TheVariants.{Plus, Minus, ByteNot, Extend, Shrink}
use Rattle.language.specs.Tree.{Expr, Args, Cond, Stmt, Block, Stmts, Program, constant, variable, unary, binary, call, read, none, more, compare, negate, join, holds, skip, assign, perform, if, if_else, loop, break, continue, exit, return, write, block, done, next}

-- what a read of each format gives, and a write of it takes
abbrev pub format_kind : Format → Kind
format_kind Integer = Int
format_kind ByteText = Byte
format_kind Char = Byte

abbrev pub operand_kind : Unary → Kind
operand_kind Plus = Int
operand_kind Minus = Int
operand_kind ByteNot = Byte
operand_kind Extend = Byte
operand_kind Shrink = Int

abbrev pub unary_kind : Unary → Kind
unary_kind Plus = Int
unary_kind Minus = Int
unary_kind ByteNot = Byte
unary_kind Extend = Int
unary_kind Shrink = Byte

abbrev pub kind_of : Expr → Kind
kind_of (constant p k n) = k
kind_of (variable p s x k) = k
kind_of (unary p u a) = unary_kind u
kind_of (binary p b k a c) = k
kind_of (call p f k xs) = k
kind_of (read p q) = format_kind q

-- Levels of nesting: a child is one level below its parent.
abbrev mutual
  pub levels_e : Expr → ℕ
  levels_e (constant p k n) = 1
  levels_e (variable p s x k) = 1
  levels_e (unary p u a) = suc (levels_e a)
  levels_e (binary p b k a c) = suc (max (levels_e a) (levels_e c))
  levels_e (call p f k xs) = suc (levels_a xs)
  levels_e (read p q) = 1

  pub levels_a : Args → ℕ
  levels_a none = 0
  levels_a (more a xs) = max (levels_e a) (levels_a xs)

abbrev pub levels_c : Cond → ℕ
levels_c (compare p c k a b) = suc (max (levels_e a) (levels_e b))
levels_c (negate p c) = suc (levels_c c)
levels_c (join p j c d) = suc (max (levels_c c) (levels_c d))
levels_c (holds p a) = suc (levels_e a)

abbrev mutual
  pub levels_s : Stmt → ℕ
  levels_s (skip p) = 1
  levels_s (assign p s x k a) = suc (levels_e a)
  levels_s (perform p f xs) = suc (levels_a xs)
  levels_s (if p c b) = suc (max (levels_c c) (levels_b b))
  levels_s (if_else p c b d) = suc (max (levels_c c) (max (levels_b b) (levels_b d)))
  levels_s (loop p m b) = suc (levels_b b)
  levels_s (break p m) = 1
  levels_s (continue p m) = 1
  levels_s (exit p) = 1
  levels_s (return p a) = suc (levels_e a)
  levels_s (write p q a) = suc (levels_e a)

  pub levels_b : Block → ℕ
  levels_b (block p ss) = suc (levels_ss ss)

  pub levels_ss : Stmts → ℕ
  levels_ss done = 0
  levels_ss (next s ss) = max (levels_s s) (levels_ss ss)

-- Height: the cells that hold operands while the tree is worked out. A right operand finds the left one below it,
-- and argument i finds i arguments below it.
abbrev mutual
  pub height_e : Expr → ℕ
  height_e (constant p k n) = 1
  height_e (variable p s x k) = 1
  height_e (unary p u a) = height_e a
  height_e (binary p b k a c) = max (height_e a) (1 + height_e c)
  height_e (call p f k xs) = max 1 (height_a 0 xs)
  height_e (read p q) = 1

  pub height_a : ℕ → Args → ℕ
  height_a i none = 0
  height_a i (more a xs) = max (i + height_e a) (height_a (i + 1) xs)

abbrev pub height_c : Cond → ℕ
height_c (compare p c k a b) = max (height_e a) (1 + height_e b)
height_c (negate p c) = height_c c
height_c (join p j c d) = max (height_c c) (height_c d)
height_c (holds p a) = height_e a

abbrev mutual
  pub height_s : Stmt → ℕ
  height_s (skip p) = 0
  height_s (assign p s x k a) = height_e a
  height_s (perform p f xs) = height_a 0 xs
  height_s (if p c b) = max (height_c c) (height_b b)
  height_s (if_else p c b d) = max (height_c c) (max (height_b b) (height_b d))
  height_s (loop p m b) = height_b b
  height_s (break p m) = 0
  height_s (continue p m) = 0
  height_s (exit p) = 0
  height_s (return p a) = height_e a
  height_s (write p q a) = height_e a

  pub height_b : Block → ℕ
  height_b (block p ss) = height_ss ss

  pub height_ss : Stmts → ℕ
  height_ss done = 0
  height_ss (next s ss) = max (height_s s) (height_ss ss)

-- Words of stack code: one for each node, but none for a plus sign, extend, not, and, or, skip, block and an if
-- without else.
abbrev pub unary_words : Unary → ℕ
unary_words Plus = 0
unary_words Minus = 1
unary_words ByteNot = 1
unary_words Extend = 0
unary_words Shrink = 1

abbrev mutual
  pub words_e : Expr → ℕ
  words_e (constant p k n) = 1
  words_e (variable p s x k) = 1
  words_e (unary p u a) = words_e a + unary_words u
  words_e (binary p b k a c) = words_e a + words_e c + 1
  words_e (call p f k xs) = words_a xs + 1
  words_e (read p q) = 1

  pub words_a : Args → ℕ
  words_a none = 0
  words_a (more a xs) = words_e a + words_a xs

abbrev pub words_c : Cond → ℕ
words_c (compare p c k a b) = words_e a + words_e b + 1
words_c (negate p c) = words_c c
words_c (join p j c d) = words_c c + words_c d
words_c (holds p a) = words_e a + 1

abbrev mutual
  pub words_s : Stmt → ℕ
  words_s (skip p) = 0
  words_s (assign p s x k a) = words_e a + 1
  words_s (perform p f xs) = words_a xs + 1
  words_s (if p c b) = words_c c + words_b b
  words_s (if_else p c b d) = words_c c + words_b b + words_b d + 1
  words_s (loop p m b) = words_b b + 1
  words_s (break p m) = 1
  words_s (continue p m) = 1
  words_s (exit p) = 1
  words_s (return p a) = words_e a + 1
  words_s (write p q a) = words_e a + 1

  pub words_b : Block → ℕ
  words_b (block p ss) = words_ss ss

  pub words_ss : Stmts → ℕ
  words_ss done = 0
  words_ss (next s ss) = words_s s + words_ss ss

-- a whole program: an entry word for each function, and behind each body a closing word
abbrev pub words_bodies : Program → ℕ
words_bodies [] = 0
words_bodies (f ∷ fs) = words_b f.body + 1 + words_bodies fs

abbrev pub words_p : Program → ℕ
words_p P = length P + words_bodies P
