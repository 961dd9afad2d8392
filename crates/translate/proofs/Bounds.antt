-- A tree has no more words than nodes, and a body one less, so that a program has at most 8,224.
use Rattle.std.proofs.Common.{◌+◌, ◌≤◌, [], ◌∷◌, length, arith, length-append}
use Rattle.table.specs.declared.shape.Unary.{Unary}
use Rattle.table.specs.declared.shape.Unary.TheVariants.{Plus, Minus, ByteNot, Extend, Shrink}
use Rattle.language.specs.Tree.{Expr, Args, Cond, Stmt, Block, Stmts, Program, constant, variable, unary, binary, call, read, none, more, compare, negate, join, holds, skip, assign, perform, if, if_else, loop, break, continue, exit, return, write, block, done, next}
use Rattle.language.specs.Listing.{list_e, list_a, list_c, list_s, list_b, list_ss, list_p}
use Rattle.language.specs.Measures.{unary_words, words_e, words_a, words_c, words_s, words_b, words_ss, words_bodies, words_p}
use Rattle.language.specs.Rules.{Keeps}

few_u : (u : Unary) → unary_words u ≤ 1
few_u Plus = omega arith
few_u Minus = omega arith
few_u ByteNot = omega arith
few_u Extend = omega arith
few_u Shrink = omega arith

mutual
  few_e : (e : Expr) → words_e e ≤ length (list_e e)
  few_e (constant p k n) = omega arith
  few_e (variable p s x k) = omega arith
  few_e (unary p u a) = omega (arith, few_u u, few_e a)
  few_e (binary p b k a c) = simp length-append (omega (arith, few_e a, few_e c))
  few_e (call p f k xs) = omega (arith, few_a xs)
  few_e (read p q) = omega arith

  few_a : (xs : Args) → words_a xs ≤ length (list_a xs)
  few_a none = omega arith
  few_a (more a xs) = simp length-append (omega (arith, few_e a, few_a xs))

few_c : (c : Cond) → words_c c ≤ length (list_c c)
few_c (compare p c k a b) = simp length-append (omega (arith, few_e a, few_e b))
few_c (negate p c) = omega (arith, few_c c)
few_c (join p j c d) = simp length-append (omega (arith, few_c c, few_c d))
few_c (holds p a) = omega (arith, few_e a)

mutual
  few_s : (s : Stmt) → words_s s ≤ length (list_s s)
  few_s (skip p) = omega arith
  few_s (assign p s x k a) = omega (arith, few_e a)
  few_s (perform p f xs) = omega (arith, few_a xs)
  few_s (if p c b) = simp length-append (omega (arith, few_c c, few_b b))
  few_s (if_else p c b d) = simp length-append (omega (arith, few_c c, few_b b, few_b d))
  few_s (loop p m b) = omega (arith, few_b b)
  few_s (break p m) = omega arith
  few_s (continue p m) = omega arith
  few_s (exit p) = omega arith
  few_s (return p a) = omega (arith, few_e a)
  few_s (write p q a) = omega (arith, few_e a)

  few_b : (b : Block) → words_b b + 1 ≤ length (list_b b)
  few_b (block p ss) = omega (arith, few_ss ss)

  few_ss : (ss : Stmts) → words_ss ss ≤ length (list_ss ss)
  few_ss done = omega arith
  few_ss (next s ss) = simp length-append (omega (arith, few_s s, few_ss ss))

few_bodies : (P : Program) → words_bodies P ≤ length (list_p P)
few_bodies [] = omega arith
few_bodies (f ∷ fs) = simp length-append (omega (arith, few_b f.body, few_bodies fs))

pub few_words : (P : Program) → Keeps P → words_p P ≤ 8224
few_words P k = omega (arith, k.few, k.short, few_bodies P)
