-- The code is as long as its words are counted.
use Rattle.std.proofs.Common.{◌≡◌, ℕ, suc, ◌+◌, Bool, false, List, [], ◌∷◌, length, refl, ap, arith, length-append}
use Rattle.table.specs.declared.shape.Unary.{Unary}
use Rattle.table.specs.declared.shape.Unary.TheVariants.{Plus, Minus, ByteNot, Extend, Shrink}
use Rattle.language.specs.Tree.{Expr, Args, Cond, Stmt, Block, Stmts, Program, constant, variable, unary, binary, call, read, none, more, compare, negate, join, holds, skip, assign, perform, if, if_else, loop, break, continue, exit, return, write, block, done, next}
use Rattle.language.specs.Measures.{unary_words, words_e, words_a, words_c, words_s, words_b, words_ss, words_bodies, words_p}
use Rattle.translate.specs.Code.{unary_code, code_e, code_a, flip, decides, left_target, code_c, code_s, code_b, code_ss, code_entries, code_bodies, code_p}
use Rattle.translate.specs.declared.targets.Target.{Target}

pub long_u : (u : Unary) (p : ℕ) → length (unary_code u p) ≡ unary_words u
long_u Plus p = refl
long_u Minus p = refl
long_u ByteNot p = refl
long_u Extend p = refl
long_u Shrink p = refl

mutual
  pub long_e : (e : Expr) → length (code_e e) ≡ words_e e
  long_e (constant p k n) = refl
  long_e (variable p s x k) = refl
  long_e (unary p u a) = simp length-append (omega (arith, long_u u p, long_e a))
  long_e (binary p b k a c) = simp length-append (omega (arith, long_e a, long_e c))
  long_e (call p f k xs) = simp length-append (omega (arith, long_a xs))
  long_e (read p q) = refl

  pub long_a : (xs : Args) → length (code_a xs) ≡ words_a xs
  long_a none = refl
  long_a (more a xs) = simp length-append (omega (arith, long_e a, long_a xs))

pub long_c : (c : Cond) (w : Bool) (t h : ℕ) → length (code_c c w t h) ≡ words_c c
long_c (compare p c k a b) w t h = simp length-append (omega (arith, long_e a, long_e b))
long_c (negate p c) w t h = long_c c (flip w) t h
long_c (join p j c d) w t h =
    simp length-append (omega (arith, long_c c (decides j) (left_target j w t (h + words_c (join p j c d))) h, long_c d w t (h + words_c c)))
long_c (holds p a) w t h = simp length-append (omega (arith, long_e a))

mutual
  pub long_s : (s : Stmt) (ts : List Target) (h : ℕ) → length (code_s s ts h) ≡ words_s s
  long_s (skip p) ts h = refl
  long_s (assign p s x k a) ts h = simp length-append (omega (arith, long_e a))
  long_s (perform p f xs) ts h = simp length-append (omega (arith, long_a xs))
  long_s (if p c b) ts h = simp length-append (omega (arith, long_c c false (h + words_s (if p c b)) h, long_b b ts (h + words_c c)))
  long_s (if_else p c b d) ts h =
      simp length-append (omega (arith, long_c c false (h + words_c c + words_b b + 1) h, long_b b ts (h + words_c c), long_b d ts (h + words_c c + words_b b + 1)))
  long_s (loop p m b) ts h = simp length-append (omega (arith, long_b b (record { name = m; start = h; end = h + words_s (loop p m b) } ∷ ts) h))
  long_s (break p m) ts h = refl
  long_s (continue p m) ts h = refl
  long_s (exit p) ts h = refl
  long_s (return p a) ts h = simp length-append (omega (arith, long_e a))
  long_s (write p q a) ts h = simp length-append (omega (arith, long_e a))

  pub long_b : (b : Block) (ts : List Target) (h : ℕ) → length (code_b b ts h) ≡ words_b b
  long_b (block p ss) ts h = long_ss ss ts h

  pub long_ss : (ss : Stmts) (ts : List Target) (h : ℕ) → length (code_ss ss ts h) ≡ words_ss ss
  long_ss done ts h = refl
  long_ss (next s ss) ts h = simp length-append (omega (arith, long_s s ts h, long_ss ss ts (h + words_s s)))

pub long-entries : (P : Program) (h : ℕ) → length (code_entries P h) ≡ length P
long-entries [] h = refl
long-entries (f ∷ fs) h = ap suc (long-entries fs (h + words_b f.body + 1))

pub long_bodies : (P : Program) (h : ℕ) → length (code_bodies P h) ≡ words_bodies P
long_bodies [] h = refl
long_bodies (f ∷ fs) h = simp length-append (omega (arith, long_b f.body [] h, long_bodies fs (h + words_b f.body + 1)))

pub long_code : (P : Program) → length (code_p P) ≡ words_p P
unfolding code_p
long_code P = simp length-append (omega (arith, long-entries P (length P), long_bodies P (length P)))
