-- Where the words of a tree stand: the place behind them, and what is to be found from a place on.
use Rattle.std.proofs.Common.{ℕ, ◌+◌, Bool, false, List, ◌∷◌}
use Rattle.table.specs.declared.shape.Unary.{Unary}
use Rattle.table.specs.declared.shape.Unary.TheVariants.{Plus, Minus, ByteNot, Extend, Shrink}
use Rattle.code.specs.declared.instruction.Jump.TheVariants.{Else, Loop as Again, Break as Leave, Continue as Restart}
use Rattle.code.specs.declared.instruction.Instruction.TheVariants.{Constant, Variable, Minus as Negative, ByteNot as Inverse, Binary as OfTwo, Call, Shrink as Lower, Read, Compare, Holds, Assign, Perform, Jump as Goto, Exit, Return, Write}
use Rattle.language.specs.Tree.{Expr, Args, Cond, Stmt, Block, Stmts, constant, variable, unary, binary, call, read, none, more, compare, negate, join, holds, skip, assign, perform, if, if_else, loop, break, continue, exit, return, write, block, done, next}
use Rattle.translate.specs.declared.targets.Target.{Target}
use Rattle.translate.specs.Code.{flip, decides, left_target, target_of}
use Rattle.simulation.proofs.Words.{At}

abbrev pub end_u : Unary → ℕ → ℕ
end_u Plus a = a
end_u Minus a = a + 1
end_u ByteNot a = a + 1
end_u Extend a = a
end_u Shrink a = a + 1

abbrev mutual
  pub end_e : Expr → ℕ → ℕ
  end_e (constant p k n) a = a + 1
  end_e (variable p s x k) a = a + 1
  end_e (unary p u e) a = end_u u (end_e e a)
  end_e (binary p b k x y) a = end_e y (end_e x a) + 1
  end_e (call p f k xs) a = end_a xs a + 1
  end_e (read p q) a = a + 1

  pub end_a : Args → ℕ → ℕ
  end_a none a = a
  end_a (more e xs) a = end_a xs (end_e e a)

abbrev pub end_c : Cond → ℕ → ℕ
end_c (compare p c k x y) a = end_e y (end_e x a) + 1
end_c (negate p c) a = end_c c a
end_c (join p j c d) a = end_c d (end_c c a)
end_c (holds p e) a = end_e e a + 1

abbrev mutual
  pub end_s : Stmt → ℕ → ℕ
  end_s (skip p) a = a
  end_s (assign p s x k e) a = end_e e a + 1
  end_s (perform p f xs) a = end_a xs a + 1
  end_s (if p c b) a = end_b b (end_c c a)
  end_s (if_else p c b d) a = end_b d (end_b b (end_c c a) + 1)
  end_s (loop p m b) a = end_b b a + 1
  end_s (break p m) a = a + 1
  end_s (continue p m) a = a + 1
  end_s (exit p) a = a + 1
  end_s (return p e) a = end_e e a + 1
  end_s (write p q e) a = end_e e a + 1

  pub end_b : Block → ℕ → ℕ
  end_b (block p ss) a = end_ss ss a

  pub end_ss : Stmts → ℕ → ℕ
  end_ss done a = a
  end_ss (next s ss) a = end_ss ss (end_s s a)

module _ (code : List ℕ) where
  abbrev pub HasU : Unary → ℕ → ℕ → Type 0
  HasU Plus p a = Unit {0}
  HasU Minus p a = At code a Negative p
  HasU ByteNot p a = At code a Inverse p
  HasU Extend p a = Unit {0}
  HasU Shrink p a = At code a Lower p

  abbrev mutual
    pub HasE : Expr → ℕ → Type 0
    HasE (constant p k n) a = At code a (Constant k n) p
    HasE (variable p s x k) a = At code a (Variable s x) p
    HasE (unary p u e) a = HasE e a × HasU u p (end_e e a)
    HasE (binary p b k x y) a = HasE x a × HasE y (end_e x a) × At code (end_e y (end_e x a)) (OfTwo b k) p
    HasE (call p f k xs) a = HasA xs a × At code (end_a xs a) (Call f) p
    HasE (read p q) a = At code a (Read q) p

    pub HasA : Args → ℕ → Type 0
    HasA none a = Unit {0}
    HasA (more e xs) a = HasE e a × HasA xs (end_e e a)

  -- with a jump to t made where the condition comes to w
  abbrev pub HasC : Cond → Bool → ℕ → ℕ → Type 0
  HasC (compare p c k x y) w t a = HasE x a × HasE y (end_e x a) × At code (end_e y (end_e x a)) (Compare c k w t) p
  HasC (negate p c) w t a = HasC c (flip w) t a
  HasC (join p j c d) w t a = HasC c (decides j) (left_target j w t (end_c d (end_c c a))) a × HasC d w t (end_c c a)
  HasC (holds p e) w t a = HasE e a × At code (end_e e a) (Holds w t) p

  -- in the open loops ts
  abbrev mutual
    pub HasS : Stmt → List Target → ℕ → Type 0
    HasS (skip p) ts a = Unit {0}
    HasS (assign p s x k e) ts a = HasE e a × At code (end_e e a) (Assign s x) p
    HasS (perform p f xs) ts a = HasA xs a × At code (end_a xs a) (Perform f) p
    HasS (if p c b) ts a = HasC c false (end_b b (end_c c a)) a × HasB b ts (end_c c a)
    HasS (if_else p c b d) ts a =
        HasC c false (end_b b (end_c c a) + 1) a × HasB b ts (end_c c a)
        × At code (end_b b (end_c c a)) (Goto Else (end_b d (end_b b (end_c c a) + 1))) p × HasB d ts (end_b b (end_c c a) + 1)
    HasS (loop p m b) ts a = HasB b (record { name = m; start = a; end = end_b b a + 1 } ∷ ts) a × At code (end_b b a) (Goto Again a) p
    HasS (break p m) ts a = At code a (Goto Leave (target_of m ts).end) p
    HasS (continue p m) ts a = At code a (Goto Restart (target_of m ts).start) p
    HasS (exit p) ts a = At code a Exit p
    HasS (return p e) ts a = HasE e a × At code (end_e e a) Return p
    HasS (write p q e) ts a = HasE e a × At code (end_e e a) (Write q) p

    pub HasB : Block → List Target → ℕ → Type 0
    HasB (block p ss) ts a = HasSs ss ts a

    pub HasSs : Stmts → List Target → ℕ → Type 0
    HasSs done ts a = Unit {0}
    HasSs (next s ss) ts a = HasS s ts a × HasSs ss ts (end_s s a)
