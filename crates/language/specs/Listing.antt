-- A tree's nodes in preorder, each with its place.
use Rattle.std.specs.Prelude.{ℕ, suc, List, [], ◌∷◌, ◌++◌}
use Rattle.table.specs.declared.shape.Expression.TheVariants.{Constant, Variable, Unary as OfOne, Binary as OfTwo, Call, Read}
use Rattle.table.specs.declared.shape.Condition.TheVariants.{Compare, Not, Join, Holds}
use Rattle.table.specs.declared.shape.Statement.TheVariants.{Skip, Assign, Perform, If, IfElse, Loop, Break, Continue, Exit, Return, Write}
use Rattle.table.specs.declared.shape.Shape.{Shape}
use Rattle.table.specs.declared.shape.Shape.TheVariants.{Expression as Value, Condition as Test, Statement as Act, Block as Body}
use Rattle.language.specs.Tree.{Expr, Args, Cond, Stmt, Block, Stmts, Program, constant, variable, unary, binary, call, read, none, more, compare, negate, join, holds, skip, assign, perform, if, if_else, loop, break, continue, exit, return, write, block, done, next}

-- a place, and what stands there
abbrev pub Placed : Type 0
Placed = ℕ × Shape

abbrev mutual
  pub list_e : Expr → List Placed
  list_e (constant p k n) = (p, Value (Constant k n)) ∷ []
  list_e (variable p s x k) = (p, Value (Variable s x)) ∷ []
  list_e (unary p u a) = (p, Value (OfOne u)) ∷ list_e a
  list_e (binary p b k a c) = (p, Value (OfTwo b)) ∷ list_e a ++ list_e c
  list_e (call p f k xs) = (p, Value (Call f)) ∷ list_a xs
  list_e (read p q) = (p, Value (Read q)) ∷ []

  pub list_a : Args → List Placed
  list_a none = []
  list_a (more a xs) = list_e a ++ list_a xs

abbrev pub list_c : Cond → List Placed
list_c (compare p c k a b) = (p, Test (Compare c)) ∷ list_e a ++ list_e b
list_c (negate p c) = (p, Test Not) ∷ list_c c
list_c (join p j c d) = (p, Test (Join j)) ∷ list_c c ++ list_c d
list_c (holds p a) = (p, Test Holds) ∷ list_e a

-- how many statements
abbrev pub count : Stmts → ℕ
count done = 0
count (next s ss) = suc (count ss)

abbrev mutual
  pub list_s : Stmt → List Placed
  list_s (skip p) = (p, Act Skip) ∷ []
  list_s (assign p s x k a) = (p, Act (Assign s x)) ∷ list_e a
  list_s (perform p f xs) = (p, Act (Perform f)) ∷ list_a xs
  list_s (if p c b) = (p, Act If) ∷ list_c c ++ list_b b
  list_s (if_else p c b d) = (p, Act IfElse) ∷ list_c c ++ (list_b b ++ list_b d)
  list_s (loop p m b) = (p, Act (Loop m)) ∷ list_b b
  list_s (break p m) = (p, Act (Break m)) ∷ []
  list_s (continue p m) = (p, Act (Continue m)) ∷ []
  list_s (exit p) = (p, Act Exit) ∷ []
  list_s (return p a) = (p, Act Return) ∷ list_e a
  list_s (write p q a) = (p, Act (Write q)) ∷ list_e a

  pub list_b : Block → List Placed
  list_b (block p ss) = (p, Body (count ss)) ∷ list_ss ss

  pub list_ss : Stmts → List Placed
  list_ss done = []
  list_ss (next s ss) = list_s s ++ list_ss ss

-- the bodies, in the order of the functions
abbrev pub list_p : Program → List Placed
list_p [] = []
list_p (f ∷ fs) = list_b f.body ++ list_p fs
