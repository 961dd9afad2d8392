-- The nodes of a well-formed tree have fields in range.
use Rattle.std.proofs.Common.{ℕ, List, [], ◌∷◌, ◌++◌}
use Rattle.std.specs.List.{AllByRecursion}
use Rattle.std.proofs.ByRecursion.{All-append}
use Rattle.table.specs.Shapes.{ShapeFits}
use Rattle.table.specs.declared.shape.Kind.{Kind}
use Rattle.language.specs.Tree.{Expr, Args, Cond, Stmt, Block, Stmts, constant, variable, unary, binary, call, read, none, more, compare, negate, join, holds, skip, assign, perform, if, if_else, loop, break, continue, exit, return, write, block, done, next}
use Rattle.language.specs.Listing.{Placed, list_e, list_a, list_c, list_s, list_b, list_ss}
use Rattle.language.specs.Rules.{Env, FineE, FineA, FineC, FineS, FineB, FineSs}

abbrev pub Fits : Placed → Type 0
Fits x = ShapeFits x.1

both : (xs ys : List Placed) → AllByRecursion Fits xs → AllByRecursion Fits ys → AllByRecursion Fits (xs ++ ys)
both xs ys = All-append Fits xs ys

module _ (e : Env) where
  mutual
    fits_e : (t : Expr) → FineE e t → AllByRecursion Fits (list_e t)
    fits_e (constant p k n) f = (f, tt)
    fits_e (variable p s x k) f = (tt, tt)
    fits_e (unary p u a) f = (tt, fits_e a f.0)
    fits_e (binary p b k a c) f = (tt, both (list_e a) (list_e c) (fits_e a f.0) (fits_e c f.1))
    fits_e (call p g k xs) f = (tt, fits_a _ xs f.3)
    fits_e (read p q) f = (tt, tt)

    fits_a : (ks : List Kind) (xs : Args) → FineA e ks xs → AllByRecursion Fits (list_a xs)
    fits_a [] none f = tt
    fits_a [] (more a xs) f = absurd f
    fits_a (k ∷ ks) none f = absurd f
    fits_a (k ∷ ks) (more a xs) f = both (list_e a) (list_a xs) (fits_e a f.0) (fits_a ks xs f.2)

  fits_c : (t : Cond) → FineC e t → AllByRecursion Fits (list_c t)
  fits_c (compare p c k a b) f = (tt, both (list_e a) (list_e b) (fits_e a f.0) (fits_e b f.1))
  fits_c (negate p c) f = (tt, fits_c c f)
  fits_c (join p j c d) f = (tt, both (list_c c) (list_c d) (fits_c c f.0) (fits_c d f.1))
  fits_c (holds p a) f = (tt, fits_e a f.0)

  mutual
    fits_s : (ns : List ℕ) (t : Stmt) → FineS e ns t → AllByRecursion Fits (list_s t)
    fits_s ns (skip p) f = (tt, tt)
    fits_s ns (assign p s x k a) f = (tt, fits_e a f.1)
    fits_s ns (perform p g xs) f = (tt, fits_a _ xs f.3)
    fits_s ns (if p c b) f = (tt, both (list_c c) (list_b b) (fits_c c f.0) (fits_b ns b f.1))
    fits_s ns (if_else p c b d) f =
        (tt, both (list_c c) (list_b b ++ list_b d) (fits_c c f.0) (both (list_b b) (list_b d) (fits_b ns b f.1) (fits_b ns d f.2)))
    fits_s ns (loop p m b) f = (tt, fits_b (m ∷ ns) b f.2)
    fits_s ns (break p m) f = (tt, tt)
    fits_s ns (continue p m) f = (tt, tt)
    fits_s ns (exit p) f = (tt, tt)
    fits_s ns (return p a) f = (tt, fits_e a f.1)
    fits_s ns (write p q a) f = (tt, fits_e a f.0)

    pub fits_b : (ns : List ℕ) (t : Block) → FineB e ns t → AllByRecursion Fits (list_b t)
    fits_b ns (block p ss) f = ((f.0, f.1), fits_ss ns ss f.2)

    fits_ss : (ns : List ℕ) (ss : Stmts) → FineSs e ns ss → AllByRecursion Fits (list_ss ss)
    fits_ss ns done f = tt
    fits_ss ns (next s ss) f = both (list_s s) (list_ss ss) (fits_s ns s f.0) (fits_ss ns ss f.1)
