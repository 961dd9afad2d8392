-- The words of a tree that keeps the rules are found where its translation stands.
use Rattle.std.proofs.Common.{◌≡◌, ℕ, ◌+◌, ◌<◌, Bool, true, false, cond, ◌||◌, eqb, List, [], ◌∷◌, ◌++◌, length, get_or, Some, sym, subst, arith, length-append}
use Rattle.table.specs.declared.shape.Kind.{Kind}
use Rattle.table.specs.declared.shape.Kind.TheVariants.{Int, Byte}
use Rattle.table.specs.declared.shape.Scope.{Scope}
use Rattle.table.specs.declared.shape.Unary.{Unary}
use Rattle.table.specs.declared.shape.Unary.TheVariants.{Plus, Minus, ByteNot, Extend, Shrink}
use Rattle.table.specs.declared.shape.Binary.{Binary}
use Rattle.table.specs.declared.shape.Binary.TheVariants.{Add, Sub, Mul, Div, Rem, ByteAnd, ByteOr}
use Rattle.table.specs.declared.shape.Junction.{Junction}
use Rattle.table.specs.declared.shape.Junction.TheVariants.{And, Or}
use Rattle.table.specs.Shapes.{ConstantFits}
use Rattle.code.specs.Word.{word_of, OperatorFits, InstructionFits}
use Rattle.code.specs.declared.instruction.Jump.TheVariants.{Else, Loop as Again, Break as Leave, Continue as Restart}
use Rattle.code.specs.declared.instruction.Instruction.{Instruction}
use Rattle.code.specs.declared.instruction.Instruction.TheVariants.{Constant, Variable, Minus as Negative, ByteNot as Inverse, Binary as OfTwo, Call, Shrink as Lower, Read, Compare, Holds, Assign, Perform, Jump as Goto, Exit, Return, Write}
use Rattle.code.proofs.Round.{read_again}
use Rattle.language.specs.Tree.{Expr, Args, Cond, Stmt, Block, Stmts, Signature, constant, variable, unary, binary, call, read, none, more, compare, negate, join, holds, skip, assign, perform, if, if_else, loop, break, continue, exit, return, write, block, done, next}
use Rattle.language.specs.Listing.{Placed, list_e, list_a, list_c, list_s, list_b, list_ss}
use Rattle.language.specs.Measures.{unary_words, words_e, words_a, words_c, words_s, words_b, words_ss}
use Rattle.language.specs.Rules.{Env, slot_kind, called, parameter_kinds, Operates, FineE, FineA, FineC, FineS, FineB, FineSs}
use Rattle.translate.specs.declared.targets.Target.{Target}
use Rattle.translate.specs.Code.{unary_code, code_e, code_a, flip, decides, left_target, code_c, target_of, code_s, code_b, code_ss}
use Rattle.translate.proofs.Lengths.{long_e, long_a, long_c, long_s, long_b}
use Rattle.simulation.proofs.Words.{At}
use Rattle.simulation.proofs.Places.{end_u, end_e, end_a, end_c, end_s, end_b, end_ss, HasU, HasE, HasA, HasC, HasS, HasB, HasSs}

-- places that a word can name
abbrev pub Small : List Placed → Type 0
Small [] = Unit {0}
Small (x ∷ xs) = (x.0 < 65536) × Small xs

pub small-split : (xs ys : List Placed) → Small (xs ++ ys) → Small xs × Small ys
small-split [] ys h = (tt, h)
small-split (x ∷ xs) ys h = let r = small-split xs ys h.1 in ((h.0, r.0), r.1)

-- the place behind a tree's words is as far as they are counted
end_u_lem : (u : Unary) (a : ℕ) → end_u u a ≡ a + unary_words u
end_u_lem Plus a = omega arith
end_u_lem Minus a = omega arith
end_u_lem ByteNot a = omega arith
end_u_lem Extend a = omega arith
end_u_lem Shrink a = omega arith

mutual
  pub end_e_lem : (e : Expr) (a : ℕ) → end_e e a ≡ a + words_e e
  end_e_lem (constant p k n) a = omega arith
  end_e_lem (variable p s x k) a = omega arith
  end_e_lem (unary p u e) a = omega (arith, end_u_lem u (end_e e a), end_e_lem e a)
  end_e_lem (binary p b k x y) a = omega (arith, end_e_lem x a, end_e_lem y (end_e x a))
  end_e_lem (call p f k xs) a = omega (arith, end_a_lem xs a)
  end_e_lem (read p q) a = omega arith

  pub end_a_lem : (xs : Args) (a : ℕ) → end_a xs a ≡ a + words_a xs
  end_a_lem none a = omega arith
  end_a_lem (more e xs) a = omega (arith, end_e_lem e a, end_a_lem xs (end_e e a))

pub end_c_lem : (c : Cond) (a : ℕ) → end_c c a ≡ a + words_c c
end_c_lem (compare p q k x y) a = omega (arith, end_e_lem x a, end_e_lem y (end_e x a))
end_c_lem (negate p c) a = end_c_lem c a
end_c_lem (join p j c d) a = omega (arith, end_c_lem c a, end_c_lem d (end_c c a))
end_c_lem (holds p e) a = omega (arith, end_e_lem e a)

mutual
  pub end_s_lem : (s : Stmt) (a : ℕ) → end_s s a ≡ a + words_s s
  end_s_lem (skip p) a = omega arith
  end_s_lem (assign p s x k e) a = omega (arith, end_e_lem e a)
  end_s_lem (perform p f xs) a = omega (arith, end_a_lem xs a)
  end_s_lem (if p c b) a = omega (arith, end_c_lem c a, end_b_lem b (end_c c a))
  end_s_lem (if_else p c b d) a = omega (arith, end_c_lem c a, end_b_lem b (end_c c a), end_b_lem d (end_b b (end_c c a) + 1))
  end_s_lem (loop p m b) a = omega (arith, end_b_lem b a)
  end_s_lem (break p m) a = omega arith
  end_s_lem (continue p m) a = omega arith
  end_s_lem (exit p) a = omega arith
  end_s_lem (return p e) a = omega (arith, end_e_lem e a)
  end_s_lem (write p q e) a = omega (arith, end_e_lem e a)

  pub end_b_lem : (b : Block) (a : ℕ) → end_b b a ≡ a + words_b b
  end_b_lem (block p ss) a = end_ss_lem ss a

  pub end_ss_lem : (ss : Stmts) (a : ℕ) → end_ss ss a ≡ a + words_ss ss
  end_ss_lem done a = omega arith
  end_ss_lem (next s ss) a = omega (arith, end_s_lem s a, end_ss_lem ss (end_s s a))

operates : (b : Binary) (k : Kind) → Operates b k → OperatorFits b k
operates Add k h = tt
operates Sub k h = tt
operates Mul k h = tt
operates Div k h = tt
operates Rem k h = tt
operates ByteAnd k h = rw h tt
operates ByteOr k h = rw h tt

constant_fits : (k : Kind) (n p : ℕ) → ConstantFits k n → InstructionFits (Constant k n)
constant_fits Int n p h = h
constant_fits Byte n p h = h

-- the addresses of the open loops
abbrev pub Near : List Target → Type 0
Near [] = Unit {0}
Near (t ∷ ts) = (t.start < 4294967296) × (t.end < 4294967296) × Near ts

abbrev AimNear : Target → Type 0
AimNear t = (t.start < 4294967296) × (t.end < 4294967296)

either : (b : Bool) (x y : Target) → AimNear x → AimNear y → AimNear (cond b x y)
either true x y h g = h
either false x y h g = g

near : (m : ℕ) (ts : List Target) → Near ts → AimNear (target_of m ts)
near m [] h = (omega arith, omega arith)
near m (t ∷ ts) h = either (eqb m 0 || eqb t.name m) t (target_of m ts) (h.0, h.1) (near m ts h.2)

module _ (code : List ℕ) where
  -- these words stand from address a on
  abbrev pub Stands : ℕ → List ℕ → Type 0
  Stands a [] = Unit {0}
  Stands a (w ∷ ws) = (a < length code) × (get_or code a 0 ≡ w) × Stands (a + 1) ws

  pub split : (xs ys : List ℕ) (a b : ℕ) → b ≡ a + length xs → Stands a (xs ++ ys) → Stands a xs × Stands b ys
  split [] ys a b e S = let q : a ≡ b = omega arith in (tt, subst (λ (x : ℕ). Stands x ys) q S)
  split (x ∷ xs) ys a b e S = let r = split xs ys (a + 1) b (omega arith) S.2 in ((S.0, S.1, r.0), r.1)

  pub word : (i : Instruction) (p a : ℕ) (ws : List ℕ) → p < 65536 → InstructionFits i → Stands a (word_of i p ∷ ws) → At code a i p
  word i p a ws n f S = let r = read_again i p (get_or code a 0) n S.1 f in record { inside = S.0; says = r.0; node = r.1 }

  module _ (E : Env) (slots : (s : Scope) (x : ℕ) (k : Kind) → slot_kind E.own E.main s x ≡ Some k → x < 4294967296) (numbers : (f : ℕ) (g : Signature) → called E.functions f ≡ Some g → f < 4294967296) where
    has_u : (u : Unary) (p a : ℕ) → p < 65536 → Stands a (unary_code u p) → HasU code u p a
    has_u Plus p a n S = tt
    has_u Minus p a n S = word Negative p a [] n tt S
    has_u ByteNot p a n S = word Inverse p a [] n tt S
    has_u Extend p a n S = tt
    has_u Shrink p a n S = word Lower p a [] n tt S

    mutual
      has_e : (e : Expr) (a : ℕ) → FineE E e → Small (list_e e) → Stands a (code_e e) → HasE code e a
      has_e (constant p k n) a f m S = word (Constant k n) p a [] m.0 (constant_fits k n p f) S
      has_e (variable p s x k) a f m S = word (Variable s x) p a [] m.0 (slots s x k f) S
      has_e (unary p u e) a f m S =
          let r = split (code_e e) (unary_code u p) a (end_e e a) (omega (arith, end_e_lem e a, long_e e)) S in
          (has_e e a f.0 m.1 r.0, has_u u p (end_e e a) m.0 r.1)
      has_e (binary p b k x y) a f m S =
          let n = small-split (list_e x) (list_e y) m.1 in
          let r = split (code_e x ++ code_e y) _ a (end_e y (end_e x a)) (omega (arith, end_e_lem x a, end_e_lem y (end_e x a), long_e x, long_e y, length-append (code_e x) (code_e y))) S in
          let q = split (code_e x) (code_e y) a (end_e x a) (omega (arith, end_e_lem x a, long_e x)) r.0 in
          (has_e x a f.0 n.0 q.0, has_e y (end_e x a) f.1 n.1 q.1, word (OfTwo b k) p (end_e y (end_e x a)) [] m.0 (operates b k f.4) r.1)
      has_e (call p y k xs) a f m S =
          let r = split (code_a xs) _ a (end_a xs a) (omega (arith, end_a_lem xs a, long_a xs)) S in
          (has_a xs a (parameter_kinds f.0) f.3 m.1 r.0, word (Call y) p (end_a xs a) [] m.0 (numbers y f.0 f.1) r.1)
      has_e (read p q) a f m S = word (Read q) p a [] m.0 tt S

      has_a : (xs : Args) (a : ℕ) (ks : List Kind) → FineA E ks xs → Small (list_a xs) → Stands a (code_a xs) → HasA code xs a
      has_a none a ks f m S = tt
      has_a (more e xs) a [] f m S = absurd f
      has_a (more e xs) a (k ∷ ks) f m S =
          let n = small-split (list_e e) (list_a xs) m in
          let r = split (code_e e) (code_a xs) a (end_e e a) (omega (arith, end_e_lem e a, long_e e)) S in
          (has_e e a f.0 n.0 r.0, has_a xs (end_e e a) ks f.2 n.1 r.1)

    left_near : (j : Junction) (w : Bool) (t b : ℕ) → t < 4294967296 → b < 4294967296 → left_target j w t b < 4294967296
    left_near And true t b l h = h
    left_near And false t b l h = l
    left_near Or true t b l h = l
    left_near Or false t b l h = h

    has_c : (c : Cond) (w : Bool) (t a : ℕ) → t < 4294967296 → a + words_c c < 4294967296 → FineC E c → Small (list_c c) → Stands a (code_c c w t a) → HasC code c w t a
    has_c (compare p q k x y) w t a l h f m S =
        let n = small-split (list_e x) (list_e y) m.1 in
        let r = split (code_e x ++ code_e y) _ a (end_e y (end_e x a)) (omega (arith, end_e_lem x a, end_e_lem y (end_e x a), long_e x, long_e y, length-append (code_e x) (code_e y))) S in
        let q' = split (code_e x) (code_e y) a (end_e x a) (omega (arith, end_e_lem x a, long_e x)) r.0 in
        (has_e x a f.0 n.0 q'.0, has_e y (end_e x a) f.1 n.1 q'.1, word (Compare q k w t) p (end_e y (end_e x a)) [] m.0 l r.1)
    has_c (negate p c) w t a l h f m S = has_c c (flip w) t a l h f m.1 S
    has_c (join p j c d) w t a l h f m S =
        let n = small-split (list_c c) (list_c d) m.1 in
        let e : a + words_c c ≡ end_c c a = sym (end_c_lem c a) in
        let g : a + words_c (join p j c d) ≡ end_c d (end_c c a) = omega (arith, end_c_lem c a, end_c_lem d (end_c c a)) in
        let r = split (code_c c (decides j) (left_target j w t (a + words_c (join p j c d))) a) _ a (end_c c a) (omega (arith, end_c_lem c a, long_c c (decides j) (left_target j w t (a + words_c (join p j c d))) a)) S in (
          has_c c (decides j) (left_target j w t (end_c d (end_c c a))) a (left_near j w t (end_c d (end_c c a)) l (omega arith)) (omega arith) f.0 n.0 (subst (λ (b : ℕ). Stands a (code_c c (decides j) (left_target j w t b) a)) g r.0),
          has_c d w t (end_c c a) l (omega arith) f.1 n.1 (subst (λ (b : ℕ). Stands (end_c c a) (code_c d w t b)) e r.1),
        )
    has_c (holds p e) w t a l h f m S =
        let r = split (code_e e) _ a (end_e e a) (omega (arith, end_e_lem e a, long_e e)) S in
        (has_e e a f.0 m.1 r.0, word (Holds w t) p (end_e e a) [] m.0 l r.1)

    mutual
      has_s : (q : Stmt) (ts : List Target) (ns : List ℕ) (a : ℕ) → Near ts → a + words_s q < 4294967296 → FineS E ns q → Small (list_s q) → Stands a (code_s q ts a) → HasS code q ts a
      has_s (skip p) ts ns a l h f m S = tt
      has_s (assign p s x k e) ts ns a l h f m S =
          let r = split (code_e e) _ a (end_e e a) (omega (arith, end_e_lem e a, long_e e)) S in
          (has_e e a f.1 m.1 r.0, word (Assign s x) p (end_e e a) [] m.0 (slots s x k f.0) r.1)
      has_s (perform p y xs) ts ns a l h f m S =
          let r = split (code_a xs) _ a (end_a xs a) (omega (arith, end_a_lem xs a, long_a xs)) S in
          (has_a xs a (parameter_kinds f.0) f.3 m.1 r.0, word (Perform y) p (end_a xs a) [] m.0 (numbers y f.0 f.1) r.1)
      has_s (if p c b) ts ns a l h f m S =
          let n = small-split (list_c c) (list_b b) m.1 in
          let e : a + words_c c ≡ end_c c a = sym (end_c_lem c a) in
          let g : a + words_s (if p c b) ≡ end_b b (end_c c a) = omega (arith, end_c_lem c a, end_b_lem b (end_c c a)) in
          let r = split (code_c c false (a + words_s (if p c b)) a) _ a (end_c c a) (omega (arith, end_c_lem c a, long_c c false (a + words_s (if p c b)) a)) S in (
            has_c c false (end_b b (end_c c a)) a (omega arith) (omega arith) f.0 n.0 (subst (λ (t : ℕ). Stands a (code_c c false t a)) g r.0),
            has_b b ts ns (end_c c a) l (omega arith) f.1 n.1 (subst (λ (x : ℕ). Stands (end_c c a) (code_b b ts x)) e r.1),
          )
      has_s (if_else p c b d) ts ns a l h f m S =
          let n = small-split (list_c c) (list_b b ++ list_b d) m.1 in
          let n' = small-split (list_b b) (list_b d) n.1 in
          let e : a + words_c c ≡ end_c c a = sym (end_c_lem c a) in
          let g : a + words_c c + words_b b + 1 ≡ end_b b (end_c c a) + 1 = omega (arith, end_c_lem c a, end_b_lem b (end_c c a)) in
          let i : a + words_s (if_else p c b d) ≡ end_b d (end_b b (end_c c a) + 1) = omega (arith, end_c_lem c a, end_b_lem b (end_c c a), end_b_lem d (end_b b (end_c c a) + 1)) in
          let lc = long_c c false (a + words_c c + words_b b + 1) a in
          let lb = long_b b ts (a + words_c c) in
          let u = length-append (code_c c false (a + words_c c + words_b b + 1) a) (code_b b ts (a + words_c c)) in
          let v = length-append (code_c c false (a + words_c c + words_b b + 1) a ++ code_b b ts (a + words_c c)) (word_of (Goto Else (a + words_s (if_else p c b d))) p ∷ []) in
          let r = split (code_c c false (a + words_c c + words_b b + 1) a ++ code_b b ts (a + words_c c) ++ word_of (Goto Else (a + words_s (if_else p c b d))) p ∷ []) (code_b d ts (a + words_c c + words_b b + 1)) a (end_b b (end_c c a) + 1) (omega (arith, end_c_lem c a, end_b_lem b (end_c c a), lc, lb, u, v)) S in
          let r' = split (code_c c false (a + words_c c + words_b b + 1) a ++ code_b b ts (a + words_c c)) (word_of (Goto Else (a + words_s (if_else p c b d))) p ∷ []) a (end_b b (end_c c a)) (omega (arith, end_c_lem c a, end_b_lem b (end_c c a), lc, lb, u)) r.0 in
          let r'' = split (code_c c false (a + words_c c + words_b b + 1) a) (code_b b ts (a + words_c c)) a (end_c c a) (omega (arith, end_c_lem c a, lc)) r'.0 in (
            has_c c false (end_b b (end_c c a) + 1) a (omega arith) (omega arith) f.0 n.0 (subst (λ (t : ℕ). Stands a (code_c c false t a)) g r''.0),
            has_b b ts ns (end_c c a) l (omega arith) f.1 n'.0 (subst (λ (x : ℕ). Stands (end_c c a) (code_b b ts x)) e r''.1),
            word (Goto Else (end_b d (end_b b (end_c c a) + 1))) p (end_b b (end_c c a)) [] m.0 (omega arith) (subst (λ (t : ℕ). Stands (end_b b (end_c c a)) (word_of (Goto Else t) p ∷ [])) i r'.1),
            has_b d ts ns (end_b b (end_c c a) + 1) l (omega arith) f.2 n'.1 (subst (λ (x : ℕ). Stands (end_b b (end_c c a) + 1) (code_b d ts x)) g r.1),
          )
      has_s (loop p x b) ts ns a l h f m S =
          let e : a + words_s (loop p x b) ≡ end_b b a + 1 = omega (arith, end_b_lem b a) in
          let r = split (code_b b (record { name = x; start = a; end = a + words_s (loop p x b) } ∷ ts) a) _ a (end_b b a) (omega (arith, end_b_lem b a, long_b b (record { name = x; start = a; end = a + words_s (loop p x b) } ∷ ts) a)) S in (
            has_b b (record { name = x; start = a; end = end_b b a + 1 } ∷ ts) (x ∷ ns) a (omega arith, omega arith, l) (omega arith) f.2 m.1 (subst (λ (t : ℕ). Stands a (code_b b (record { name = x; start = a; end = t } ∷ ts) a)) e r.0),
            word (Goto Again a) p (end_b b a) [] m.0 (omega arith) r.1,
          )
      has_s (break p x) ts ns a l h f m S = word (Goto Leave (target_of x ts).end) p a [] m.0 (near x ts l).1 S
      has_s (continue p x) ts ns a l h f m S = word (Goto Restart (target_of x ts).start) p a [] m.0 (near x ts l).0 S
      has_s (exit p) ts ns a l h f m S = word Exit p a [] m.0 tt S
      has_s (return p e) ts ns a l h f m S =
          let r = split (code_e e) _ a (end_e e a) (omega (arith, end_e_lem e a, long_e e)) S in
          (has_e e a f.1 m.1 r.0, word Return p (end_e e a) [] m.0 tt r.1)
      has_s (write p q e) ts ns a l h f m S =
          let r = split (code_e e) _ a (end_e e a) (omega (arith, end_e_lem e a, long_e e)) S in
          (has_e e a f.0 m.1 r.0, word (Write q) p (end_e e a) [] m.0 tt r.1)

      pub has_b : (q : Block) (ts : List Target) (ns : List ℕ) (a : ℕ) → Near ts → a + words_b q < 4294967296 → FineB E ns q → Small (list_b q) → Stands a (code_b q ts a) → HasB code q ts a
      has_b (block p ss) ts ns a l h f m S = has_ss ss ts ns a l h f.2 m.1 S

      has_ss : (q : Stmts) (ts : List Target) (ns : List ℕ) (a : ℕ) → Near ts → a + words_ss q < 4294967296 → FineSs E ns q → Small (list_ss q) → Stands a (code_ss q ts a) → HasSs code q ts a
      has_ss done ts ns a l h f m S = tt
      has_ss (next q qs) ts ns a l h f m S =
          let n = small-split (list_s q) (list_ss qs) m in
          let e : a + words_s q ≡ end_s q a = sym (end_s_lem q a) in
          let r = split (code_s q ts a) _ a (end_s q a) (omega (arith, end_s_lem q a, long_s q ts a)) S in
          (has_s q ts ns a l (omega arith) f.0 n.0 r.0, has_ss qs ts ns (end_s q a) l (omega arith) f.1 n.1 (subst (λ (x : ℕ). Stands (end_s q a) (code_ss qs ts x)) e r.1))
