-- The stack code of a program, word by word. Addresses count from the code's first word.
use Rattle.std.specs.Prelude.{ℕ, ◌+◌, Bool, true, false, cond, ◌||◌, List, [], ◌∷◌, ◌++◌, length, ◌==◌}
use Rattle.table.specs.declared.shape.Unary.{Unary}
use Rattle.table.specs.declared.shape.Unary.TheVariants.{Plus, Minus, ByteNot, Extend, Shrink}
use Rattle.table.specs.declared.shape.Junction.{Junction}
use Rattle.table.specs.declared.shape.Junction.TheVariants.{And, Or}
use Rattle.language.specs.Tree.{Expr, Args, Cond, Stmt, Block, Stmts, Signature, Program, constant, variable, unary, binary, call, read, none, more, compare, negate, join, holds, skip, assign, perform, if, if_else, loop, break, continue, exit, return, write, block, done, next}
use Rattle.language.specs.Measures.{words_c, words_s, words_b}
use Rattle.code.specs.Word.{word_of}
use Rattle.code.specs.Entries.{entry_word}
use Rattle.code.specs.declared.instruction.Entry.{Entry}
use Rattle.code.specs.declared.instruction.Jump.TheVariants.{Else, Loop as Again, Break as Leave, Continue as Restart}
use Rattle.code.specs.declared.instruction.Instruction.TheVariants.{Constant, Variable, Minus as Negative, ByteNot as Inverse, Binary as OfTwo, Call, Shrink as Lower, Read, Compare, Holds, Assign, Perform, Jump as Goto, Exit, Return, Close, Write}
use Rattle.translate.specs.declared.targets.Target.{Target}

-- The word of an operator with one operand. A plus sign and an extend change no number and have none.
abbrev pub unary_code : Unary → ℕ → List ℕ
unary_code Plus p = []
unary_code Minus p = word_of Negative p ∷ []
unary_code ByteNot p = word_of Inverse p ∷ []
unary_code Extend p = []
unary_code Shrink p = word_of Lower p ∷ []

-- An expression: its operands, left to right, and then its own word.
abbrev mutual
  pub code_e : Expr → List ℕ
  code_e (constant p k n) = word_of (Constant k n) p ∷ []
  code_e (variable p s x k) = word_of (Variable s x) p ∷ []
  code_e (unary p u a) = code_e a ++ unary_code u p
  code_e (binary p b k a c) = code_e a ++ code_e c ++ word_of (OfTwo b k) p ∷ []
  code_e (call p f k xs) = code_a xs ++ word_of (Call f) p ∷ []
  code_e (read p q) = word_of (Read q) p ∷ []

  pub code_a : Args → List ℕ
  code_a none = []
  code_a (more a xs) = code_e a ++ code_a xs

abbrev pub flip : Bool → Bool
flip true = false
flip false = true

-- The sense in which the left side alone decides: `and` when it fails, `or` when it holds.
abbrev pub decides : Junction → Bool
decides And = false
decides Or = true

-- Where the left side of a junction jumps, when it decides: to the target t if that is the sense w asked for, else
-- behind the right side, to b.
abbrev pub left_target : Junction → Bool → ℕ → ℕ → ℕ
left_target And w t b = cond w b t
left_target Or w t b = cond w t b

-- A condition from address h on: a jump to t is made when the condition comes to w, and else its words are run
-- through. `not` has no word, it changes the sense.
abbrev pub code_c : Cond → Bool → ℕ → ℕ → List ℕ
code_c (compare p c k a b) w t h = code_e a ++ code_e b ++ word_of (Compare c k w t) p ∷ []
code_c (negate p c) w t h = code_c c (flip w) t h
code_c (join p j c d) w t h = code_c c (decides j) (left_target j w t (h + words_c (join p j c d))) h ++ code_c d w t (h + words_c c)
code_c (holds p a) w t h = code_e a ++ word_of (Holds w t) p ∷ []

-- the innermost open loop of that name, 0 asking for the innermost; the innermost stands first
abbrev pub target_of : ℕ → List Target → Target
target_of m [] = record { name = 0; start = 0; end = 0 }
target_of m (x ∷ xs) = cond (m == 0 || x.name == m) x (target_of m xs)

-- A statement and a block from address h on, in the open loops ts.
--   if:       the condition jumps behind the block when it fails
--   if_else:  it jumps to the second block; the if's own word, behind the first block, jumps behind the second
--   loop:     its own word, behind its block, jumps back to the block
--   break:    jumps behind the loop's own word
--   continue: jumps to the loop's block
abbrev mutual
  pub code_s : Stmt → List Target → ℕ → List ℕ
  code_s (skip p) ts h = []
  code_s (assign p s x k a) ts h = code_e a ++ word_of (Assign s x) p ∷ []
  code_s (perform p f xs) ts h = code_a xs ++ word_of (Perform f) p ∷ []
  code_s (if p c b) ts h = code_c c false (h + words_s (if p c b)) h ++ code_b b ts (h + words_c c)
  code_s (if_else p c b d) ts h =
      code_c c false (h + words_c c + words_b b + 1) h ++ code_b b ts (h + words_c c)
      ++ (word_of (Goto Else (h + words_s (if_else p c b d))) p ∷ [])
      ++ code_b d ts (h + words_c c + words_b b + 1)
  code_s (loop p m b) ts h = code_b b (record { name = m; start = h; end = h + words_s (loop p m b) } ∷ ts) h ++ word_of (Goto Again h) p ∷ []
  code_s (break p m) ts h = word_of (Goto Leave (target_of m ts).end) p ∷ []
  code_s (continue p m) ts h = word_of (Goto Restart (target_of m ts).start) p ∷ []
  code_s (exit p) ts h = word_of Exit p ∷ []
  code_s (return p a) ts h = code_e a ++ word_of Return p ∷ []
  code_s (write p q a) ts h = code_e a ++ word_of (Write q) p ∷ []

  pub code_b : Block → List Target → ℕ → List ℕ
  code_b (block p ss) ts h = code_ss ss ts h

  pub code_ss : Stmts → List Target → ℕ → List ℕ
  code_ss done ts h = []
  code_ss (next s ss) ts h = code_s s ts h ++ code_ss ss ts (h + words_s s)

-- A body from address h on, and its closing word, which is its block's.
abbrev pub place_b : Block → ℕ
place_b (block p ss) = p

abbrev pub code_body : Block → ℕ → List ℕ
code_body b h = code_b b [] h ++ word_of Close (place_b b) ∷ []

-- the entry word of a function whose first word has address h
abbrev pub entry_for : Signature → ℕ → Entry
entry_for s h = record { result = s.result; parameters = s.parameters; variables = length s.variables; address = h }

-- The functions' entry words and bodies, the first body from address h on.
abbrev pub code_entries : Program → ℕ → List ℕ
code_entries [] h = []
code_entries (f ∷ fs) h = entry_word (entry_for f.signature h) ∷ code_entries fs (h + words_b f.body + 1)

abbrev pub code_bodies : Program → ℕ → List ℕ
code_bodies [] h = []
code_bodies (f ∷ fs) h = code_body f.body h ++ code_bodies fs (h + words_b f.body + 1)

-- The whole code: an entry word for each function, then the bodies.
unfoldable pub code_p : Program → List ℕ
code_p P = code_entries P (length P) ++ code_bodies P (length P)
