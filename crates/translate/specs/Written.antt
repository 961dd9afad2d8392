-- Words written into memory.
use Rattle.std.specs.Prelude.{◌≡◌, ℕ, ◌+◌, ◌≤◌, List, ◌++◌, length, take, drop}
use Rattle.translate.specs.declared.write.Writer.{Writer}

-- the words ws were written from h up to e, and nothing else changed
pub record Wrote (h e : ℕ) (before after ws : List ℕ) : Type 0 where
  pub out : take e after ≡ take h before ++ ws
  pub rest : drop e after ≡ drop e before
  pub on : h ≤ e

-- there is memory for n words more
abbrev pub HasRoom : Writer → ℕ → Type 0
HasRoom w n = w.here + n ≤ length w.code.now

-- A writer wrote n words, ws, where it stood, and nothing else of its memory changed.
pub record Writes (old new : Writer) (n : ℕ) (ws : List ℕ) : Type 0 where
  pub words : Wrote old.here new.here old.code.now new.code.now ws
  pub many : new.here ≡ old.here + n
  pub length : length new.code.now ≡ length old.code.now
  pub same : new.code.ghost_name ≡ old.code.ghost_name
