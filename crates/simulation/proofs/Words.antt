-- One step at a word: what each instruction does in a scene.
use Rattle.std.proofs.Common.{◌≡◌, ℕ, suc, ◌+◌, ◌<◌, ◌≤◌, List, ◌∷◌, length, get_or, Some, sym, refl, ap, ◌∙◌, arith}
use Rattle.std.proofs.lemmas.Bool.{le-ltb}
use Rattle.code.specs.declared.instruction.Instruction.{Instruction}
use Rattle.code.specs.Fields.{node_of}
use Rattle.code.specs.Word.{instruction_of}
use Rattle.machine.specs.declared.plan.Cause.{Cause}
use Rattle.machine.specs.declared.plan.Plan.{Plan}
use Rattle.machine.specs.declared.plan.Plan.TheVariants.{Went, Over, Fault}
use Rattle.machine.specs.declared.plan.Latch.TheVariants.{Open}
use Rattle.machine.specs.View.{Act, State as Machine, state, cause_number}
use Rattle.machine.specs.States.{main_variables as mains_of, run, advanced}
use Rattle.machine.specs.Steps.{world, performed, stepped}
use Rattle.machine.proofs.Tables.{fetch_in}
use Rattle.language.specs.State.{State, Report, at_end, at_fault, stopped, main_variables}
use Rattle.simulation.specs.Runs.{shown}
use Rattle.simulation.proofs.Moves.{Sim, steps, stops}

-- The word at address a is that of instruction i, for node p.
pub record At (code : List ℕ) (a : ℕ) (i : Instruction) (p : ℕ) : Type 0 where
  pub inside : a < length code
  pub says : instruction_of (get_or code a 0) ≡ Some i
  pub node : node_of (get_or code a 0) ≡ p

fetch : (code : List ℕ) (x : Act) (xs : List Act) (a : ℕ) (i : Instruction) (p : ℕ) → At code a i p → advanced code (state (x ∷ xs) a) ≡ run i p (a + 1) code (state (x ∷ xs) a)
unfolding advanced
fetch code x xs a i p h = sym (fetch_in code (state (x ∷ xs) a) (Some i) p h.inside (sym h.says) (sym h.node))

pub planned : (code : List ℕ) (x : Act) (xs : List Act) (a : ℕ) (i : Instruction) (p : ℕ) (m : Machine) (d : Plan) (ws ss : List ℕ) (r : ℕ) → At code a i p → run i p (a + 1) code (state (x ∷ xs) a) ≡ (m, d)
    → stepped code (world (state (x ∷ xs) a) Open ws ss r) ≡ performed (state (x ∷ xs) a) m d ws ss r
unfolding stepped
planned code x xs a i p m d ws ss r h e = ap (λ (z : Machine × Plan). performed (state (x ∷ xs) a) z.0 z.1 ws ss r) (fetch code x xs a i p h ∙ e)

-- nothing taken, nothing sent
quiet : (m n : Machine) (ws ss : List ℕ) (r : ℕ) (R : Report) → shown (world m Open ws ss r) (world n Open ws ss r) R ≡ R
quiet m n ws ss r R = rw (le-ltb (length ws) (length ws) (omega arith), le-ltb (length ss) (length ss) (omega arith)) refl

module _ (code : List ℕ) (x : Act) (xs : List Act) (a : ℕ) (i : Instruction) (p : ℕ) (h : At code a i p) (ws ss : List ℕ) (r : ℕ) where
  pub goes : {j k d : ℕ} {X : ℕ → Report} (m : Machine) → j ≤ suc k → run i p (a + 1) code (state (x ∷ xs) a) ≡ (m, Went) → Sim code k d X (world m Open ws ss r) → Sim code j (suc d) X (world (state (x ∷ xs) a) Open ws ss r)
  goes m l e S = steps l (planned code x xs a i p m Went ws ss r h e) (quiet (state (x ∷ xs) a) m ws ss r) S

  pub fails : {j d : ℕ} (m : Machine) (c : Cause) (s : State) → run i p (a + 1) code (state (x ∷ xs) a) ≡ (m, Fault c p) → mains_of m.acts ≡ main_variables s → Sim code j (suc d) (λ n. stopped (at_fault (cause_number c) p) s) (world (state (x ∷ xs) a) Open ws ss r)
  fails m c s e q = stops (at_fault (cause_number c) p) s (planned code x xs a i p m (Fault c p) ws ss r h e) (λ R. rw q refl)

  pub finishes : {j d : ℕ} (m : Machine) (s : State) → run i p (a + 1) code (state (x ∷ xs) a) ≡ (m, Over) → mains_of m.acts ≡ main_variables s → Sim code j (suc d) (λ n. stopped at_end s) (world (state (x ∷ xs) a) Open ws ss r)
  finishes m s e q = stops at_end s (planned code x xs a i p m Over ws ss r h e) (λ R. rw q refl)
