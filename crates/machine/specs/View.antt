-- The machine as lists: what the arrays of the code stand for.
use Rattle.std.specs.Prelude.{ℕ, zero, suc, ◌+◌, ◌-◌, Bool, false, List, [], ◌∷◌, take, ℤ, pos, slice_index_or}
use Rattle.std.proofs.Common.{zero-le}
use Rattle.machine.specs.declared.plan.Cause.{Cause}
use Rattle.machine.specs.declared.plan.Cause.TheVariants.{BadCode, ZeroDivisor, TooDeep, NoReturn, RefusedText, NoRoom}
use Rattle.machine.specs.declared.state.Activation.{Activation}
use Rattle.machine.specs.declared.state.Core.{Core}

-- The numbers of the faults.
abbrev pub cause_number : Cause → ℕ
cause_number BadCode = 60
cause_number ZeroDivisor = 61
cause_number TooDeep = 62
cause_number NoReturn = 63
cause_number RefusedText = 64
cause_number NoRoom = 65

-- An activation.
--   vars:  its variables, from slot 0 on
--   ops:   its operands, the last one first
--   gives: whether its function has a result
--   back:  the address where its caller goes on
pub record Act : Type 0 where
  pub vars : List ℤ
  pub ops : List ℤ
  pub gives : Bool
  pub back : ℕ

-- The open activations, the newest first and main's last, and the address of the next word.
pub record State : Type 0 where
  pub acts : List Act
  pub at : ℕ

abbrev pub state : List Act → ℕ → State
state acts at = record { acts = acts; at = at }

-- Before the first step.
abbrev pub resting : State
resting = state [] 0

-- The n numbers from place lo on, the last one first.
unfoldable pub down : List ℤ → ℕ → ℕ → List ℤ
down xs lo zero = []
down xs lo (suc n) = slice_index_or xs (lo + n) (pos 0) ∷ down xs lo n

-- Of the first n cells, lo are variables and the others are operands.
abbrev pub act_of : List ℤ → ℕ → ℕ → Bool → ℕ → Act
act_of xs lo n gives back = record { vars = take lo xs; ops = down xs lo (n - lo); gives = gives; back = back }

unfoldable pub seen : Activation → Act
seen a = act_of a.cells a.variables a.count a.gives a.back

-- what a place past the end would hold
abbrev pub blank : Activation
blank = record { cells = []; variables = 0; count = 0; gives = false; back = 0; ok = (zero-le, zero-le) }

-- the first n activations of the table, the last of them first
unfoldable pub tops : List Activation → ℕ → List Act
tops xs zero = []
tops xs (suc n) = seen (slice_index_or xs n blank) ∷ tops xs n

unfoldable pub view : Core → State
view m = state (tops m.activations m.depth) m.at
