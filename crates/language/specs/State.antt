-- What a run of a program keeps from node to node, and what is reported of it.
use Rattle.std.specs.Prelude.{ℕ, zero, suc, ◌-◌, List, [], ◌∷◌, length, drop, ℤ, pos, slice_index_or, slice_set}
use Rattle.table.specs.declared.shape.Scope.{Scope}
use Rattle.table.specs.declared.shape.Scope.TheVariants.{Own, Main}

-- The state of a run.
--   own:     the variables of the open activation, from slot 0 on
--   callers: the variables of the activations that wait for it to close, the nearest first; main's stand last
--   waiting: the bytes that were fed and are not yet taken
--   room:    how many bytes may still be sent
pub record State : Type 0 where
  pub own : List ℤ
  pub callers : List (List ℤ)
  pub waiting : List ℕ
  pub room : ℕ

-- A happening is one take of bytes, or what one write sends.
pub data Happening : Type 0 where
  took : List ℕ → Happening
  sent : List ℕ → Happening

-- What is reported of a run: its happenings, oldest first, and how it then stands.
--   running: nothing more within the node entries asked for
--   waits:   at a read that needs more bytes than wait
--   ended:   main has closed; its variables
--   fault:   the cause, the node, and main's variables
--   h ▷ r:   h happens, and then r
pub data Report : Type 0 where
  running : Report
  waits : Report
  ended : List ℤ → Report
  fault : ℕ → ℕ → List ℤ → Report
  ◌▷◌ : Happening → Report → Report

infixr 40 ◌▷◌
-- The ways to stop: at a wait, at the end, or at a fault with its cause and node.
pub data Stop : Type 0 where
  at_wait : Stop
  at_end : Stop
  at_fault : ℕ → ℕ → Stop

-- Activations: main is the first; the open one is the last.
abbrev pub activations : State → ℕ
activations s = suc (length s.callers)

-- the last list of a row that begins with `own`
abbrev pub last_of : List ℤ → List (List ℤ) → List ℤ
last_of own [] = own
last_of own (c ∷ cs) = last_of c cs

abbrev pub main_variables : State → List ℤ
main_variables s = last_of s.own s.callers

-- How a run that stops in a state is reported.
abbrev pub stopped : Stop → State → Report
stopped at_wait s = waits
stopped at_end s = ended (main_variables s)
stopped (at_fault cause node) s = fault cause node (main_variables s)

-- The value of a variable, of the open activation or of main.
abbrev pub variables_in : Scope → State → List ℤ
variables_in Own s = s.own
variables_in Main s = main_variables s

abbrev pub get : Scope → ℕ → State → ℤ
get whose slot s = slice_index_or (variables_in whose s) slot (pos 0)

-- a slot of the last list set, in a row that begins with `own`
abbrev pub set_last : List ℤ → List (List ℤ) → ℕ → ℤ → List (List ℤ)
set_last own [] slot v = slice_set own slot v ∷ []
set_last own (c ∷ cs) slot v = own ∷ set_last c cs slot v

-- main's variable set, seen from another function; main itself names its variables as its own, so that there is then nothing to set
abbrev pub set_main : List (List ℤ) → ℕ → ℤ → List (List ℤ)
set_main [] slot v = []
set_main (c ∷ cs) slot v = set_last c cs slot v

-- A variable is given a value.
abbrev pub put : Scope → ℕ → ℤ → State → State
put Own slot v s = record { own = slice_set s.own slot v; callers = s.callers; waiting = s.waiting; room = s.room }
put Main slot v s = record { own = s.own; callers = set_main s.callers slot v; waiting = s.waiting; room = s.room }

-- An activation is opened with its variables, or closed for its caller to go on.
abbrev pub opened : List ℤ → State → State
opened variables s = record { own = variables; callers = s.own ∷ s.callers; waiting = s.waiting; room = s.room }

abbrev pub closed : List ℤ → List (List ℤ) → State → State
closed caller callers s = record { own = caller; callers = callers; waiting = s.waiting; room = s.room }

-- The first n waiting bytes are gone.
abbrev pub without : ℕ → State → State
without n s = record { own = s.own; callers = s.callers; waiting = drop n s.waiting; room = s.room }

-- The room is smaller by n.
abbrev pub narrowed : ℕ → State → State
narrowed n s = record { own = s.own; callers = s.callers; waiting = s.waiting; room = s.room - n }

-- The n variables of a new activation: the arguments fill the first slots, the others start at 0.
abbrev pub fill : ℕ → List ℤ → List ℤ
fill zero values = []
fill (suc n) [] = pos 0 ∷ fill n []
fill (suc n) (v ∷ values) = v ∷ fill n values
