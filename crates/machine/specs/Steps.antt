-- One step over a line, and its laws.
use Rattle.std.specs.Prelude.{◌≡◌, ℕ, ◌+◌, ◌-◌, ◌≤◌, cond, ◌⊎◌, List, [], ◌++◌, length, drop, ◌≢◌, nat_le}
use Rattle.number.specs.declared.text.Reading.{Reading}
use Rattle.number.specs.declared.text.Reading.TheVariants.{Wait, Refused, Took}
use Rattle.machine.specs.declared.plan.Cause.TheVariants.{RefusedText, NoRoom}
use Rattle.machine.specs.declared.plan.Plan.{Plan}
use Rattle.machine.specs.declared.plan.Plan.TheVariants.{Went, Over, Fault, Read, Send}
use Rattle.machine.specs.declared.plan.Latch.{Latch}
use Rattle.machine.specs.declared.plan.Latch.TheVariants.{Open, Ended as Closed, Failed as Broken}
use Rattle.machine.specs.declared.plan.Outcome.{Outcome}
use Rattle.machine.specs.declared.plan.Outcome.TheVariants.{Went as Stepped, Waits, Ended, Failed}
use Rattle.machine.specs.View.{State}
use Rattle.machine.specs.Values.{finds, text_of}
use Rattle.machine.specs.Acts.{pushed, dropped}
use Rattle.machine.specs.States.{settled, advanced}

-- The machine, and the line as far as it matters to it.
pub record World : Type 0 where
  pub machine : State
  pub latch : Latch
  pub waiting : List ℕ
  pub sent : List ℕ
  pub room : ℕ

abbrev pub world : State → Latch → List ℕ → List ℕ → ℕ → World
world machine latch waiting sent room = record { machine = machine; latch = latch; waiting = waiting; sent = sent; room = room }

-- An end and a fault are kept.
abbrev pub latch_of : Plan → Latch
latch_of Went = Open
latch_of Over = Closed
latch_of (Fault c n) = Broken c n
latch_of (Read q node next) = Open
latch_of (Send q v node next) = Open

abbrev pub outcome_of : Plan → Outcome
outcome_of Went = Stepped
outcome_of Over = Ended
outcome_of (Fault c n) = Failed c n
outcome_of (Read q node next) = Stepped
outcome_of (Send q v node next) = Stepped

abbrev pub finished : State × Plan → List ℕ → List ℕ → ℕ → World × Outcome
finished p waiting sent room = (world p.0 (latch_of p.1) waiting sent room, outcome_of p.1)

-- A read, by what it finds: it waits with nothing changed, refuses the text and takes nothing, or takes its bytes.
abbrev pub received : State → State → ℕ → ℕ → Reading → List ℕ → List ℕ → ℕ → World × Outcome
received before s node next Wait waiting sent room = (world before Open waiting sent room, Waits)
received before s node next Refused waiting sent room = finished (s, Fault RefusedText node) waiting sent room
received before s node next (Took v n) waiting sent room = finished (settled (pushed v) node next s) (drop n waiting) sent room

-- A write: all of its bytes, or none if they are more than the room.
abbrev pub delivered : State → ℕ → ℕ → List ℕ → List ℕ → List ℕ → ℕ → World × Outcome
delivered s node next text waiting sent room =
    cond (nat_le (length text) room) (finished (settled dropped node next s) waiting (sent ++ text) (room - length text)) (finished (s, Fault NoRoom node) waiting sent room)

-- A plan, performed; `before` is the machine before the step.
abbrev pub performed : State → State → Plan → List ℕ → List ℕ → ℕ → World × Outcome
performed before s Went waiting sent room = finished (s, Went) waiting sent room
performed before s Over waiting sent room = finished (s, Over) waiting sent room
performed before s (Fault c n) waiting sent room = finished (s, Fault c n) waiting sent room
performed before s (Read q node next) waiting sent room = received before s node next (finds q waiting) waiting sent room
performed before s (Send q v node next) waiting sent room = delivered s node next (text_of q v) waiting sent room

abbrev pub stepping : Latch → List ℕ → World → World × Outcome
stepping Open code w = performed w.machine (advanced code w.machine).0 (advanced code w.machine).1 w.waiting w.sent w.room
stepping Closed code w = (w, Ended)
stepping (Broken c n) code w = (w, Failed c n)

-- One step. After an end or a fault it is repeated.
unfoldable pub stepped : List ℕ → World → World × Outcome
stepped code w = stepping w.latch code w

-- The hold after a step: what was taken may be given back, and no more.
abbrev pub Held : ℕ → ℕ → List ℕ → List ℕ → Type 0
Held hold hold' waiting waiting' = (hold ≤ hold') × (hold' ≤ hold + (length waiting - length waiting'))

-- More bytes waiting behind.
abbrev pub fed : List ℕ → World → World
fed bytes w = world w.machine w.latch (w.waiting ++ bytes) w.sent w.room

-- What a step takes and sends: one of the two at most, and nothing unless it goes on.
pub record Moves (w : World) (x : World × Outcome) : Type 0 where
  pub taken : List ℕ
  pub text : List ℕ
  pub takes : w.waiting ≡ taken ++ x.0.waiting
  pub sends : x.0.sent ≡ w.sent ++ text
  pub spends : w.room ≡ x.0.room + length text
  pub either : (taken ≡ []) ⊎ (text ≡ [])
  pub rests : (x.1 ≢ Stepped) → (taken ≡ []) × (text ≡ [])

abbrev pub latch_for : Outcome → Latch
latch_for Stepped = Open
latch_for Waits = Open
latch_for Ended = Closed
latch_for (Failed c n) = Broken c n

-- The laws of a step that leads from w to x.
--   waits: a wait changes nothing
--   more:  any other step is the same with more bytes waiting behind
--   moves: what it takes and sends
--   latch: an end and a fault are kept, and then repeated
pub record StepLaws (code : List ℕ) (w : World) (x : World × Outcome) : Type 0 where
  pub waits : x.1 ≡ Waits → x.0 ≡ w
  pub more : (bytes : List ℕ) → (x.1 ≢ Waits) → stepped code (fed bytes w) ≡ (fed bytes x.0, x.1)
  pub moves : Moves w x
  pub latch : x.0.latch ≡ latch_for x.1
