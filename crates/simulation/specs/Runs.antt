-- What a machine reports over its steps, in the words of the meaning, and how the two belong together.
use Rattle.std.specs.Prelude.{◌≡◌, ℕ, zero, suc, ◌-◌, ◌<◌, ◌≤◌, cond, List, ◌++◌, length, take, drop, nat_lt}
use Rattle.std.specs.List.{AllByRecursion}
use Rattle.machine.specs.declared.plan.Latch.TheVariants.{Open}
use Rattle.machine.specs.declared.plan.Outcome.{Outcome}
use Rattle.machine.specs.declared.plan.Outcome.TheVariants.{Went as Stepped, Waits, Ended, Failed}
use Rattle.machine.specs.View.{cause_number, resting}
use Rattle.machine.specs.States.{main_variables}
use Rattle.machine.specs.Steps.{World, world, stepped}
use Rattle.language.specs.Tree.{Program}
use Rattle.language.specs.Rules.{Keeps}
use Rattle.language.specs.State.{took, sent, Report, running, waits, ended, fault, ◌▷◌}
use Rattle.language.specs.Meaning.{meaning, start}
use Rattle.language.specs.Laws.{◌⊑◌}
use Rattle.translate.specs.Code.{code_p}

-- What a step from w to x shows at the line: the bytes that are gone from those waiting, the bytes that have come to
-- those sent, or nothing.
abbrev pub shown : World → World → Report → Report
shown w x r =
    cond (nat_lt (length x.waiting) (length w.waiting)) (took (take (length w.waiting - length x.waiting) w.waiting) ▷ r)
    (cond (nat_lt (length w.sent) (length x.sent)) (sent (drop (length w.sent) x.sent) ▷ r) r)

-- A step from w to x with its outcome, and then r.
abbrev pub reported : World → World → Report → Outcome → Report
reported w x r Stepped = shown w x r
reported w x r Waits = waits
reported w x r Ended = ended (main_variables x.machine.acts)
reported w x r (Failed c n) = fault (cause_number c) n (main_variables x.machine.acts)

-- What the machine reports within a number of steps.
unfoldable pub machine_report : List ℕ → ℕ → World → Report
machine_report code zero w = running
machine_report code (suc t) w = reported w (stepped code w).0 (machine_report code t (stepped code w).0) (stepped code w).1

-- The machine before its first step, over a line with these bytes waiting, these sent, and this room.
abbrev pub armed : List ℕ → List ℕ → ℕ → World
armed bytes out room = world resting Open bytes out room

-- The words begin with the program's translation.
abbrev pub Begins : Program → List ℕ → Type 0
Begins P code = (rest : List ℕ) × (code ≡ code_p P ++ rest)

-- Over these bytes, with these sent before and this room, the machine does with the code what the meaning says:
--   forward:  what the meaning reports within n entries, the machine reports within n steps, and within more;
--   backward: what the machine reports within t steps, the meaning reports within some number of entries.
-- An end, a fault and a wait are reported so on both sides, a fault with its cause and node, an end and a fault with
-- main's variables.
pub record Simulates (P : Program) (code bytes out : List ℕ) (room : ℕ) : Type 0 where
  pub forward : (n t : ℕ) → n ≤ t → meaning P (start P bytes room) n ⊑ machine_report code t (armed bytes out room)
  pub backward : (t : ℕ) → (n : ℕ) × (machine_report code t (armed bytes out room) ⊑ meaning P (start P bytes room) n)

-- It does so for every program that keeps the rules, every code that begins with its translation, and every line.
abbrev pub Simulation : Type 0
Simulation =
    (P : Program) → Keeps P → (code : List ℕ) → Begins P code → (bytes : List ℕ) → AllByRecursion (λ b. b < 256) bytes → (out : List ℕ) (room : ℕ) → Simulates P code bytes out room
