-- What is promised of the meaning, of every program, checked or not, and from every state.
use Rattle.std.specs.Prelude.{◌≡◌, ℕ, ◌≤◌, Bool, true, false, cond, List, [], ◌++◌, length}
use Rattle.language.specs.Tree.{Program}
use Rattle.language.specs.State.{State, took, sent, Report, running, waits, ended, fault, ◌▷◌}
use Rattle.language.specs.Meaning.{walk, meaning}

-- Report y goes on from report x: it begins with the same happenings; where x has ended or is at a fault, y is x; and
-- where x waits, y waits too, unless more bytes have come.
abbrev pub Extends : Bool → Report → Report → Type 0
Extends more_bytes running y = Unit {0}
Extends more_bytes waits y = cond more_bytes (Unit {0}) (y ≡ waits)
Extends more_bytes (ended variables) y = y ≡ ended variables
Extends more_bytes (fault cause node variables) y = y ≡ fault cause node variables
Extends more_bytes (h ▷ x) y = (z : Report) × (y ≡ h ▷ z) × Extends more_bytes x z

-- y goes on from x, with the same bytes fed
abbrev pub ◌⊑◌ : Report → Report → Type 0
x ⊑ y = Extends false x y

-- y goes on from x, and more bytes may have been fed
abbrev pub ◌⊴◌ : Report → Report → Type 0
x ⊴ y = Extends true x y

infix 30 ◌⊑◌
infix 30 ◌⊴◌
-- More entries only extend the report; an end, a fault or a wait stays.
abbrev pub MoreEntries : Type 0
MoreEntries = (P : Program) (s : State) (n m : ℕ) → n ≤ m → meaning P s n ⊑ meaning P s m

-- More bytes are fed.
abbrev pub fed : List ℕ → State → State
fed bytes s = record { own = s.own; callers = s.callers; waiting = s.waiting ++ bytes; room = s.room }

-- More bytes fed only extend the report, with more entries too; an end or a fault stays.
abbrev pub MoreBytes : Type 0
MoreBytes = (P : Program) (s : State) (bytes : List ℕ) (n m : ℕ) → n ≤ m → meaning P s n ⊴ meaning P (fed bytes s) m

-- The bound on calls within calls and on rounds never shows: any that is at least the entries gives the same report.
abbrev pub BoundNeverShows : Type 0
BoundNeverShows = (P : Program) (s : State) (bound n : ℕ) → n ≤ bound → walk P bound s n ≡ meaning P s n

-- The bytes taken and the bytes sent in a report, in order.
abbrev pub taken_in : Report → List ℕ
taken_in running = []
taken_in waits = []
taken_in (ended variables) = []
taken_in (fault cause node variables) = []
taken_in (took bytes ▷ r) = bytes ++ taken_in r
taken_in (sent bytes ▷ r) = taken_in r

abbrev pub sent_in : Report → List ℕ
sent_in running = []
sent_in waits = []
sent_in (ended variables) = []
sent_in (fault cause node variables) = []
sent_in (took bytes ▷ r) = sent_in r
sent_in (sent bytes ▷ r) = bytes ++ sent_in r

-- What is taken is a first part of the waiting bytes, and what is sent fits the room.
pub record Fits (waiting : List ℕ) (room : ℕ) (r : Report) : Type 0 where
  pub part : (left : List ℕ) × (waiting ≡ taken_in r ++ left)
  pub enough : length (sent_in r) ≤ room

abbrev pub TakenAndSent : Type 0
TakenAndSent = (P : Program) (s : State) (n : ℕ) → Fits s.waiting s.room (meaning P s n)

-- A fault is of one of the causes 61 to 65.
abbrev pub Known : ℕ → Type 0
Known cause = (61 ≤ cause) × (cause ≤ 65)

abbrev pub FaultsKnown : Report → Type 0
FaultsKnown running = Unit {0}
FaultsKnown waits = Unit {0}
FaultsKnown (ended variables) = Unit {0}
FaultsKnown (fault cause node variables) = Known cause
FaultsKnown (h ▷ r) = FaultsKnown r

abbrev pub CausesKnown : Type 0
CausesKnown = (P : Program) (s : State) (n : ℕ) → FaultsKnown (meaning P s n)
