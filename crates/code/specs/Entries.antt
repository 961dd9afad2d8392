-- Entry words: what stands in an operand where a word is the entry of a function.
use Rattle.std.specs.Prelude.{◌≡◌, ℕ, ◌+◌, ◌*◌, ◌/◌, ◌%◌, ◌<◌, ◌≤◌, Bool, cond, ◌&&◌, Some, None, Option, ◌==◌, nat_le}
use Rattle.table.specs.Numbers.{result_number, result_of}
use Rattle.table.specs.declared.shape.Kind.{Kind}
use Rattle.code.specs.declared.instruction.Entry.{Entry}

-- Op, aux and node are 0. The operand has result (2 bits), parameters (4), variables (6), four zero bits, address (16).
unfoldable pub entry_word : Entry → ℕ
entry_word e = result_number e.result * 1073741824 + e.parameters * 67108864 + e.variables * 1048576 + e.address

-- at most 8 parameters, at most 32 variables, the parameters among them; the four bits are 0
abbrev pub counts_fit : ℕ → ℕ → ℕ → Bool
counts_fit parameters variables spare = nat_le parameters 8 && (nat_le variables 32 && (nat_le parameters variables && spare == 0))

-- an entry word's op, aux and node are 0, and its fields fit
abbrev pub entry_fits : ℕ → Bool
entry_fits w =
    (w / 4294967296 == 0) && counts_fit (w / 67108864 % 16) (w / 1048576 % 64) (w / 65536 % 16)

abbrev pub with_result : Option (Option Kind) → ℕ → ℕ → ℕ → Option Entry
with_result None p n a = None
with_result (Some r) p n a = Some (record { result = r; parameters = p; variables = n; address = a })

-- an entry by its five fields, or none if they are broken
abbrev pub entry_from : ℕ → ℕ → ℕ → ℕ → ℕ → Option Entry
entry_from result parameters variables spare address =
    cond (counts_fit parameters variables spare) (with_result (result_of result) parameters variables address) None

-- the entry of a word, or none if it is no entry word
unfoldable pub entry_of : ℕ → Option Entry
entry_of w = cond (entry_fits w) (with_result (result_of (w / 1073741824)) (w / 67108864 % 16) (w / 1048576 % 64) (w % 65536)) None

pub record EntryFits (e : Entry) : Type 0 where
  pub parameters : e.parameters ≤ 8
  pub among : e.parameters ≤ e.variables
  pub variables : e.variables ≤ 32
  pub address : e.address < 65536

-- An entry word that was written is read again, and one that was read is the one that its entry is written as.
abbrev pub EntryReadAgain : Entry → ℕ → Type 0
EntryReadAgain e w = EntryFits e → entry_of w ≡ Some e

abbrev pub EntryWrittenAgain : ℕ → Option Entry → Type 0
EntryWrittenAgain w None = Unit {0}
EntryWrittenAgain w (Some e) = EntryFits e × (entry_word e ≡ w)
