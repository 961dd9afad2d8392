-- The word of each instruction, and the instruction of each word.
use Rattle.std.specs.Prelude.{◌≡◌, ℕ, ◌+◌, ◌*◌, ◌<◌, Bool, true, false, cond, ◌&&◌, Some, None, Option, ◌==◌, nat_le, nat_lt}
use Rattle.std.specs.Bool.{then_some}
use Rattle.std.specs.Option.{option_and_then}
use Rattle.table.specs.Flow.{mapped}
use Rattle.table.specs.Kinds.{constant_count, operates}
use Rattle.table.specs.Numbers.{kind_number, kind_of, scope_number, scope_of, format_number, format_of, binary_number, binary_of as operator_of, comparison_number, comparison_of}
use Rattle.table.specs.declared.shape.Kind.{Kind}
use Rattle.table.specs.declared.shape.Kind.TheVariants.{Int, Byte}
use Rattle.table.specs.declared.shape.Binary.{Binary}
use Rattle.table.specs.declared.shape.Binary.TheVariants.{Add, Sub, Mul, Div, Rem, ByteAnd, ByteOr}
use Rattle.code.specs.Fields.{op_of, aux_of, node_of, operand_of, packed}
use Rattle.code.specs.declared.instruction.Jump.{Jump}
use Rattle.code.specs.declared.instruction.Jump.TheVariants.{Else, Loop, Break, Continue}
use Rattle.code.specs.declared.instruction.Instruction.{Instruction}
use Rattle.code.specs.declared.instruction.Instruction.TheVariants.{Constant, Variable, Minus, ByteNot, Binary as OfTwo, Call, Shrink, Read, Compare, Holds, Assign, Perform, Jump as Goto, Exit, Return, Close, Write}

-- The numbers of the sense of a jump (1: made when the condition holds) and of the jumps.
abbrev pub sense_number : Bool → ℕ
sense_number false = 0
sense_number true = 1

abbrev pub jump_number : Jump → ℕ
jump_number Else = 35
jump_number Loop = 36
jump_number Break = 37
jump_number Continue = 38

-- The op of an instruction: the kind of the node whose word it is.
abbrev pub op_for : Instruction → ℕ
op_for (Constant k v) = 1
op_for (Variable s x) = 2
op_for Minus = 4
op_for ByteNot = 5
op_for (OfTwo o k) = binary_number o
op_for (Call f) = 13
op_for Shrink = 15
op_for (Read q) = 16
op_for (Compare o k s t) = comparison_number o
op_for (Holds s t) = 29
op_for (Assign s x) = 33
op_for (Perform f) = 34
op_for (Goto j t) = jump_number j
op_for Exit = 39
op_for Return = 40
op_for Close = 41
op_for (Write q) = 42

-- Its aux; at a comparison the kind and twice the sense.
abbrev pub aux_for : Instruction → ℕ
aux_for (Constant k v) = kind_number k
aux_for (Variable s x) = scope_number s
aux_for Minus = 0
aux_for ByteNot = 0
aux_for (OfTwo o k) = kind_number k
aux_for (Call f) = 0
aux_for Shrink = 0
aux_for (Read q) = format_number q
aux_for (Compare o k s t) = kind_number k + sense_number s * 2
aux_for (Holds s t) = sense_number s
aux_for (Assign s x) = scope_number s
aux_for (Perform f) = 0
aux_for (Goto j t) = 0
aux_for Exit = 0
aux_for Return = 0
aux_for Close = 0
aux_for (Write q) = format_number q

-- Its operand: a value, a slot, a function, an address.
abbrev pub operand_for : Instruction → ℕ
operand_for (Constant k v) = v
operand_for (Variable s x) = x
operand_for Minus = 0
operand_for ByteNot = 0
operand_for (OfTwo o k) = 0
operand_for (Call f) = f
operand_for Shrink = 0
operand_for (Read q) = 0
operand_for (Compare o k s t) = t
operand_for (Holds s t) = t
operand_for (Assign s x) = x
operand_for (Perform f) = f
operand_for (Goto j t) = t
operand_for Exit = 0
operand_for Return = 0
operand_for Close = 0
operand_for (Write q) = 0

-- The word of an instruction that stands for node p.
unfoldable pub word_of : Instruction → ℕ → ℕ
word_of i p = packed (op_for i) (aux_for i) p (operand_for i)

-- The instruction of a word, or none if its op is not listed or a field is: an unused field is 0.
abbrev pub sense_of : ℕ → Option Bool
sense_of a = cond (a == 0) (Some false) (cond (a == 1) (Some true) None)

abbrev pub constant_of : ℕ → ℕ → Option Instruction
constant_of a o = option_and_then (λ k. then_some (nat_lt o (constant_count k)) (Constant k o)) (kind_of a)

-- arithmetic on either kind; `&` and the or-sign on bytes only
abbrev pub binary_of : ℕ → ℕ → Option Instruction
binary_of k a = option_and_then (λ o. option_and_then (λ q. then_some (operates o q) (OfTwo o q)) (kind_of a)) (operator_of k)

abbrev pub compare_of : ℕ → ℕ → ℕ → Option Instruction
compare_of k a o =
    cond (a == 0) (mapped (λ c. Compare c Int false o) (comparison_of k))
    (cond (a == 1) (mapped (λ c. Compare c Byte false o) (comparison_of k))
    (cond (a == 2) (mapped (λ c. Compare c Int true o) (comparison_of k))
    (cond (a == 3) (mapped (λ c. Compare c Byte true o) (comparison_of k)) None)))

-- ops with neither aux nor operand
abbrev pub bare_of : ℕ → Option Instruction
bare_of k =
    cond (k == 4) (Some Minus)
    (cond (k == 5) (Some ByteNot)
    (cond (k == 15) (Some Shrink)
    (cond (k == 39) (Some Exit)
    (cond (k == 40) (Some Return)
    (cond (k == 41) (Some Close) None)))))

-- ops without aux
abbrev pub plain_of : ℕ → ℕ → Option Instruction
plain_of k o =
    cond (k == 13) (Some (Call o))
    (cond (k == 34) (Some (Perform o))
    (cond (k == 35) (Some (Goto Else o))
    (cond (k == 36) (Some (Goto Loop o))
    (cond (k == 37) (Some (Goto Break o))
    (cond (k == 38) (Some (Goto Continue o))
    (cond (o == 0) (bare_of k) None))))))

-- ops by ranges: operators, comparisons, and those without aux
abbrev pub ranged_of : ℕ → ℕ → ℕ → Option Instruction
ranged_of k a o =
    cond (nat_le 6 k && nat_le k 12) (cond (o == 0) (binary_of k a) None)
    (cond (nat_le 20 k && nat_le k 25) (compare_of k a o) (cond (a == 0) (plain_of k o) None))

abbrev pub instruction_from : ℕ → ℕ → ℕ → Option Instruction
instruction_from k a o =
    cond (k == 1) (constant_of a o)
    (cond (k == 2) (mapped (λ s. Variable s o) (scope_of a))
    (cond (k == 16) (cond (o == 0) (mapped Read (format_of a)) None)
    (cond (k == 29) (mapped (λ s. Holds s o) (sense_of a))
    (cond (k == 33) (mapped (λ s. Assign s o) (scope_of a))
    (cond (k == 42) (cond (o == 0) (mapped Write (format_of a)) None) (ranged_of k a o))))))

unfoldable pub instruction_of : ℕ → Option Instruction
instruction_of w = instruction_from (op_of w) (aux_of w) (operand_of w)

-- The range of each number: a constant within its kind, any other within 32 bits. `&` and the or-sign are of bytes.
abbrev pub OperatorFits : Binary → Kind → Type 0
OperatorFits ByteAnd Int = ⊥
OperatorFits ByteOr Int = ⊥
OperatorFits ByteAnd Byte = Unit {0}
OperatorFits ByteOr Byte = Unit {0}
OperatorFits Add k = Unit {0}
OperatorFits Sub k = Unit {0}
OperatorFits Mul k = Unit {0}
OperatorFits Div k = Unit {0}
OperatorFits Rem k = Unit {0}

abbrev pub InstructionFits : Instruction → Type 0
InstructionFits (Constant Int v) = v < 32768
InstructionFits (Constant Byte v) = v < 256
InstructionFits (Variable s x) = x < 4294967296
InstructionFits Minus = Unit {0}
InstructionFits ByteNot = Unit {0}
InstructionFits (OfTwo o k) = OperatorFits o k
InstructionFits (Call f) = f < 4294967296
InstructionFits Shrink = Unit {0}
InstructionFits (Read q) = Unit {0}
InstructionFits (Compare o k s t) = t < 4294967296
InstructionFits (Holds s t) = t < 4294967296
InstructionFits (Assign s x) = x < 4294967296
InstructionFits (Perform f) = f < 4294967296
InstructionFits (Goto j t) = t < 4294967296
InstructionFits Exit = Unit {0}
InstructionFits Return = Unit {0}
InstructionFits Close = Unit {0}
InstructionFits (Write q) = Unit {0}

-- A word that was written is read again: its instruction and its node.
abbrev pub ReadAgain : Instruction → ℕ → ℕ → Type 0
ReadAgain i p w = InstructionFits i → (instruction_of w ≡ Some i) × (node_of w ≡ p)

-- A word that was read is the one that its instruction and its node are written as.
abbrev pub WrittenAgain : ℕ → Option Instruction → Type 0
WrittenAgain w None = Unit {0}
WrittenAgain w (Some i) = InstructionFits i × (word_of i (node_of w) ≡ w)
