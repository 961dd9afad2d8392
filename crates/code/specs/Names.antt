-- The names of instructions, as the bytes that print them.
use Rattle.std.specs.Prelude.{ℕ, List, codes}
use Rattle.code.specs.declared.instruction.Jump.{Jump}
use Rattle.code.specs.declared.instruction.Jump.TheVariants.{Else, Loop, Break, Continue}
use Rattle.code.specs.declared.instruction.Instruction.{Instruction}
use Rattle.code.specs.declared.instruction.Instruction.TheVariants.{Constant, Variable, Minus, ByteNot, Binary as OfTwo, Call, Shrink, Read, Compare, Holds, Assign, Perform, Jump as Goto, Exit, Return, Close, Write}

abbrev pub jump_name : Jump → List ℕ
jump_name Else = codes "else"
jump_name Loop = codes "loop"
jump_name Break = codes "break"
jump_name Continue = codes "continue"

abbrev pub instruction_name : Instruction → List ℕ
instruction_name (Constant k v) = codes "constant"
instruction_name (Variable s x) = codes "variable"
instruction_name Minus = codes "minus"
instruction_name ByteNot = codes "bytenot"
instruction_name (OfTwo o k) = codes "binary"
instruction_name (Call f) = codes "call"
instruction_name Shrink = codes "shrink"
instruction_name (Read q) = codes "read"
instruction_name (Compare o k s t) = codes "compare"
instruction_name (Holds s t) = codes "holds"
instruction_name (Assign s x) = codes "assign"
instruction_name (Perform f) = codes "perform"
instruction_name (Goto j t) = jump_name j
instruction_name Exit = codes "exit"
instruction_name Return = codes "return"
instruction_name Close = codes "close"
instruction_name (Write q) = codes "write"
