-- What a step does as far as no line is needed.
use Rattle.std.specs.Prelude.{ℕ, zero, suc, ◌+◌, ◌-◌, Bool, true, false, cond, List, [], ◌∷◌, ◌++◌, length, drop, replicate, ℤ, pos, Some, None, Ok, Err, Option, Result, ◌==◌, nat_lt, is_some, slice_index, slice_index_or, slice_set}
use Rattle.table.specs.declared.shape.Kind.{Kind}
use Rattle.table.specs.declared.shape.Scope.TheVariants.{Own, Main}
use Rattle.table.specs.declared.shape.Format.{Format}
use Rattle.code.specs.declared.instruction.Entry.{Entry}
use Rattle.code.specs.declared.instruction.Instruction.{Instruction}
use Rattle.code.specs.declared.instruction.Instruction.TheVariants.{Constant, Variable, Minus, ByteNot, Binary as OfTwo, Call, Shrink, Read as ReadAct, Compare, Holds, Assign, Perform, Jump as Goto, Exit, Return, Close, Write}
use Rattle.code.specs.Fields.{node_of}
use Rattle.code.specs.Word.{instruction_of}
use Rattle.code.specs.Entries.{entry_of}
use Rattle.machine.specs.declared.plan.Cause.{Cause}
use Rattle.machine.specs.declared.plan.Cause.TheVariants.{BadCode, TooDeep, NoReturn}
use Rattle.machine.specs.declared.plan.Plan.{Plan}
use Rattle.machine.specs.declared.plan.Plan.TheVariants.{Went, Over, Fault, Read, Send}
use Rattle.machine.specs.View.{Act, State, state}
use Rattle.machine.specs.Acts.{with_ops, with_vars, after, size, first, pushed, dropped, act_by}

-- How an act of the newest activation is concluded; a fault leaves the machine as it is.
abbrev pub concluded : Result (Option ℕ) Cause → ℕ → ℕ → State → State × Plan
concluded (Ok target) node next s = (state s.acts (after target next), Went)
concluded (Err cause) node next s = (s, Fault cause node)

-- An act of the newest activation.
abbrev pub on_top : (Act → Act × Result (Option ℕ) Cause) → ℕ → ℕ → ℕ → List Act → State × Plan
on_top f node next p [] = (state [] p, Fault BadCode node)
on_top f node next p (a ∷ xs) = concluded (f a).1 node next (state ((f a).0 ∷ xs) p)

unfoldable pub settled : (Act → Act × Result (Option ℕ) Cause) → ℕ → ℕ → State → State × Plan
settled f node next s = on_top f node next s.at s.acts

-- Main's activation stands last.
abbrev pub main_of : Act → List Act → Act
main_of a [] = a
main_of a (b ∷ bs) = main_of b bs

abbrev pub put_main : Act → List Act → List Act
put_main y [] = []
put_main y (a ∷ []) = y ∷ []
put_main y (a ∷ b ∷ bs) = a ∷ put_main y (b ∷ bs)

unfoldable pub main_variables : List Act → List ℤ
main_variables [] = []
main_variables (a ∷ xs) = (main_of a xs).vars

-- what stands in a slot, if there is such a slot
abbrev pub variable_at : List ℤ → ℕ → Option ℤ
variable_at vars i = cond (nat_lt i (length vars)) (Some (slice_index_or vars i (pos 0))) None

-- A variable of main becomes an operand.
abbrev pub loading_main : Option ℤ → ℕ → ℕ → State → State × Plan
loading_main None node next s = (s, Fault BadCode node)
loading_main (Some v) node next s = settled (pushed v) node next s

unfoldable pub from_main : ℕ → ℕ → ℕ → State → State × Plan
from_main i node next s = loading_main (variable_at (main_variables s.acts) i) node next s

-- The last operand becomes the value of a variable of main, and then goes.
abbrev pub set_main : ℕ → ℤ → List Act → List Act
set_main i v [] = []
set_main i v (a ∷ xs) = put_main (with_vars (main_of a xs) (slice_set (main_of a xs).vars i v)) (a ∷ xs)

abbrev pub popped : List Act → List Act
popped [] = []
popped (a ∷ xs) = (dropped a).0 ∷ xs

abbrev pub top_last : List Act → Option ℤ
top_last [] = None
top_last (a ∷ xs) = first a.ops

abbrev pub storing_main : ℕ → Option ℤ → ℕ → ℕ → State → State × Plan
storing_main i None node next s = (s, Fault BadCode node)
storing_main i (Some v) node next s =
    cond (nat_lt i (length (main_variables s.acts))) (state (popped (set_main i v s.acts)) next, Went) (s, Fault BadCode node)

unfoldable pub to_main : ℕ → ℕ → ℕ → State → State × Plan
to_main i node next s = storing_main i (top_last s.acts) node next s

-- The upper n operands, in the order in which they were pushed.
unfoldable pub args : ℕ → List ℤ → List ℤ
args zero ops = []
args (suc n) [] = []
args (suc n) (v ∷ ops) = args n ops ++ (v ∷ [])

abbrev pub has_result : Option Kind → Bool
has_result r = is_some r

-- A new activation: the arguments fill the first slots, the other variables start at 0.
abbrev pub fresh : Entry → ℕ → List ℤ → Act
fresh e back values = record { vars = values ++ replicate (e.variables - e.parameters) (pos 0); ops = []; gives = has_result e.result; back = back }

-- the entry word of a function, if the code has it
unfoldable pub entry_at : List ℕ → ℕ → Option Entry
entry_at code f = cond (nat_lt f (length code)) (entry_of (slice_index code f)) None

-- A call: bad code without an entry word or with too few operands, a fault of its own where 32 activations are open.
abbrev pub calling : Entry → ℕ → ℕ → ℕ → List Act → State × Plan
calling e node next p [] = (state [] p, Fault BadCode node)
calling e node next p (a ∷ xs) =
    cond (nat_lt (length a.ops) e.parameters) (state (a ∷ xs) p, Fault BadCode node)
    (cond (nat_lt (length (a ∷ xs)) 32)
    (state (fresh e next (args e.parameters a.ops) ∷ with_ops a (drop e.parameters a.ops) ∷ xs) e.address, Went)
    (state (a ∷ xs) p, Fault TooDeep node))

abbrev pub called_by : Option Entry → ℕ → ℕ → State → State × Plan
called_by None node next s = (s, Fault BadCode node)
called_by (Some e) node next s = calling e node next s.at s.acts

unfoldable pub called : List ℕ → ℕ → ℕ → ℕ → State → State × Plan
called code f node next s = called_by (entry_at code f) node next s

-- The newest activation closes without a result. Where its function has one, that is the fault of the given cause.
-- Main's activation stays, so that its variables can still be read.
abbrev pub leaving : Cause → ℕ → ℕ → List Act → State × Plan
leaving cause node p [] = (state [] p, Fault BadCode node)
leaving cause node p (a ∷ []) = (state (a ∷ []) p, Over)
leaving cause node p (a ∷ c ∷ cs) = cond a.gives (state (a ∷ c ∷ cs) p, Fault cause node) (state (c ∷ cs) a.back, Went)

unfoldable pub left : Cause → ℕ → State → State × Plan
left cause node s = leaving cause node s.at s.acts

-- It closes with a result, which becomes an operand of its caller: bad code in main, without a result to give, without
-- an operand, and where the caller has no cell free.
abbrev pub handing : ℕ → ℕ → Act → Act → List Act → Option ℤ → State × Plan
handing node p a c cs None = (state (a ∷ c ∷ cs) p, Fault BadCode node)
handing node p a c cs (Some v) = cond (nat_lt (size c) 64) (state (with_ops c (v ∷ c.ops) ∷ cs) a.back, Went) (state (a ∷ c ∷ cs) p, Fault BadCode node)

abbrev pub returning : ℕ → ℕ → List Act → State × Plan
returning node p [] = (state [] p, Fault BadCode node)
returning node p (a ∷ []) = (state (a ∷ []) p, Fault BadCode node)
returning node p (a ∷ c ∷ cs) = cond a.gives (handing node p a c cs (first a.ops)) (state (a ∷ c ∷ cs) p, Fault BadCode node)

unfoldable pub returned : ℕ → State → State × Plan
returned node s = returning node s.at s.acts

-- A read needs a free cell, a write an operand; what is left of them needs the line.
abbrev pub top_free : List Act → Bool
top_free [] = false
top_free (a ∷ xs) = nat_lt (size a) 64

abbrev pub to_read : Bool → Format → ℕ → ℕ → Plan
to_read true q node next = Read q node next
to_read false q node next = Fault BadCode node

abbrev pub to_send : Option ℤ → Format → ℕ → ℕ → Plan
to_send None q node next = Fault BadCode node
to_send (Some v) q node next = Send q v node next

-- One instruction, that of a node; the next word is at `next`.
abbrev pub run : Instruction → ℕ → ℕ → List ℕ → State → State × Plan
run (Constant k v) node next code s = settled (act_by (Constant k v)) node next s
run (Variable Own i) node next code s = settled (act_by (Variable Own i)) node next s
run (Variable Main i) node next code s = from_main i node next s
run Minus node next code s = settled (act_by Minus) node next s
run ByteNot node next code s = settled (act_by ByteNot) node next s
run (OfTwo o k) node next code s = settled (act_by (OfTwo o k)) node next s
run (Call f) node next code s = called code f node next s
run Shrink node next code s = settled (act_by Shrink) node next s
run (ReadAct q) node next code s = (s, to_read (top_free s.acts) q node next)
run (Compare o k sense t) node next code s = settled (act_by (Compare o k sense t)) node next s
run (Holds sense t) node next code s = settled (act_by (Holds sense t)) node next s
run (Assign Own i) node next code s = settled (act_by (Assign Own i)) node next s
run (Assign Main i) node next code s = to_main i node next s
run (Perform f) node next code s = called code f node next s
run (Goto j t) node next code s = settled (act_by (Goto j t)) node next s
run Exit node next code s = left BadCode node s
run Return node next code s = returned node s
run Close node next code s = left NoReturn node s
run (Write q) node next code s = (s, to_send (top_last s.acts) q node next)

abbrev pub run_by : Option Instruction → ℕ → ℕ → List ℕ → State → State × Plan
run_by None node next code s = (s, Fault BadCode node)
run_by (Some i) node next code s = run i node next code s

-- One word of a machine with main open.
unfoldable pub fetched : List ℕ → State → State × Plan
fetched code s =
    cond (nat_lt s.at (length code)) (run_by (instruction_of (slice_index code s.at)) (node_of (slice_index code s.at)) (s.at + 1) code s) (s, Fault BadCode 0)

-- Main's entry word: without a result, without parameters.
abbrev pub plain_entry : Option Entry → Option Entry
plain_entry None = None
plain_entry (Some e) = cond (has_result e.result) None (cond (e.parameters == 0) (Some e) None)

unfoldable pub main_entry : List ℕ → Option Entry
main_entry code = plain_entry (entry_at code 0)

abbrev pub opened : Entry → State
opened e = state (fresh e 0 [] ∷ []) e.address

abbrev pub begun : List ℕ → State → Option Entry → State × Plan
begun code s None = (s, Fault BadCode 0)
begun code s (Some e) = fetched code (opened e)

abbrev pub advancing : List ℕ → State → List Act → State × Plan
advancing code s [] = begun code s (main_entry code)
advancing code s (a ∷ xs) = fetched code s

-- A step, as far as no line is needed: the first one opens main.
unfoldable pub advanced : List ℕ → State → State × Plan
advanced code s = advancing code s s.acts

-- A machine with the opening of main taken back, if main was opened: the address is the one from before.
abbrev pub undone : Option ℕ → State → State
undone None s = s
undone (Some at) s = state [] at
