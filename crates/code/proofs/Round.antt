-- An instruction and its fields determine each other.
use Rattle.std.proofs.Common.{◌≡◌, ℕ, ◌<◌, true, ◌&&◌, eqb, leb, Some, None, Option, sym, refl, ◌∙◌, arith}
use Rattle.std.proofs.lemmas.Bool.Decides.{nat_tests}
use Rattle.table.specs.Numbers.{scope_of, format_of}
use Rattle.table.proofs.Cases.{either, unmapped}
use Rattle.table.specs.declared.shape.Kind.TheVariants.{Int, Byte}
use Rattle.table.specs.declared.shape.Binary.TheVariants.{Add, Sub, Mul, Div, Rem, ByteAnd, ByteOr}
use Rattle.table.specs.declared.shape.Comparison.TheVariants.{Equal, Unequal, Less, Greater, AtMost, AtLeast}
use Rattle.code.specs.Fields.{op_of, aux_of, node_of, operand_of, packed}
use Rattle.code.specs.Word.{op_for, aux_for, operand_for, word_of, sense_of, constant_of, binary_of, compare_of, bare_of, plain_of, ranged_of, instruction_from, instruction_of, InstructionFits, ReadAgain, WrittenAgain}
use Rattle.code.specs.declared.instruction.Jump.TheVariants.{Else, Loop, Break, Continue}
use Rattle.code.specs.declared.instruction.Instruction.{Instruction}
use Rattle.code.specs.declared.instruction.Instruction.TheVariants.{Constant, Variable, Minus, ByteNot, Binary as OfTwo, Call, Shrink, Read, Compare, Holds, Assign, Perform, Jump as Goto, Exit, Return, Close, Write}
use Rattle.code.proofs.Packed.{repacked, op_back, aux_back, node_back, operand_back}

-- the fields are those of the instruction, whose numbers are in range
pub record Fields (k a o : ℕ) (i : Instruction) : Type 0 where
  pub op : k ≡ op_for i
  pub aux : a ≡ aux_for i
  pub operand : o ≡ operand_for i
  pub fits : InstructionFits i

is : (k n : ℕ) → eqb k n ≡ true → k ≡ n
is k n h = grind (arith, nat_tests)

binary_back : (k a : ℕ) (i : Instruction) → binary_of k a ≡ Some i → Fields k a 0 i
binary_back k a i h = record { op = grind (arith, nat_tests); aux = grind (arith, nat_tests); operand = grind (arith, nat_tests); fits = grind (arith, nat_tests) }

compare_back : (k a o : ℕ) (i : Instruction) → o < 4294967296 → compare_of k a o ≡ Some i → Fields k a o i
compare_back k a o i l h =
    record { op = grind (arith, nat_tests); aux = grind (arith, nat_tests); operand = grind (arith, nat_tests); fits = grind (arith, nat_tests) }

bare_back : (k : ℕ) (i : Instruction) → bare_of k ≡ Some i → Fields k 0 0 i
bare_back k i h = record { op = grind (arith, nat_tests); aux = grind (arith, nat_tests); operand = grind (arith, nat_tests); fits = grind (arith, nat_tests) }

plain_back : (k o : ℕ) (i : Instruction) → o < 4294967296 → plain_of k o ≡ Some i → Fields k 0 o i
plain_back k o i l h = record { op = grind (arith, nat_tests); aux = grind (arith, nat_tests); operand = grind (arith, nat_tests); fits = grind (arith, nat_tests) }

constant_back : (a o : ℕ) (i : Instruction) → constant_of a o ≡ Some i → Fields 1 a o i
constant_back a o i h = record { op = grind (arith, nat_tests); aux = grind (arith, nat_tests); operand = grind (arith, nat_tests); fits = grind (arith, nat_tests) }

ranged_back : (k a o : ℕ) (i : Instruction) → o < 4294967296 → ranged_of k a o ≡ Some i → Fields k a o i
ranged_back k a o i l =
    either (leb 6 k && leb k 12) _ _ i
    (λ _. either (eqb o 0) _ _ i (λ z h. rw (is o 0 z) (binary_back k a i h)) (λ _ h. absurd (grind arith)))
    (λ _. either (leb 20 k && leb k 25) _ _ i (λ _. compare_back k a o i l)
    (λ _. either (eqb a 0) _ _ i (λ z h. rw (is a 0 z) (plain_back k o i l h)) (λ _ h. absurd (grind arith))))

fields_back : (k a o : ℕ) (i : Instruction) → o < 4294967296 → instruction_from k a o ≡ Some i → Fields k a o i
fields_back k a o i l =
    either (eqb k 1) _ _ i (λ z h. rw (is k 1 z) (constant_back a o i h))
    (λ _. either (eqb k 2) _ _ i
    (λ z. unmapped (λ s. Variable s o) (scope_of a) i (λ s f g. rw (← g) record { op = is k 2 z; aux = grind (arith, nat_tests); operand = refl; fits = l }))
    (λ _. either (eqb k 16) _ _ i
    (λ z. either (eqb o 0) _ _ i
    (λ y. unmapped Read (format_of a) i (λ q f g. rw (← g) record { op = is k 16 z; aux = grind (arith, nat_tests); operand = is o 0 y; fits = tt }))
    (λ _ h. absurd (grind arith)))
    (λ _. either (eqb k 29) _ _ i
    (λ z. unmapped (λ s. Holds s o) (sense_of a) i (λ s f g. rw (← g) record { op = is k 29 z; aux = grind (arith, nat_tests); operand = refl; fits = l }))
    (λ _. either (eqb k 33) _ _ i
    (λ z. unmapped (λ s. Assign s o) (scope_of a) i (λ s f g. rw (← g) record { op = is k 33 z; aux = grind (arith, nat_tests); operand = refl; fits = l }))
    (λ _. either (eqb k 42) _ _ i
    (λ z. either (eqb o 0) _ _ i
    (λ y. unmapped Write (format_of a) i (λ q f g. rw (← g) record { op = is k 42 z; aux = grind (arith, nat_tests); operand = is o 0 y; fits = tt }))
    (λ _ h. absurd (grind arith)))
    (λ _. ranged_back k a o i l))))))

pub written_again : (w : ℕ) (r : Option Instruction) → r ≡ instruction_of w → WrittenAgain w r
unfolding instruction_of word_of
written_again w None h = tt
written_again w (Some i) h =
    let f = fields_back (op_of w) (aux_of w) (operand_of w) i (omega arith) (sym h) in
    let e : packed (op_for i) (aux_for i) (node_of w) (operand_for i) ≡ packed (op_of w) (aux_of w) (node_of w) (operand_of w) = rw (f.op, f.aux, f.operand) refl in
    (f.fits, e ∙ repacked w)

-- the fields of an instruction are read as that instruction
from_fields : (i : Instruction) → InstructionFits i → instruction_from (op_for i) (aux_for i) (operand_for i) ≡ Some i
from_fields (Constant k v) f = grind (arith, nat_tests)
from_fields (Variable s x) f = grind (arith, nat_tests)
from_fields Minus f = refl
from_fields ByteNot f = refl
from_fields (OfTwo Add k) f = grind (arith, nat_tests)
from_fields (OfTwo Sub k) f = grind (arith, nat_tests)
from_fields (OfTwo Mul k) f = grind (arith, nat_tests)
from_fields (OfTwo Div k) f = grind (arith, nat_tests)
from_fields (OfTwo Rem k) f = grind (arith, nat_tests)
from_fields (OfTwo ByteAnd Int) f = absurd f
from_fields (OfTwo ByteAnd Byte) f = refl
from_fields (OfTwo ByteOr Int) f = absurd f
from_fields (OfTwo ByteOr Byte) f = refl
from_fields (Call g) f = refl
from_fields Shrink f = refl
from_fields (Read q) f = grind (arith, nat_tests)
from_fields (Compare Equal k s t) f = grind (arith, nat_tests)
from_fields (Compare Unequal k s t) f = grind (arith, nat_tests)
from_fields (Compare Less k s t) f = grind (arith, nat_tests)
from_fields (Compare Greater k s t) f = grind (arith, nat_tests)
from_fields (Compare AtMost k s t) f = grind (arith, nat_tests)
from_fields (Compare AtLeast k s t) f = grind (arith, nat_tests)
from_fields (Holds s t) f = grind (arith, nat_tests)
from_fields (Assign s x) f = grind (arith, nat_tests)
from_fields (Perform g) f = refl
from_fields (Goto Else t) f = refl
from_fields (Goto Loop t) f = refl
from_fields (Goto Break t) f = refl
from_fields (Goto Continue t) f = refl
from_fields Exit f = refl
from_fields Return f = refl
from_fields Close f = refl
from_fields (Write q) f = grind (arith, nat_tests)

-- an instruction's op and aux, and its operand where its numbers are in range, fit their fields
aux-small : (i : Instruction) → aux_for i < 256
aux-small i = grind arith

operand_small : (i : Instruction) → InstructionFits i → operand_for i < 4294967296
operand_small i f = grind arith

pub read_again : (i : Instruction) (p w : ℕ) → p < 65536 → w ≡ word_of i p → ReadAgain i p w
unfolding instruction_of word_of
read_again i p w n e f =
    let a = aux-small i in
    let o = operand_small i f in
    let k = op_back (op_for i) (aux_for i) p (operand_for i) a n o in
    let b = aux_back (op_for i) (aux_for i) p (operand_for i) a n o in
    let q = node_back (op_for i) (aux_for i) p (operand_for i) a n o in
    let m = operand_back (op_for i) (aux_for i) p (operand_for i) a n o in
    rw e (rw (k, b, m) (from_fields i f), q)
