-- Small programs with what the check tells of their tables and what is reported of their runs, worked out by hand.
use Rattle.std.specs.Prelude.{◌≡◌, ℕ, pred, ◌+◌, List, [], ◌∷◌, ◌++◌, length, pos, Some, None, Ok, Err, codes, Option}
use Prim.Native.String.{String}
use Rattle.std.specs.List.{AllByRecursion}
use Rattle.table.specs.declared.shape.Kind.{Kind}
use Rattle.table.specs.declared.shape.Kind.TheVariants.{Int, Byte}
use Rattle.table.specs.declared.shape.Scope.TheVariants.{Own, Main}
use Rattle.table.specs.declared.shape.Format.TheVariants.{Integer, Byte as ByteText, Char}
use Rattle.table.specs.declared.shape.Unary.TheVariants.{Plus, Minus, ByteNot, Extend, Shrink}
use Rattle.table.specs.declared.shape.Binary.{Binary}
use Rattle.table.specs.declared.shape.Binary.TheVariants.{Add, Sub, Mul, Div, Rem, ByteAnd, ByteOr}
use Rattle.table.specs.declared.shape.Comparison.{Comparison}
use Rattle.table.specs.declared.shape.Comparison.TheVariants.{Equal, Unequal, Less, Greater, AtMost, AtLeast}
use Rattle.table.specs.declared.shape.Junction.{Junction}
use Rattle.table.specs.declared.shape.Junction.TheVariants.{And, Or}
use Rattle.language.specs.Tree.{Expr, constant, variable, unary, binary, call, read, none, more, compare, negate, join, holds, Stmt, skip, assign, perform, if, if_else, loop, break, continue, exit, return, write, block, Stmts, done, next, Function, Program}
use Rattle.language.specs.State.{took, sent, Report, running, waits, ended, fault, ◌▷◌}
use Rattle.language.specs.Meaning.{meaning, start}
use Rattle.language.specs.Listing.{list_p}
use Rattle.language.specs.Layout.{layout}
use Rattle.walk.specs.Walk.{Answer}
use Rattle.walk.specs.Bodies.{checked}
use Rattle.walk.specs.Faults.{told}
use Rattle.walk.specs.declared.found.Passed.{Passed}

-- A program that passes: the words of its translation, the bytes fed to it and the room; a number of node entries,
-- what is reported within them, and what within one fewer.
pub record Run : Type 0 where
  pub program : Program
  pub words : ℕ
  pub fed : List ℕ
  pub room : ℕ
  pub entries : ℕ
  pub expected : Report
  pub before : Report

-- What is reported of its program within n entries.
abbrev pub reported : Run → ℕ → Report
reported c n = meaning c.program (start c.program c.fed c.room) n

-- What the check tells of its program's table.
abbrev pub passed_as : Run → Answer Passed
passed_as c = Ok (record { functions = length c.program; nodes = length (list_p c.program); words = c.words })

pub record RunHolds (c : Run) : Type 0 where
  pub passes : checked (layout c.program) ≡ passed_as c
  pub within : reported c c.entries ≡ c.expected
  pub earlier : reported c (pred c.entries) ≡ c.before

-- A program whose table is refused, with the refusal's number and place, or one that runs.
pub data Case : Type 0 where
  refused : Program → ℕ → ℕ → Case
  runs : Run → Case

abbrev pub told_by : Answer Passed → Option (ℕ × ℕ)
told_by (Ok p) = None
told_by (Err e) = Some (told e)

abbrev pub Holds : Case → Type 0
Holds (refused P number place) = told_by (checked (layout P)) ≡ Some (number, place)
Holds (runs c) = RunHolds c

-- Statements in a row.
abbrev one : Stmt → Stmts
one a = next a done

abbrev two : Stmt → Stmt → Stmts
two a b = next a (one b)

abbrev three : Stmt → Stmt → Stmt → Stmts
three a b c = next a (two b c)

-- Main with variables of these kinds.
abbrev main_with : List Kind → Stmts → Function
main_with kinds ss = record { signature = record { result = None; parameters = 0; variables = kinds }; body = block 0 ss }

abbrev only : Stmts → Program
only ss = main_with [] ss ∷ []

abbrev int : ℕ → ℕ → Expr
int p v = constant p Int v

abbrev byte : ℕ → ℕ → Expr
byte p v = constant p Byte v

-- A main that writes one value.
abbrev writes : Expr → Program
writes e = only (one (write 1 Integer e))

abbrev writes_byte : Expr → Program
writes_byte e = only (one (write 1 ByteText e))

-- A block with one skip.
abbrev pub smallest : Program
smallest = only (one (skip 1))

-- writeInteger: -7
abbrev pub minus_seven : Program
minus_seven = writes (unary 2 Minus (int 3 7))

-- if 0 = 0 or (and) 1 / 0 = 1: writeInteger: 5
abbrev pub guarded : Junction → Program
guarded j =
    only (one (if 1 (join 2 j (compare 3 Equal Int (int 4 0) (int 5 0)) (compare 6 Equal Int (binary 7 Div Int (int 8 1) (int 9 0)) (int 10 1)))
    (block 11 (one (write 12 Integer (int 13 5))))))

-- Loop 1 holds loop 2, which holds a break of that name
abbrev pub nested : ℕ → Program
nested x = only (one (loop 1 1 (block 2 (one (loop 3 2 (block 4 (one (break 5 x))))))))

-- A loop without name, round by round: count up; below 3 continue; break.
abbrev counting : Program
counting =
    main_with (Int ∷ [])
    (one (loop 1 0 (block 2 (three
    (assign 3 Own 0 Int (binary 4 Add Int (variable 5 Own 0 Int) (int 6 1)))
    (if 7 (compare 8 Less Int (variable 9 Own 0 Int) (int 10 3)) (block 11 (one (continue 12 0))))
    (break 13 0)))))
    ∷ []

-- Loop 1 holds an unnamed loop, which continues loop 1 the first time and then breaks itself; loop 1 breaks behind it.
abbrev outer : Program
outer =
    main_with (Byte ∷ [])
    (one (loop 1 1 (block 2 (two
    (loop 3 0 (block 4 (three
    (if 5 (holds 6 (variable 7 Own 0 Byte)) (block 8 (one (break 9 0))))
    (assign 10 Own 0 Byte (byte 11 1))
    (continue 12 1))))
    (break 13 1)))))
    ∷ []

-- if not 0 = 1: writeChar: 'A' else: writeChar: 'B'
abbrev denied : Program
denied =
    only (one (if_else 1 (negate 2 (compare 3 Equal Int (int 4 0) (int 5 1)))
    (block 6 (one (write 7 Char (byte 8 65)))) (block 9 (one (write 10 Char (byte 11 66))))))

-- Writes the first of two chars less the second.
abbrev apart : Program
apart = writes_byte (binary 2 Sub Byte (read 3 Char) (read 4 Char))

-- Writes an integer that it has read.
abbrev echoes : Program
echoes = writes (read 2 Integer)

abbrev echoes_byte : Program
echoes_byte = writes_byte (read 2 ByteText)

-- if readChar < readChar: writeChar: 'Y'
abbrev ordered : Program
ordered = only (one (if 1 (compare 2 Less Byte (read 3 Char) (read 4 Char)) (block 5 (one (write 6 Char (byte 7 89))))))

-- Loop 1 holds another loop 1: a break means the inner one.
abbrev shadowed : Program
shadowed = only (one (loop 1 1 (block 2 (three (loop 3 1 (block 4 (one (break 5 1)))) (write 6 Char (byte 7 89)) (exit 8)))))

-- Function 1 gives its first parameter less its second, plus its third variable, which starts at 0.
abbrev calling : Program
calling =
    main_with [] (one (write 1 ByteText (call 2 1 Byte (more (read 3 Char) (more (read 4 Char) none)))))
    ∷ record {
      signature = record { result = Some Byte; parameters = 2; variables = Byte ∷ Byte ∷ Byte ∷ [] };
      body = block 5 (one (return 6 (binary 7 Add Byte (binary 8 Sub Byte (variable 9 Own 0 Byte) (variable 10 Own 1 Byte)) (variable 11 Own 2 Byte))));
    }
    ∷ []

-- Main adds its variable, as it was, to what function 1 returns after it has set that variable to 7.
abbrev kept : Program
kept =
    main_with (Int ∷ []) (one (write 1 Integer (binary 2 Add Int (variable 3 Own 0 Int) (call 4 1 Int none))))
    ∷ record {
      signature = record { result = Some Int; parameters = 0; variables = [] };
      body = block 5 (two (assign 6 Main 0 Int (int 7 7)) (return 8 (int 9 1)));
    }
    ∷ []

-- Function 1 sets main's variable and comes to its end.
abbrev falling : Program
falling =
    main_with (Int ∷ []) (one (perform 1 1 none))
    ∷ record { signature = record { result = None; parameters = 0; variables = [] }; body = block 2 (one (assign 3 Main 0 Int (int 4 7))) }
    ∷ []

-- Function 1 sets main's variable to its parameter and exits; main then exits before it divides by 0.
abbrev leaving : Program
leaving =
    main_with (Int ∷ Int ∷ [])
    (three (perform 1 1 (more (int 2 5) none)) (exit 3) (assign 4 Own 0 Int (binary 5 Rem Int (int 6 1) (int 7 0))))
    ∷ record {
      signature = record { result = None; parameters = 1; variables = Int ∷ [] };
      body = block 8 (three (assign 9 Main 1 Int (variable 10 Own 0 Int)) (exit 11) (assign 12 Main 0 Int (int 13 1)));
    }
    ∷ []

-- Function 1 calls itself for ever.
abbrev deep : Program
deep =
    main_with [] (one (perform 1 1 none))
    ∷ record { signature = record { result = None; parameters = 0; variables = [] }; body = block 2 (one (perform 3 1 none)) }
    ∷ []

-- Function 1 has a result, and does not return one.
abbrev silent : Program
silent =
    main_with (Int ∷ []) (one (assign 1 Own 0 Int (call 2 1 Int none)))
    ∷ record { signature = record { result = Some Int; parameters = 0; variables = [] }; body = block 3 (one (skip 4)) }
    ∷ []

-- Writes 1 where a comparison of two numbers holds, and 0 where it fails.
abbrev tells : ℕ → Comparison → ℕ → ℕ → Stmt
tells p o a b =
    if_else p (compare (p + 1) o Int (int (p + 2) a) (int (p + 3) b))
    (block (p + 4) (one (write (p + 5) Integer (int (p + 6) 1))))
    (block (p + 7) (one (write (p + 8) Integer (int (p + 9) 0))))

abbrev compared : Comparison → Program
compared o = only (three (tells 1 o 1 2) (tells 11 o 2 2) (tells 21 o 3 2))

-- The texts that three writes send, one after the other.
abbrev sends : String → String → String → Report
sends a b c = sent (codes a) ▷ sent (codes b) ▷ sent (codes c) ▷ ended []

-- A line of text.
abbrev line_of : String → List ℕ
line_of text = codes text ++ (10 ∷ [])

-- int's lowest number, which no constant writes: 32767 + 1
abbrev lowest : ℕ → Expr
lowest p = binary p Add Int (int (p + 1) 32767) (int (p + 2) 1)

abbrev minus_one : ℕ → Expr
minus_one p = unary p Minus (int (p + 1) 1)

-- the lowest number and -1, divided
abbrev on_lowest : Binary → Program
on_lowest o = writes (binary 2 o Int (lowest 3) (minus_one 6))

-- A program that writes one integer or byte, without reading.
abbrev value_case : Program → ℕ → ℕ → String → Case
value_case P words n text =
    runs (record { program = P; words = words; fed = []; room = 10; entries = n; expected = sent (codes text) ▷ ended []; before = running })

-- A program that writes what it has read, with the text fed to it.
abbrev read_case : Program → List ℕ → Report → Case
read_case P text r = runs (record { program = P; words = 4; fed = text; room = 10; entries = 3; expected = r; before = running })

abbrev pub cases : List Case
cases =
    runs (record { program = smallest; words = 2; fed = []; room = 0; entries = 2; expected = ended []; before = running })
    ∷ runs (record { program = minus_seven; words = 5; fed = []; room = 2; entries = 4; expected = sent (codes "-7") ▷ ended []; before = running })
    ∷ runs (record { program = minus_seven; words = 5; fed = []; room = 1; entries = 4; expected = fault 65 1 []; before = running })
    ∷ runs (record { program = guarded Or; words = 12; fed = []; room = 10; entries = 9; expected = sent (codes "5") ▷ ended []; before = running })
    ∷ runs (record { program = guarded And; words = 12; fed = []; room = 10; entries = 10; expected = fault 61 7 []; before = running })
    ∷ runs (record { program = nested 1; words = 5; fed = []; room = 0; entries = 6; expected = ended []; before = running })
    ∷ refused (nested 3) 17 5
    ∷ runs (record { program = counting; words = 12; fed = []; room = 0; entries = 34; expected = ended (pos 3 ∷ []); before = running })
    ∷ runs (record { program = outer; words = 11; fed = []; room = 0; entries = 20; expected = ended (pos 1 ∷ []); before = running })
    ∷ runs (record { program = denied; words = 10; fed = []; room = 1; entries = 9; expected = sent (codes "A") ▷ ended []; before = running })
    ∷ runs (record { program = apart; words = 6; fed = codes "BAC"; room = 1; entries = 5; expected = took (codes "B") ▷ took (codes "A") ▷ sent (codes "1") ▷ ended []; before = took (codes "B") ▷ running })
    ∷ runs (record { program = apart; words = 6; fed = codes "B"; room = 1; entries = 5; expected = took (codes "B") ▷ waits; before = took (codes "B") ▷ running })
    ∷ runs (record { program = ordered; words = 7; fed = codes "AB"; room = 1; entries = 8; expected = took (codes "A") ▷ took (codes "B") ▷ sent (codes "Y") ▷ ended []; before = took (codes "A") ▷ took (codes "B") ▷ running })
    ∷ runs (record { program = shadowed; words = 8; fed = []; room = 1; entries = 9; expected = sent (codes "Y") ▷ ended []; before = sent (codes "Y") ▷ running })
    ∷ runs (record { program = calling; words = 14; fed = codes "FA"; room = 1; entries = 12; expected = took (codes "F") ▷ took (codes "A") ▷ sent (codes "5") ▷ ended []; before = took (codes "F") ▷ took (codes "A") ▷ running })
    ∷ runs (record { program = kept; words = 12; fed = []; room = 1; entries = 10; expected = sent (codes "1") ▷ ended (pos 7 ∷ []); before = running })
    ∷ runs (record { program = falling; words = 7; fed = []; room = 0; entries = 5; expected = ended (pos 7 ∷ []); before = running })
    ∷ runs (record { program = leaving; words = 16; fed = []; room = 0; entries = 8; expected = ended (pos 0 ∷ pos 5 ∷ []); before = running })
    ∷ runs (record { program = deep; words = 6; fed = []; room = 0; entries = 64; expected = fault 62 3 []; before = running })
    ∷ runs (record { program = silent; words = 6; fed = []; room = 0; entries = 5; expected = fault 63 3 (pos 0 ∷ []); before = running })
    ∷ runs (record { program = compared Equal; words = 26; fed = []; room = 3; entries = 22; expected = sends "0" "1" "0"; before = sent (codes "0") ▷ sent (codes "1") ▷ running })
    ∷ runs (record { program = compared Unequal; words = 26; fed = []; room = 3; entries = 22; expected = sends "1" "0" "1"; before = sent (codes "1") ▷ sent (codes "0") ▷ running })
    ∷ runs (record { program = compared Less; words = 26; fed = []; room = 3; entries = 22; expected = sends "1" "0" "0"; before = sent (codes "1") ▷ sent (codes "0") ▷ running })
    ∷ runs (record { program = compared Greater; words = 26; fed = []; room = 3; entries = 22; expected = sends "0" "0" "1"; before = sent (codes "0") ▷ sent (codes "0") ▷ running })
    ∷ runs (record { program = compared AtMost; words = 26; fed = []; room = 3; entries = 22; expected = sends "1" "1" "0"; before = sent (codes "1") ▷ sent (codes "1") ▷ running })
    ∷ runs (record { program = compared AtLeast; words = 26; fed = []; room = 3; entries = 22; expected = sends "0" "1" "1"; before = sent (codes "0") ▷ sent (codes "1") ▷ running })
    ∷ runs (record { program = compared Equal; words = 26; fed = []; room = 2; entries = 22; expected = sent (codes "0") ▷ sent (codes "1") ▷ fault 65 29 []; before = sent (codes "0") ▷ sent (codes "1") ▷ running })
    ∷ value_case (writes (lowest 2)) 6 5 "-32768"
    ∷ value_case (writes (binary 2 Div Int (unary 3 Minus (int 4 7)) (int 5 2))) 7 6 "-3"
    ∷ value_case (writes (binary 2 Rem Int (unary 3 Minus (int 4 7)) (int 5 2))) 7 6 "-1"
    ∷ value_case (writes (binary 2 Mul Int (int 3 300) (int 4 300))) 6 5 "24464"
    ∷ value_case (on_lowest Div) 9 8 "-32768"
    ∷ value_case (on_lowest Rem) 9 8 "0"
    ∷ value_case (writes (unary 2 Minus (lowest 3))) 7 6 "-32768"
    ∷ value_case (writes (unary 2 Plus (minus_one 3))) 5 5 "-1"
    ∷ value_case (writes_byte (binary 2 Add Byte (byte 3 250) (byte 4 10))) 6 5 "4"
    ∷ value_case (writes_byte (binary 2 Sub Byte (byte 3 3) (byte 4 5))) 6 5 "254"
    ∷ value_case (writes_byte (unary 2 Shrink (minus_one 3))) 6 5 "255"
    ∷ value_case (writes (unary 2 Extend (byte 3 255))) 4 4 "255"
    ∷ value_case (writes_byte (binary 2 ByteAnd Byte (byte 3 2) (byte 4 4))) 6 5 "1"
    ∷ value_case (writes_byte (binary 2 ByteOr Byte (byte 3 0) (byte 4 4))) 6 5 "1"
    ∷ value_case (writes_byte (unary 2 ByteNot (byte 3 7))) 5 4 "0"
    ∷ read_case echoes (line_of "0042" ++ codes "5") (took (line_of "0042") ▷ sent (codes "42") ▷ ended [])
    ∷ read_case echoes (line_of "32767") (took (line_of "32767") ▷ sent (codes "32767") ▷ ended [])
    ∷ read_case echoes (line_of "32768") (fault 64 2 [])
    ∷ read_case echoes (line_of "") (fault 64 2 [])
    ∷ read_case echoes (line_of "-1") (fault 64 2 [])
    ∷ read_case echoes (codes "0000000") waits
    ∷ read_case echoes (codes "00000000") (fault 64 2 [])
    ∷ read_case echoes_byte (line_of "255") (took (line_of "255") ▷ sent (codes "255") ▷ ended [])
    ∷ read_case echoes_byte (line_of "256") (fault 64 2 [])
    ∷ []

-- All of them come out as written.
abbrev pub WorkedCases : Type 0
WorkedCases = AllByRecursion Holds cases
