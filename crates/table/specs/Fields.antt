-- What the bytes of a table say, field by field, most significant bit first.
use Rattle.std.specs.Prelude.{ℕ, zero, suc, ◌+◌, ◌-◌, ◌*◌, ◌/◌, ◌%◌, ◌^◌, Bool, true, false, cond, ◌&&◌, List, map, length, Some, None, Ok, Err, Option, Result, ◌==◌, nat_le, nat_lt, slice_index}
use Rattle.std.specs.List.{range_with_len}
use Rattle.table.specs.Flow.{onward}
-- result fields
pub use Rattle.table.specs.Numbers.{result_of}
use Rattle.table.specs.declared.record.Header.{Header}
use Rattle.table.specs.declared.record.Function.{Function}
use Rattle.table.specs.declared.record.Node.{Node}
use Rattle.table.specs.declared.record.TableFault.{TableFault}
use Rattle.table.specs.declared.record.TableFault.TheVariants.{Length, Version, Counts, Record}
use Rattle.table.specs.declared.shape.Kind.{Kind}
use Rattle.table.specs.declared.shape.Kind.TheVariants.{Int, Byte}

abbrev pub byte_at : List ℕ → ℕ → ℕ
byte_at bs i = slice_index bs i

-- The header, three bytes: version (4 bits), functions (6), nodes (14).
abbrev pub version : List ℕ → ℕ
version bs = byte_at bs 0 / 16

abbrev pub function_count : List ℕ → ℕ
function_count bs = byte_at bs 0 % 16 * 4 + byte_at bs 1 / 64

abbrev pub node_count : List ℕ → ℕ
node_count bs = byte_at bs 1 % 64 * 256 + byte_at bs 2

-- 1 to 32 functions and 1 to 8,192 nodes
abbrev pub counts_hold : ℕ → ℕ → Bool
counts_hold f n = (nat_lt 0 f && nat_le f 32) && (nat_lt 0 n && nat_le n 8192)

abbrev pub table_length : ℕ → ℕ → ℕ
table_length f n = 3 + 6 * f + 3 * n

-- the header, if the first of its rules that is broken does not refuse the table
abbrev pub header_of : List ℕ → Result Header TableFault
header_of bs =
    cond (nat_lt (length bs) 3) (Err (Length (length bs)))
    (cond (version bs == 1)
    (cond (counts_hold (function_count bs) (node_count bs))
    (cond (length bs == table_length (function_count bs) (node_count bs))
    (Ok (record { functions = function_count bs; nodes = node_count bs }))
    (Err (Length (length bs)))) (Err Counts)) (Err Version))

-- A function record, six bytes from place p on: result (2 bits), parameters (4), variables (6), four zero bits, and 32 bits of kinds.
abbrev pub record_place : ℕ → ℕ
record_place f = 3 + 6 * f

abbrev pub result_field : List ℕ → ℕ → ℕ
result_field bs p = byte_at bs p / 64

abbrev pub parameter_field : List ℕ → ℕ → ℕ
parameter_field bs p = byte_at bs p / 4 % 16

abbrev pub variable_field : List ℕ → ℕ → ℕ
variable_field bs p = byte_at bs p % 4 * 16 + byte_at bs (p + 1) / 16

abbrev pub spare_field : List ℕ → ℕ → ℕ
spare_field bs p = byte_at bs (p + 1) % 16

abbrev pub kinds_field : List ℕ → ℕ → ℕ
kinds_field bs p = byte_at bs (p + 2) * 2 ^ 24 + byte_at bs (p + 3) * 2 ^ 16 + byte_at bs (p + 4) * 2 ^ 8 + byte_at bs (p + 5)

-- at most 8 parameters, at most 32 variables, the parameters among them; the spare bits and the kinds past the last variable are 0
abbrev pub record_fits : ℕ → ℕ → ℕ → ℕ → Bool
record_fits parameters variables spare kinds =
    nat_le parameters 8 && (nat_le variables 32 && (nat_le parameters variables && (spare == 0 && kinds % 2 ^ (32 - variables) == 0)))

abbrev pub with_result : Option (Option Kind) → ℕ → ℕ → ℕ → Option Function
with_result None p n k = None
with_result (Some r) p n k = Some (record { result = r; parameters = p; variables = n; kinds = k })

-- a function by its five fields, or none if they are broken
abbrev pub function_from : ℕ → ℕ → ℕ → ℕ → ℕ → Option Function
function_from result parameters variables spare kinds =
    cond (record_fits parameters variables spare kinds) (with_result (result_of result) parameters variables kinds) None

-- function f's record, or none if it is broken
unfoldable pub function_at : List ℕ → ℕ → Option Function
function_at bs f =
    function_from (result_field bs (record_place f)) (parameter_field bs (record_place f)) (variable_field bs (record_place f))
    (spare_field bs (record_place f)) (kinds_field bs (record_place f))

-- main has no result and no parameters
abbrev pub is_plain : Option Kind → ℕ → Bool
is_plain None parameters = parameters == 0
is_plain (Some k) parameters = false

abbrev pub record_holds : ℕ → Option Function → Bool
record_holds f None = false
record_holds f (Some r) = cond (f == 0) (is_plain r.result r.parameters) true

-- the first broken record among n from function f on
abbrev pub first_broken : List ℕ → ℕ → ℕ → Option ℕ
first_broken bs zero f = None
first_broken bs (suc n) f = cond (record_holds f (function_at bs f)) (first_broken bs n (f + 1)) (Some f)

abbrev pub judged : Header → Option ℕ → Result Header TableFault
judged h None = Ok h
judged h (Some f) = Err (Record f)

-- header and function records, by their rules in order
abbrev pub layout_of : List ℕ → Result Header TableFault
layout_of bs = onward (header_of bs) (λ h. judged h (first_broken bs h.functions 0))

-- The kinds of a function's variables, from slot 0 on: 0 is int, 1 is byte.
abbrev pub kind_bit : ℕ → ℕ → Kind
kind_bit kinds slot = cond (kinds / 2 ^ (31 - slot) % 2 == 0) Int Byte

abbrev pub variables_of : Function → List Kind
variables_of f = map (kind_bit f.kinds) (range_with_len 0 f.variables)

-- A node record, three bytes from place p on: kind (6 bits), aux (2), operand (16).
abbrev pub node_in : List ℕ → ℕ → Node
node_in bs p = record { kind = byte_at bs p / 4; aux = byte_at bs p % 4; operand = byte_at bs (p + 1) * 256 + byte_at bs (p + 2) }
