-- The check of a whole table.
use Rattle.std.specs.Prelude.{ℕ, zero, suc, ◌+◌, cond, List, [], None, Ok, Err, Option, Result, ◌==◌, nat_le, nat_lt}
use Rattle.std.specs.Option.{ok_or}
use Rattle.table.specs.Flow.{onward, mapped}
use Rattle.table.specs.Fields.{layout_of, variables_of}
use Rattle.table.specs.View.{View, function_of}
use Rattle.table.specs.declared.record.Header.{Header}
use Rattle.table.specs.declared.record.Function.{Function}
use Rattle.table.specs.declared.record.TableFault.{TableFault}
use Rattle.table.specs.declared.record.TableFault.TheVariants.{Record}
use Rattle.language.specs.Tree.{Signature}
use Rattle.language.specs.Rules.{Env}
use Rattle.walk.specs.Walk.{Answer, block_from}
use Rattle.walk.specs.declared.fault.CheckFault.TheVariants.{Table, NoNode, Height}
use Rattle.walk.specs.declared.found.Size.{Size}
use Rattle.walk.specs.declared.found.Context.{Context}
use Rattle.walk.specs.declared.found.Passed.{Passed}

abbrev pub signature_of : Function → Signature
signature_of f = record { result = f.result; parameters = f.parameters; variables = variables_of f }

abbrev pub signature_in : View → ℕ → Option Signature
signature_in v f = mapped signature_of (function_of v f)

-- what the nodes of a function may refer to
abbrev pub env_of : View → Context → Env
env_of v c = record { own = signature_of c.own; main = mapped signature_of c.main; functions = signature_in v }

-- function f's own record, and main's where that is another
abbrev pub context_at : View → ℕ → Answer Context
context_at v f =
    onward (ok_or (function_of v f) (Table (Record f))) (λ own. Ok (record { own = own; main = cond (f == 0) None (function_of v 0) }))

-- shut, since 128 levels would all be computed
unfoldable pub body_from : View → Env → ℕ → Answer (Size × ℕ)
body_from v e i = block_from v e 128 [] i

-- a body is done: its function's variables and its height are together at most 64; it adds a closing word
abbrev pub closed : Context → ℕ → ℕ → Size × ℕ → Answer (ℕ × ℕ)
closed c i words p = cond (nat_le (c.own.variables + p.0.height) 64) (Ok (words + p.0.words + 1, p.1)) (Err (Height i))

-- function f's body at node i, with the words before it
abbrev pub function_from : View → ℕ → ℕ → ℕ → Answer (ℕ × ℕ)
function_from v f words i = onward (context_at v f) (λ c. onward (body_from v (env_of v c) i) (closed c i words))

-- the bodies of n functions from f on
abbrev pub bodies_from : View → ℕ → ℕ → ℕ → ℕ → Answer (ℕ × ℕ)
bodies_from v zero f words i = Ok (words, i)
bodies_from v (suc n) f words i = onward (function_from v f words i) (λ p. bodies_from v n (f + 1) p.0 p.1)

abbrev pub view_of : List ℕ → Header → View
view_of bs h = record { bytes = bs; functions = h.functions; nodes = h.nodes }

-- no node is left over
abbrev pub ended : Header → ℕ × ℕ → Answer Passed
ended h p = cond (nat_lt p.1 h.nodes) (Err (NoNode p.1)) (Ok (record { functions = h.functions; nodes = h.nodes; words = p.0 }))

abbrev pub from_table : {A : Type 0} → Result A TableFault → Answer A
from_table (Ok x) = Ok x
from_table (Err e) = Err (Table e)

-- Layout first, then the bodies in order. Each function has an entry word.
unfoldable pub checked : List ℕ → Answer Passed
checked bs =
    onward (from_table (layout_of bs)) (λ h. onward (bodies_from (view_of bs h) h.functions 0 h.functions 0) (ended h))
