-- The functions that are read off a table.
use Rattle.std.specs.Prelude.{ℕ, zero, suc, ◌+◌, cond, [], ◌∷◌, None, ◌==◌}
use Rattle.std.specs.Option.{unwrap_or}
use Rattle.table.specs.View.{View, view, function_of}
use Rattle.table.specs.declared.view.Table.{Table}
use Rattle.table.specs.declared.record.Function.{Function as Record}
use Rattle.language.specs.Tree.{Block, Program}
use Rattle.walk.specs.Bodies.{signature_of}
use Rattle.walk.specs.declared.found.Body.{Body}
use Rattle.walk.specs.declared.found.Context.{Context}
use Rattle.translate.specs.Source.{block_at}

-- a record with nothing, where a table has none
abbrev pub blank : Record
blank = record { result = None; parameters = 0; variables = 0; kinds = 0 }

-- what the nodes of function f may refer to
abbrev pub context_in : View → ℕ → Context
context_in v f = record { own = unwrap_or (function_of v f) blank; main = cond (f == 0) None (function_of v 0) }

-- a body with all its levels; shut, since 128 levels would all be computed
unfoldable pub body_at : View → Context → ℕ → Block × ℕ
body_at v c i = block_at v c 128 i

-- n functions from f on, the first body at node i
abbrev pub functions_from : View → ℕ → ℕ → ℕ → Program
functions_from v zero f i = []
functions_from v (suc n) f i =
    record { signature = signature_of (context_in v f).own; body = (body_at v (context_in v f) i).0 } ∷ functions_from v n (f + 1) (body_at v (context_in v f) i).1

-- the same of a body
abbrev pub body_in : Body → ℕ → Block × ℕ
body_in b i = body_at (view b.table.now) b.context i

-- the program that is read off a table
abbrev pub program_in : Table → Program
program_in t = functions_from (view t) t.functions 0 0
