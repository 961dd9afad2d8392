-- What a table holds: its bytes and its two counts.
use Rattle.std.specs.Prelude.{ℕ, ◌+◌, ◌*◌, cond, List, Some, None, Option, nat_lt}
use Rattle.table.specs.Fields.{function_at, node_in}
use Rattle.table.specs.declared.view.Table.{Table}
use Rattle.table.specs.declared.record.Function.{Function}
use Rattle.table.specs.declared.record.Node.{Node}

pub record View : Type 0 where
  pub bytes : List ℕ
  pub functions : ℕ
  pub nodes : ℕ

abbrev pub view : Table → View
view t = record { bytes = t.bytes.now; functions = t.functions; nodes = t.nodes }

-- node i
abbrev pub node_at : View → ℕ → Node
node_at v i = node_in v.bytes (3 + 6 * v.functions + 3 * i)

-- function f's record, or none if there is no such function or its record is broken
abbrev pub function_of : View → ℕ → Option Function
function_of v f = cond (nat_lt f v.functions) (function_at v.bytes f) None

-- node i's record, or none if there is no such node
abbrev pub node_of : View → ℕ → Option Node
node_of v i = cond (nat_lt i v.nodes) (Some (node_at v i)) None
