-- What the translator reads at a place of a table, for the nodes of one function.
use Rattle.std.specs.Prelude.{◌≡◌, ℕ, zero, suc, ◌-◌, ◌<◌, cond, List, None, Some, Option, Result, nat_lt}
use Rattle.std.specs.Result.{result_ok}
use Rattle.table.specs.Shapes.{shape_of}
use Rattle.table.specs.View.{View, view, node_at}
use Rattle.table.specs.declared.shape.Kind.{Kind}
use Rattle.table.specs.declared.shape.Expression.{Expression}
use Rattle.table.specs.declared.shape.Condition.{Condition}
use Rattle.table.specs.declared.shape.Statement.{Statement}
use Rattle.table.specs.declared.shape.Shape.{Shape}
use Rattle.table.specs.declared.sort.WrongSort.{WrongSort}
use Rattle.language.specs.Tree.{Expr, Args, Cond, Stmt, Block, none, more}
use Rattle.language.specs.Reader.{read_a, read_e_at, read_e, read_c_at, read_c, read_s_at, read_s, read_b_at, read_b}
use Rattle.walk.specs.Bodies.{env_of}
use Rattle.walk.specs.declared.found.Body.{Body}
use Rattle.walk.specs.declared.found.Context.{Context}

-- what node i is, with k levels left for it and below it
abbrev pub shape_at : View → ℕ → ℕ → Option Shape
shape_at v k i = cond (nat_lt 0 k) (shape_of (node_at v i)) None

-- the tree at node i with k levels left, and the place behind it
abbrev pub expr_at : View → Context → ℕ → ℕ → Expr × ℕ
expr_at v c k i = read_e v (env_of v c) k i

abbrev pub cond_at : View → Context → ℕ → ℕ → Cond × ℕ
cond_at v c k i = read_c v (env_of v c) k i

abbrev pub stmt_at : View → Context → ℕ → ℕ → Stmt × ℕ
stmt_at v c k i = read_s v (env_of v c) k i

abbrev pub block_at : View → Context → ℕ → ℕ → Block × ℕ
block_at v c k i = read_b v (env_of v c) k i

-- the same at node i of a body
abbrev pub expr_in : Body → ℕ → ℕ → Expr × ℕ
expr_in b k i = expr_at (view b.table.now) b.context k i

abbrev pub cond_in : Body → ℕ → ℕ → Cond × ℕ
cond_in b k i = cond_at (view b.table.now) b.context k i

abbrev pub stmt_in : Body → ℕ → ℕ → Stmt × ℕ
stmt_in b k i = stmt_at (view b.table.now) b.context k i

abbrev pub block_in : Body → ℕ → ℕ → Block × ℕ
block_in b k i = block_at (view b.table.now) b.context k i

-- the same, if node i is of that shape
abbrev pub expr_shaped : Body → ℕ → ℕ → Option Expression → Expr × ℕ
expr_shaped b k i s = read_e_at (env_of (view b.table.now) b.context) (expr_in b (k - 1)) i s

abbrev pub cond_shaped : Body → ℕ → ℕ → Option Condition → Cond × ℕ
cond_shaped b k i s = read_c_at (expr_in b (k - 1)) (cond_in b (k - 1)) i s

abbrev pub stmt_shaped : Body → ℕ → ℕ → Option Statement → Stmt × ℕ
stmt_shaped b k i s = read_s_at (env_of (view b.table.now) b.context) (expr_in b (k - 1)) (cond_in b (k - 1)) (block_in b (k - 1)) i s

abbrev pub block_shaped : Body → ℕ → ℕ → Option ℕ → Block × ℕ
block_shaped b k i s = read_b_at (stmt_in b (k - 1)) i s

-- node i of a body is there, and a level is left for it
abbrev pub IsThere : Body → ℕ → ℕ → Type 0
IsThere b k i = (i < b.table.now.nodes) × (0 < k)

-- a shape is taken for a sort, if there is one and it is of that sort; `gives` is how the sort is told
abbrev pub TakenFor : {S : Type 0} → (Shape → Result S WrongSort → Type 0) → Option Shape → Option S → Type 0
TakenFor gives None r = r ≡ None
TakenFor {S} gives (Some s) r = (w : Result S WrongSort) × gives s w × (r ≡ result_ok w)

-- n arguments from place j on; `one` reads one
abbrev pub args_from : (ℕ → Expr × ℕ) → ℕ → ℕ → Args × ℕ
args_from one zero j = (none, j)
args_from one (suc n) j = (more (one j).0 (args_from one n (one j).1).0, (args_from one n (one j).1).1)

-- so many arguments are read for these kinds, however one is read
abbrev pub Counts : List Kind → ℕ → Type 0
Counts ks n = (one : ℕ → Expr × ℕ) (j : ℕ) → read_a one ks j ≡ args_from one n j
