-- What is read of a function's body: the walks at its nodes, and how far they come.
use Rattle.std.specs.Prelude.{ℕ, ◌+◌, ◌<◌, ◌≤◌, List, IfOk}
use Rattle.table.specs.View.{View, view}
use Rattle.table.specs.declared.shape.Statement.{Statement}
use Rattle.language.specs.Rules.{Env}
use Rattle.walk.specs.Walk.{Answer, size, expr_from, cond_from, stmt_at, stmt_from, block_from}
use Rattle.walk.specs.Bodies.{env_of}
use Rattle.walk.specs.declared.found.Body.{Body}
use Rattle.walk.specs.declared.found.Found.{Found}
use Rattle.walk.specs.declared.found.Size.{Size}

-- the table where it stands, and what its nodes may refer to
abbrev pub seen : Body → View
seen b = view b.table.now

abbrev pub env : Body → Env
env b = env_of (seen b) b.context

-- the expression, the condition, the statement and the block at node i with k levels left, among the open loops ns
abbrev pub value_walk : Body → ℕ → ℕ → Answer (Found × ℕ)
value_walk b k i = expr_from (seen b) (env b) k i

abbrev pub test_walk : Body → ℕ → ℕ → Answer (Size × ℕ)
test_walk b k i = cond_from (seen b) (env b) k i

abbrev pub act_walk : Body → ℕ → List ℕ → ℕ → Answer (Size × ℕ)
act_walk b k ns i = stmt_from (seen b) (env b) k ns i

abbrev pub block_walk : Body → ℕ → List ℕ → ℕ → Answer (Size × ℕ)
block_walk b k ns i = block_from (seen b) (env b) k ns i

-- a statement of that shape, with k levels left for its children
abbrev pub act_shaped : Body → ℕ → List ℕ → ℕ → Statement → Answer (Size × ℕ)
act_shaped b k ns i s = stmt_at (env b) (value_walk b k) (test_walk b k) (block_walk b k) ns i s

-- What starts at node i ends before node j, which the table has or ends with. Its height and its words are at most its nodes.
abbrev pub Spans : Body → ℕ → Size → ℕ → Type 0
Spans b i s j = (i < j) × (s.height + i ≤ j) × (s.words + i ≤ j) × (j ≤ b.table.now.nodes)

abbrev pub FoundSpans : Body → ℕ → Answer (Found × ℕ) → Type 0
FoundSpans b i r = IfOk r (λ p. Spans b i p.0.size p.1)

abbrev pub SizeSpans : Body → ℕ → Answer (Size × ℕ) → Type 0
SizeSpans b i r = IfOk r (λ p. Spans b i p.0 p.1)

-- of a block, whose own node has no word
abbrev pub BlockSpans : Body → ℕ → Answer (Size × ℕ) → Type 0
BlockSpans b i r = IfOk r (λ p. Spans b i (size (p.0.height + 1) (p.0.words + 1)) p.1)
