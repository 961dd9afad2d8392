-- Dana's meaning: what a program does, node by node.
--
-- Each definition says what is reported from the moment when a run comes to a node, given how the run goes on behind
-- it: `rest`. What is behind an expression takes its value, what is behind a condition comes in two, for where it
-- holds and for where it fails, and a statement knows besides where break, continue, exit and return lead.
-- Throughout, p is the node's own place, s the state, n the node entries left, and F what the program's functions do.
use Rattle.std.specs.Prelude.{ℕ, zero, suc, Bool, cond, ◌||◌, List, [], ◌∷◌, length, take, ℤ, pos, Some, None, Option, ◌==◌, nat_le, nat_lt, slice_index_or}
use Rattle.table.specs.declared.shape.Kind.{Kind}
use Rattle.table.specs.declared.shape.Junction.TheVariants.{And, Or}
use Rattle.number.specs.Number.{holds as is_true}
use Rattle.number.specs.declared.text.Reading.{Reading}
use Rattle.number.specs.declared.text.Reading.TheVariants.{Wait, Refused, Took}
use Rattle.language.specs.Tree.{Expr, constant, variable, unary, binary, call, read, Args, none, more, Cond, compare, negate, join, holds, Stmt, skip, assign, perform, if, if_else, loop, break, continue, exit, return, write, Block, block, Stmts, done, next, Function, Program}
use Rattle.language.specs.State.{State, took, sent, Report, running, ◌▷◌, Stop, at_wait, at_end, at_fault, activations, stopped, get, put, opened, closed, without, narrowed, fill}
use Rattle.language.specs.Operators.{apply_unary, apply_binary, compares, finds, text_of}

-- How a run goes on from a state: what is reported within a number of node entries.
abbrev pub Rest : Type 0
Rest = State → ℕ → Report

-- A node is entered, which counts one entry. With no entry left the run is as far as was asked for.
abbrev pub enter : Rest → Rest
enter rest s zero = running
enter rest s (suc n) = rest s n

-- The run stops here, however many entries are left.
abbrev pub halt : Stop → Rest
halt x s n = stopped x s

-- Nothing more is ever reported. It is the meaning of what cannot come about: a bound used up that is never used up
-- within the entries asked for, and a break or continue outside of loops, which no checked program has.
abbrev pub nothing_more : Rest
nothing_more s n = running

-- The causes of faults.
--   61: zero divisor
--   62: a call that would make one activation more than there may be
--   63: a function with a result whose body ends without return
--   64: a text that a read refuses
--   65: a write that is longer than the room
abbrev pub zero_divisor : ℕ
zero_divisor = 61

abbrev pub too_deep : ℕ
too_deep = 62

abbrev pub no_return : ℕ
no_return = 63

abbrev pub refused_text : ℕ
refused_text = 64

abbrev pub no_room : ℕ
no_room = 65

-- So many activations may be open at once, main's counted.
abbrev pub most_activations : ℕ
most_activations = 32

-- An operator's result, at node p: without one, its divisor was 0.
abbrev pub resulting : ℕ → Option ℤ → (ℤ → Rest) → Rest
resulting p None rest = halt (at_fault zero_divisor p)
resulting p (Some v) rest = rest v

-- A read, at node p, by what it finds: it waits, refuses the text and takes nothing, or takes its bytes at once.
abbrev pub receive : ℕ → Reading → (ℤ → Rest) → Rest
receive p Wait rest = halt at_wait
receive p Refused rest = halt (at_fault refused_text p)
receive p (Took v count) rest = λ s n. took (take count s.waiting) ▷ rest v (without count s) n

-- A write, at node p: all of its bytes at once, or none if they are more than the room.
abbrev pub send : ℕ → List ℕ → Rest → Rest
send p text rest s n =
    cond (nat_le (length text) s.room) (sent text ▷ rest (narrowed (length text) s) n) (stopped (at_fault no_room p) s)

-- What functions do: by number, with the arguments, and then going on with the result at the caller.
abbrev pub Functions : Type 0
Functions = ℕ → List ℤ → (ℤ → Rest) → Rest

-- A call, at node p, after its arguments: one activation more, if there may be one.
abbrev pub activate : Functions → ℕ → ℕ → List ℤ → (ℤ → Rest) → Rest
activate F p f values rest s n =
    cond (nat_lt (activations s) most_activations) (F f values rest s n) (stopped (at_fault too_deep p) s)

-- Expressions. Operands and arguments go left to right; each value is kept when it is read.
unfoldable mutual
  pub expression : Functions → Expr → (ℤ → Rest) → Rest
  expression F (constant p k v) rest = enter (rest (pos v))
  expression F (variable p whose slot k) rest = enter (λ s. rest (get whose slot s) s)
  expression F (unary p o e) rest = enter (expression F e (λ a. rest (apply_unary o a)))
  expression F (binary p o k left right) rest = enter (expression F left (λ a. expression F right (λ b. resulting p (apply_binary o k a b) rest)))
  expression F (call p f k es) rest = enter (arguments F es (λ values. activate F p f values rest))
  expression F (read p q) rest = enter (λ s. receive p (finds q s.waiting) rest s)

  pub arguments : Functions → Args → (List ℤ → Rest) → Rest
  arguments F none rest = rest []
  arguments F (more e es) rest = expression F e (λ v. arguments F es (λ values. rest (v ∷ values)))

-- Conditions. `not` changes the two ways on into one another; `and` and `or` enter the right side only if the left
-- leaves the result open.
unfoldable pub condition : Functions → Cond → Rest → Rest → Rest
condition F (compare p o k left right) when_holds when_fails = enter (expression F left (λ a. expression F right (λ b. cond (compares o a b) when_holds when_fails)))
condition F (negate p c) when_holds when_fails = enter (condition F c when_fails when_holds)
condition F (join p And left right) when_holds when_fails = enter (condition F left (condition F right when_holds when_fails) when_fails)
condition F (join p Or left right) when_holds when_fails = enter (condition F left when_holds (condition F right when_holds when_fails))
condition F (holds p e) when_holds when_fails = enter (expression F e (λ a. cond (is_true a) when_holds when_fails))

-- Where a statement may leave to, other than to the one behind it.
--   behind: behind the open loop of a name; at 0 behind the innermost
--   again:  to the next round of the open loop of a name; at 0 of the innermost
--   close:  to the caller with a result (0 where there is none), or to the end of the program
pub record Ways : Type 0 where
  pub behind : ℕ → Rest
  pub again : ℕ → Rest
  pub close : ℤ → Rest

-- Whether a loop is meant by x in its own block: by its name, and by 0. (A loop of name 0 has no name.)
abbrev pub is_meant : ℕ → ℕ → Bool
is_meant name x = x == 0 || x == name

-- In a loop's block the loop itself comes first; other names mean the loops around it.
abbrev pub in_loop : ℕ → Rest → Rest → Ways → Ways
in_loop name behind_it next_round ways =
    record {
      behind = λ x. cond (is_meant name x) behind_it (ways.behind x);
      again = λ x. cond (is_meant name x) next_round (ways.again x);
      close = ways.close;
    }

-- Rounds of a loop, one after the other: `round` is a round, given how the run goes on behind it. The bound g is never
-- used up within g entries, since each round enters the loop's block.
unfoldable pub rounds : ℕ → (Rest → Rest) → Rest
rounds zero round s n = nothing_more s n
rounds (suc g) round s n = round (rounds g round) s n

-- Statements and blocks, in order. A block is entered as any node, a loop's once a round. The number g bounds the
-- rounds of each loop.
unfoldable mutual
  pub statement : ℕ → Functions → Stmt → Ways → Rest → Rest
  statement g F (skip p) ways rest = enter rest
  statement g F (assign p whose slot k e) ways rest = enter (expression F e (λ v s. rest (put whose slot v s)))
  statement g F (perform p f es) ways rest = enter (arguments F es (λ values. activate F p f values (λ v. rest)))
  statement g F (if p c b) ways rest = enter (condition F c (body g F b ways rest) rest)
  statement g F (if_else p c b other) ways rest = enter (condition F c (body g F b ways rest) (body g F other ways rest))
  statement g F (loop p name b) ways rest = enter (rounds g (λ next_round. body g F b (in_loop name rest next_round ways) next_round))
  statement g F (break p x) ways rest = enter (ways.behind x)
  statement g F (continue p x) ways rest = enter (ways.again x)
  statement g F (exit p) ways rest = enter (ways.close (pos 0))
  statement g F (return p e) ways rest = enter (expression F e ways.close)
  statement g F (write p q e) ways rest = enter (expression F e (λ v. send p (text_of q v) rest))

  pub body : ℕ → Functions → Block → Ways → Rest → Rest
  body g F (block p ss) ways rest = enter (statements g F ss ways rest)

  pub statements : ℕ → Functions → Stmts → Ways → Rest → Rest
  statements g F done ways rest = rest
  statements g F (next c cs) ways rest = statement g F c ways (statements g F cs ways rest)

-- The activation is closed and its caller goes on. (Without a caller, which a called function always has, all ends.)
abbrev pub back : List (List ℤ) → Rest → Rest
back [] rest = halt at_end
back (c ∷ cs) rest = λ s. rest (closed c cs s)

abbrev pub to_caller : (ℤ → Rest) → ℤ → Rest
to_caller rest v s = back s.callers (rest v) s

-- The end of a body, its block at place p: it closes the activation, but a function with a result has to return one.
abbrev pub body_end : Option Kind → ℕ → (ℤ → Rest) → Rest
body_end None p close = close (pos 0)
body_end (Some k) p close = halt (at_fault no_return p)

abbrev pub place_of : Block → ℕ
place_of (block p ss) = p

-- The ways out of a body: no loop is open around it.
abbrev pub body_ways : (ℤ → Rest) → Ways
body_ways close = record { behind = λ x. nothing_more; again = λ x. nothing_more; close = close }

-- A function's whole body, given what closes its activation.
abbrev pub whole_body : ℕ → Functions → Function → (ℤ → Rest) → Rest
whole_body g F f close = body g F f.body (body_ways close) (body_end f.signature.result (place_of f.body) close)

-- A function by its number. A checked program calls only functions that it has; any other would be this empty one.
abbrev pub empty : Function
empty = record { signature = record { result = None; parameters = 0; variables = [] }; body = block 0 done }

abbrev pub function_at : Program → ℕ → Function
function_at P f = slice_index_or P f empty

-- A function's variables at its start.
abbrev pub variables_for : Function → List ℤ → List ℤ
variables_for f values = fill (length f.signature.variables) values

-- What the functions of a program do. The bound g on calls within calls, and on rounds, is never used up within g
-- entries, since each call enters its function's block.
unfoldable pub functions : Program → ℕ → Functions
functions P zero f values rest s = nothing_more s
functions P (suc g) f values rest s =
    whole_body (suc g) (functions P g) (function_at P f) (to_caller rest) (opened (variables_for (function_at P f) values) s)

-- The whole program under the bound g: main's body; the program ends when main closes.
unfoldable pub walk : Program → ℕ → Rest
walk P g = whole_body g (functions P g) (function_at P 0) (λ v. halt at_end)

-- What is reported of a program from a state within n node entries: all that comes before entry n + 1.
abbrev pub meaning : Program → Rest
meaning P s n = walk P n s n

-- The state at the start: main's variables at 0, the bytes fed so far, and the room.
abbrev pub start : Program → List ℕ → ℕ → State
start P bytes space = record { own = variables_for (function_at P 0) []; callers = []; waiting = bytes; room = space }
