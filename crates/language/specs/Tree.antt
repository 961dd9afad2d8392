-- Dana programs as trees. The first number of each node is its place in the table.
use Rattle.std.specs.Prelude.{ℕ, List, Option}
use Rattle.table.specs.declared.shape.Kind.{Kind}
use Rattle.table.specs.declared.shape.Scope.{Scope}
use Rattle.table.specs.declared.shape.Format.{Format}
use Rattle.table.specs.declared.shape.Unary.{Unary}
use Rattle.table.specs.declared.shape.Binary.{Binary}
use Rattle.table.specs.declared.shape.Comparison.{Comparison}
use Rattle.table.specs.declared.shape.Junction.{Junction}

-- What gives a value.
--   constant: its kind and its value
--   variable: whose, its slot, and the kind of that slot
--   unary:    the operator and its operand
--   binary:   the operator, the kind of both operands, and the operands
--   call:     the function, the kind of its result, and the arguments
--   read:     what it takes
mutual
  pub data Expr : Type 0 where
    constant : ℕ → Kind → ℕ → Expr
    variable : ℕ → Scope → ℕ → Kind → Expr
    unary : ℕ → Unary → Expr → Expr
    binary : ℕ → Binary → Kind → Expr → Expr → Expr
    call : ℕ → ℕ → Kind → Args → Expr
    read : ℕ → Format → Expr

  pub data Args : Type 0 where
    none : Args
    more : Expr → Args → Args

-- What holds or fails.
--   compare: the comparison, the kind of both operands, and the operands
--   negate:  `not`
--   join:    `and` or `or`
--   holds:   a byte as condition
pub data Cond : Type 0 where
  compare : ℕ → Comparison → Kind → Expr → Expr → Cond
  negate : ℕ → Cond → Cond
  join : ℕ → Junction → Cond → Cond → Cond
  holds : ℕ → Expr → Cond

-- What does something.
--   assign:          whose variable, its slot, the kind of that slot, and the value
--   perform:         a call without result: the function and the arguments
--   loop:            its name, 0 for none
--   break, continue: the name of the loop meant, 0 for the innermost
mutual
  pub data Stmt : Type 0 where
    skip : ℕ → Stmt
    assign : ℕ → Scope → ℕ → Kind → Expr → Stmt
    perform : ℕ → ℕ → Args → Stmt
    if : ℕ → Cond → Block → Stmt
    if_else : ℕ → Cond → Block → Block → Stmt
    loop : ℕ → ℕ → Block → Stmt
    break : ℕ → ℕ → Stmt
    continue : ℕ → ℕ → Stmt
    exit : ℕ → Stmt
    return : ℕ → Expr → Stmt
    write : ℕ → Format → Expr → Stmt

  pub data Block : Type 0 where
    block : ℕ → Stmts → Block

  pub data Stmts : Type 0 where
    done : Stmts
    next : Stmt → Stmts → Stmts

-- What callers know of a function: the kind of its result, how many parameters it has, and the kinds of its
-- variables, the parameters first.
pub record Signature : Type 0 where
  pub result : Option Kind
  pub parameters : ℕ
  pub variables : List Kind

pub record Function : Type 0 where
  pub signature : Signature
  pub body : Block

-- the functions by number; function 0 is main
abbrev pub Program : Type 0
Program = List Function
