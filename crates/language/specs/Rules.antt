-- The rules that a Dana program keeps: types, calls, loops, exit and return, and its limits.
use Rattle.std.specs.Prelude.{◌≡◌, ℕ, ◌+◌, ◌<◌, ◌≤◌, Bool, true, false, cond, List, [], ◌∷◌, map, length, take, Some, None, Option, ◌==◌, nat_lt}
use Rattle.std.specs.List.{slice_get}
use Rattle.table.specs.Shapes.{ConstantFits}
use Rattle.table.specs.declared.shape.Kind.{Kind}
use Rattle.table.specs.declared.shape.Kind.TheVariants.{Byte}
use Rattle.table.specs.declared.shape.Scope.{Scope}
use Rattle.table.specs.declared.shape.Scope.TheVariants.{Own, Main}
use Rattle.table.specs.declared.shape.Binary.{Binary}
use Rattle.table.specs.declared.shape.Binary.TheVariants.{Add, Sub, Mul, Div, Rem, ByteAnd, ByteOr}
use Rattle.language.specs.Tree.{Expr, Args, Cond, Stmt, Block, Stmts, Signature, Function, Program, constant, variable, unary, binary, call, read, none, more, compare, negate, join, holds, skip, assign, perform, if, if_else, loop, break, continue, exit, return, write, block, done, next}
use Rattle.language.specs.Listing.{count, list_p, Placed}
use Rattle.language.specs.Measures.{kind_of, operand_kind, format_kind, levels_b, height_b}

-- What a node of a function may refer to: the function itself, main if it is another, and the functions by number.
pub record Env : Type 0 where
  pub own : Signature
  pub main : Option Signature
  pub functions : ℕ → Option Signature

abbrev pub slot_in : Option Signature → ℕ → Option Kind
slot_in None x = None
slot_in (Some s) x = slice_get s.variables x

-- the kind of a variable, if there is such a one
abbrev pub slot_kind : Signature → Option Signature → Scope → ℕ → Option Kind
slot_kind own main Own x = slot_in (Some own) x
slot_kind own main Main x = slot_in main x

-- the function that a call names: an existing one, but not main
abbrev pub called : (ℕ → Option Signature) → ℕ → Option Signature
called functions f = cond (f == 0) None (functions f)

abbrev pub parameter_kinds : Signature → List Kind
parameter_kinds s = take s.parameters s.variables

-- `&` and the or-sign take bytes
abbrev pub Operates : Binary → Kind → Type 0
Operates Add k = Unit {0}
Operates Sub k = Unit {0}
Operates Mul k = Unit {0}
Operates Div k = Unit {0}
Operates Rem k = Unit {0}
Operates ByteAnd k = k ≡ Byte
Operates ByteOr k = k ≡ Byte

-- Operands have the kinds that their operators ask for; arguments match the parameters in number and kind.
abbrev mutual
  pub FineE : Env → Expr → Type 0
  FineE e (constant p k n) = ConstantFits k n
  FineE e (variable p s x k) = slot_kind e.own e.main s x ≡ Some k
  FineE e (unary p u a) = FineE e a × (kind_of a ≡ operand_kind u)
  FineE e (binary p b k a c) = FineE e a × FineE e c × (kind_of a ≡ k) × (kind_of c ≡ k) × Operates b k
  FineE e (call p f k xs) = (g : Signature) × (called e.functions f ≡ Some g) × (g.result ≡ Some k) × FineA e (parameter_kinds g) xs
  FineE e (read p q) = Unit {0}

  pub FineA : Env → List Kind → Args → Type 0
  FineA e [] none = Unit {0}
  FineA e [] (more a xs) = ⊥
  FineA e (k ∷ ks) none = ⊥
  FineA e (k ∷ ks) (more a xs) = FineE e a × (kind_of a ≡ k) × FineA e ks xs

abbrev pub FineC : Env → Cond → Type 0
FineC e (compare p c k a b) = FineE e a × FineE e b × (kind_of a ≡ k) × (kind_of b ≡ k)
FineC e (negate p c) = FineC e c
FineC e (join p j c d) = FineC e c × FineC e d
FineC e (holds p a) = FineE e a × (kind_of a ≡ Byte)

-- The loops open around a node go by their names, the innermost first. 0 asks for the innermost.
abbrev pub named : ℕ → List ℕ → Bool
named m [] = false
named m (x ∷ xs) = cond (x == m) true (named m xs)

abbrev pub is_open : ℕ → List ℕ → Bool
is_open m ns = cond (m == 0) (nat_lt 0 (length ns)) (named m ns)

-- Exit stands in a function without result, return in one with a result, of its kind. At most 16 loops are open.
-- A loop's name is open in its body alone, and has 16 bits.
abbrev mutual
  pub FineS : Env → List ℕ → Stmt → Type 0
  FineS e ns (skip p) = Unit {0}
  FineS e ns (assign p s x k a) = (slot_kind e.own e.main s x ≡ Some k) × FineE e a × (kind_of a ≡ k)
  FineS e ns (perform p f xs) = (g : Signature) × (called e.functions f ≡ Some g) × (g.result ≡ None) × FineA e (parameter_kinds g) xs
  FineS e ns (if p c b) = FineC e c × FineB e ns b
  FineS e ns (if_else p c b d) = FineC e c × FineB e ns b × FineB e ns d
  FineS e ns (loop p m b) = (m < 65536) × (length ns < 16) × FineB e (m ∷ ns) b
  FineS e ns (break p m) = is_open m ns ≡ true
  FineS e ns (continue p m) = is_open m ns ≡ true
  FineS e ns (exit p) = e.own.result ≡ None
  FineS e ns (return p a) = (e.own.result ≡ Some (kind_of a)) × FineE e a
  FineS e ns (write p q a) = FineE e a × (kind_of a ≡ format_kind q)

  pub FineB : Env → List ℕ → Block → Type 0
  FineB e ns (block p ss) = (0 < count ss) × (count ss ≤ 8192) × FineSs e ns ss

  pub FineSs : Env → List ℕ → Stmts → Type 0
  FineSs e ns done = Unit {0}
  FineSs e ns (next s ss) = FineS e ns s × FineSs e ns ss

-- At most 8 parameters and 32 variables, the parameters among them.
pub record FineSignature (s : Signature) : Type 0 where
  pub few : s.parameters ≤ 8
  pub among : s.parameters ≤ length s.variables
  pub short : length s.variables ≤ 32

-- A function's body: at most 128 levels of nesting, its variables and its height together at most 64.
pub record FineFunction (e : Env) (f : Function) : Type 0 where
  pub record_fine : FineSignature f.signature
  pub body_fine : FineB e [] f.body
  pub nesting : levels_b f.body ≤ 128
  pub cells : length f.signature.variables + height_b f.body ≤ 64

abbrev pub signatures : Program → List Signature
signatures P = map (λ f. f.signature) P

-- what main's nodes, and those of another function, may refer to
abbrev pub main_env : Program → Signature → Env
main_env P s = record { own = s; main = None; functions = slice_get (signatures P) }

abbrev pub other_env : Program → Signature → Signature → Env
other_env P m s = record { own = s; main = Some m; functions = slice_get (signatures P) }

abbrev pub FineOthers : Program → Signature → List Function → Type 0
FineOthers P m [] = Unit {0}
FineOthers P m (f ∷ fs) = FineFunction (other_env P m f.signature) f × FineOthers P m fs

-- main comes first, with no result and no parameters
abbrev pub FineFunctions : Program → Type 0
FineFunctions [] = ⊥
FineFunctions (f ∷ fs) =
    (f.signature.result ≡ None) × (f.signature.parameters ≡ 0)
    × FineFunction (main_env (f ∷ fs) f.signature) f × FineOthers (f ∷ fs) f.signature fs

-- nodes numbered one by one
abbrev pub Numbered : ℕ → List Placed → Type 0
Numbered i [] = Unit {0}
Numbered i (x ∷ xs) = (x.0 ≡ i) × Numbered (i + 1) xs

-- The rules of a whole program: 1 to 32 functions, at most 8,192 nodes, numbered from 0 in preorder.
pub record Keeps (P : Program) : Type 0 where
  pub functions : FineFunctions P
  pub few : length P ≤ 32
  pub short : length (list_p P) ≤ 8192
  pub numbered : Numbered 0 (list_p P)
