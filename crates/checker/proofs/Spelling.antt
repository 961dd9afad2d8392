-- Nodes that stand in a table, and arrival at one of them.
use Rattle.std.proofs.Common.{◌≡◌, ℕ, suc, ◌+◌, ◌<◌, Bool, true, false, cond, ltb, List, [], ◌∷◌, ◌++◌, length, Some, None, Ok, Err, Option, Result, refl, ap, ◌∙◌, arith}
use Rattle.std.proofs.lemmas.Bool.Decides.{nat_tests}
use Rattle.std.specs.Option.{ok_or}
use Rattle.table.specs.Flow.{onward}
use Rattle.table.specs.Shapes.{shape_of}
use Rattle.table.specs.View.{View, node_at}
use Rattle.table.specs.declared.shape.Kind.{Kind}
use Rattle.table.specs.declared.shape.Kind.TheVariants.{Int, Byte}
use Rattle.table.specs.declared.shape.Expression.{Expression}
use Rattle.table.specs.declared.shape.Condition.{Condition}
use Rattle.table.specs.declared.shape.Statement.{Statement}
use Rattle.table.specs.declared.shape.Shape.{Shape}
use Rattle.table.specs.declared.shape.Shape.TheVariants.{Expression as Value, Condition as Test, Statement as Act, Block}
use Rattle.language.specs.Listing.{Placed}
use Rattle.walk.specs.Walk.{Answer, arrived, as_value, as_test, as_act, as_block, judged, same_kind}
use Rattle.walk.specs.declared.fault.CheckFault.TheVariants.{NoNode, Nesting, Field}
use Rattle.checker.specs.Spells.{Spells}

pub onward_ok : {A B E : Type 0} (r : Result A E) (f : A → Result B E) (y : B) → onward r f ≡ Ok y → (x : A) × (r ≡ Ok x) × (f x ≡ Ok y)
onward_ok (Ok x) f y h = (x, refl, h)
onward_ok (Err e) f y h = absurd (grind arith)

pub ok_or_ok : {A E : Type 0} (o : Option A) (e : E) (x : A) → ok_or o e ≡ Ok x → o ≡ Some x
ok_or_ok None e x h = absurd (grind arith)
ok_or_ok (Some y) e x h = grind arith

pub judged_ok : {A : Type 0} (i : ℕ) (b : Bool) (x y : A) → judged i b x ≡ Ok y → (b ≡ true) × (x ≡ y)
judged_ok i true x y h = (refl, grind arith)
judged_ok i false x y h = absurd (grind arith)

pub same_kind_lem : (a b : Kind) → same_kind a b ≡ true → a ≡ b
same_kind_lem Int Int h = refl
same_kind_lem Int Byte h = absurd (grind arith)
same_kind_lem Byte Int h = absurd (grind arith)
same_kind_lem Byte Byte h = refl

pub kind_same : (a : Kind) → same_kind a a ≡ true
kind_same Int = refl
kind_same Byte = refl

-- a node that is there, a level that is left, and what the node is
pub record Came (v : View) (k i : ℕ) (s : Shape) : Type 0 where
  pub there : i < v.nodes
  pub shape : shape_of (node_at v i) ≡ Some s
  pub level : 0 < k

private_came : (b c : Bool) (o : Option Shape) (i : ℕ) (s : Shape) →
    cond b (cond c (ok_or o (Field i)) (Err (Nesting i))) (Err (NoNode i)) ≡ Ok s → (b ≡ true) × (c ≡ true) × (o ≡ Some s)
private_came b c o i s h = grind arith

arrived_ok : (v : View) (k i : ℕ) (s : Shape) → arrived v k i ≡ Ok s → Came v k i s
arrived_ok v k i s h =
    let a = private_came (ltb i v.nodes) (ltb 0 k) (shape_of (node_at v i)) i s h in
    let b = a.0 in
    let c = a.1 in
    record { there = grind (arith, nat_tests); shape = a.2; level = grind (arith, nat_tests) }

pub arrived_is : (v : View) (k i : ℕ) (s : Shape) → Came v k i s → arrived v k i ≡ Ok s
arrived_is v k i s c =
    let l = c.there in
    let p = c.level in
    shown (ltb i v.nodes) (ltb 0 k) (shape_of (node_at v i)) (grind (arith, nat_tests)) (grind (arith, nat_tests)) c.shape
  where
    shown : (b c : Bool) (o : Option Shape) → b ≡ true → c ≡ true → o ≡ Some s →
        cond b (cond c (ok_or o (Field i)) (Err (Nesting i))) (Err (NoNode i)) ≡ Ok s
    shown b c o x y z = grind arith

value_is : (i : ℕ) (s : Shape) (x : Expression) → as_value i s ≡ Ok x → s ≡ Value x
value_is i (Value y) x h = grind arith
value_is i (Test y) x h = absurd (grind arith)
value_is i (Act y) x h = absurd (grind arith)
value_is i (Block n) x h = absurd (grind arith)

test_is : (i : ℕ) (s : Shape) (x : Condition) → as_test i s ≡ Ok x → s ≡ Test x
test_is i (Value y) x h = absurd (grind arith)
test_is i (Test y) x h = grind arith
test_is i (Act y) x h = absurd (grind arith)
test_is i (Block n) x h = absurd (grind arith)

act_is : (i : ℕ) (s : Shape) (x : Statement) → as_act i s ≡ Ok x → s ≡ Act x
act_is i (Value y) x h = absurd (grind arith)
act_is i (Test y) x h = absurd (grind arith)
act_is i (Act y) x h = grind arith
act_is i (Block n) x h = absurd (grind arith)

block_is : (i : ℕ) (s : Shape) (x : ℕ) → as_block i s ≡ Ok x → s ≡ Block x
block_is i (Value y) x h = absurd (grind arith)
block_is i (Test y) x h = absurd (grind arith)
block_is i (Act y) x h = absurd (grind arith)
block_is i (Block n) x h = grind arith

-- arrival at a node of the sort asked for, told by the shape that it has
module _ {A : Type 0} (sort : ℕ → Shape → Answer A) (shape : A → Shape) (is : (i : ℕ) (s : Shape) (x : A) → sort i s ≡ Ok x → s ≡ shape x) where
  pub came_as : (v : View) (k i : ℕ) (x : A) → onward (arrived v k i) (sort i) ≡ Ok x → Came v k i (shape x)
  came_as v k i x h =
      let o = onward_ok (arrived v k i) (sort i) x h in
      let c = arrived_ok v k i o.0 o.1 in
      record { there = c.there; shape = c.shape ∙ ap Some (is i o.0 x o.2); level = c.level }

pub came_value : (v : View) (k i : ℕ) (x : Expression) → onward (arrived v k i) (as_value i) ≡ Ok x → Came v k i (Value x)
came_value = came_as as_value Value value_is

pub came_test : (v : View) (k i : ℕ) (x : Condition) → onward (arrived v k i) (as_test i) ≡ Ok x → Came v k i (Test x)
came_test = came_as as_test Test test_is

pub came_act : (v : View) (k i : ℕ) (x : Statement) → onward (arrived v k i) (as_act i) ≡ Ok x → Came v k i (Act x)
came_act = came_as as_act Act act_is

pub came_block : (v : View) (k i : ℕ) (x : ℕ) → onward (arrived v k i) (as_block i) ≡ Ok x → Came v k i (Block x)
came_block = came_as as_block Block block_is

pub spells-++ : (v : View) (i : ℕ) (xs ys : List Placed) → Spells v i xs → Spells v (i + length xs) ys → Spells v i (xs ++ ys)
spells-++ v i [] ys h g = let e : i + 0 ≡ i = omega arith in rw e at g
spells-++ v i (x ∷ xs) ys h g =
    let e : i + suc (length xs) ≡ (i + 1) + length xs = omega arith in
    (h.0, h.1, h.2, spells-++ v (i + 1) xs ys h.3 (rw e at g))

pub spells-left : (v : View) (i : ℕ) (xs ys : List Placed) → Spells v i (xs ++ ys) → Spells v i xs × Spells v (i + length xs) ys
spells-left v i [] ys h = let e : i + 0 ≡ i = omega arith in (tt, rw e h)
spells-left v i (x ∷ xs) ys h =
    let e : i + suc (length xs) ≡ (i + 1) + length xs = omega arith in
    let r = spells-left v (i + 1) xs ys h.3 in
    ((h.0, h.1, h.2, r.0), rw e r.1)

-- two listings behind each other, the second where the first ends
pub spells-on : (v : View) (i j : ℕ) (xs ys : List Placed) → Spells v i xs → j ≡ i + length xs → Spells v j ys → Spells v i (xs ++ ys)
spells-on v i j xs ys h e g = spells-++ v i xs ys h (rw e at g)

-- the node that stands first
pub came_first : (v : View) (k i : ℕ) (x : Placed) (xs : List Placed) → 0 < k → Spells v i (x ∷ xs) → Came v k i x.1
came_first v k i x xs p h = record { there = h.1; shape = h.2; level = p }
