-- The state of a run and what the machine keeps beside it, put together to a machine.
use Rattle.std.proofs.Common.{◌≡◌, ℕ, zero, suc, ◌+◌, Bool, List, [], ◌∷◌, ◌++◌, length, drop, set, replicate, ℤ, pos, sym, refl, ap, ◌∙◌, append_assoc, arith}
use Rattle.table.specs.declared.shape.Kind.{Kind}
use Rattle.language.specs.State.{State, last_of, main_variables, set_last, fill}
use Rattle.language.proofs.Ranges.{RowsFit, Shaped}
use Rattle.machine.specs.declared.plan.Latch.TheVariants.{Open}
use Rattle.machine.specs.View.{Act, State as Machine, state}
use Rattle.machine.specs.Acts.{with_vars}
use Rattle.machine.specs.States.{main_of, put_main, main_variables as mains_of, args}
use Rattle.machine.specs.Steps.{World, world}

-- What the machine keeps of an activation beside its variables.
pub record Frame : Type 0 where
  pub ops : List ℤ
  pub gives : Bool
  pub back : ℕ

abbrev pub act_with : List ℤ → Frame → Act
act_with vars f = record { vars = vars; ops = f.ops; gives = f.gives; back = f.back }

abbrev pub acts : List (List ℤ) → List Frame → List Act
acts [] fs = []
acts (r ∷ rs) [] = []
acts (r ∷ rs) (f ∷ fs) = act_with r f ∷ acts rs fs

-- Where a function's nodes are worked out: the kinds of its variables and of its callers', what its activation
-- gives back and where to, and what the machine keeps of the callers.
pub record Scene : Type 0 where
  pub kinds : List Kind
  pub rows : List (List Kind)
  pub gives : Bool
  pub back : ℕ
  pub frames : List Frame

abbrev pub top_act : List ℤ → Scene → State → Act
top_act o c s = record { vars = s.own; ops = o; gives = c.gives; back = c.back }

-- The machine at address a with operands o.
abbrev pub machine_at : ℕ → List ℤ → Scene → State → Machine
machine_at a o c s = state (top_act o c s ∷ acts s.callers c.frames) a

abbrev pub world_at : ℕ → List ℤ → Scene → State → List ℕ → World
world_at a o c s out = world (machine_at a o c s) Open s.waiting out s.room

abbrev pub Shape : Scene → State → Type 0
Shape c s = Shaped c.kinds c.rows s

pub even : (kss : List (List Kind)) (rs : List (List ℤ)) → RowsFit kss rs → length rs ≡ length kss
even [] [] h = refl
even [] (r ∷ rs) h = absurd h
even (k ∷ kss) [] h = absurd h
even (k ∷ kss) (r ∷ rs) h = ap suc (even kss rs h.1)

pub acts-length : (rs : List (List ℤ)) (fs : List Frame) → length rs ≡ length fs → length (acts rs fs) ≡ length rs
acts-length [] fs e = refl
acts-length (r ∷ rs) [] e = absurd (omega arith)
acts-length (r ∷ rs) (f ∷ fs) e = ap suc (acts-length rs fs (omega arith))

main_last : (a : Act) (rs : List (List ℤ)) (fs : List Frame) → length rs ≡ length fs → (main_of a (acts rs fs)).vars ≡ last_of a.vars rs
main_last a [] fs e = refl
main_last a (r ∷ rs) [] e = absurd (omega arith)
main_last a (r ∷ rs) (f ∷ fs) e = main_last (act_with r f) rs fs (omega arith)

pub mains : (a : ℕ) (o : List ℤ) (c : Scene) (s : State) → length c.rows ≡ length c.frames → Shape c s → mains_of (machine_at a o c s).acts ≡ main_variables s
unfolding mains_of
mains a o c s m S = main_last (top_act o c s) s.callers c.frames (even c.rows s.callers S.callers ∙ m)

-- main's variable set, from another function
pub put-main : (r : List ℤ) (f : Frame) (rs : List (List ℤ)) (fs : List Frame) (x : ℕ) (v : ℤ) → length rs ≡ length fs →
    put_main (with_vars (main_of (act_with r f) (acts rs fs)) (set (main_of (act_with r f) (acts rs fs)).vars x v)) (act_with r f ∷ acts rs fs) ≡ acts (set_last r rs x v) (f ∷ fs)
put-main r f [] fs x v e = refl
put-main r f (q ∷ rs) [] x v e = absurd (omega arith)
put-main r f (q ∷ rs) (g ∷ fs) x v e = ap (λ (l : List Act). act_with r f ∷ l) (put-main q g rs fs x v (omega arith))

-- Arguments, pushed one after the other.
abbrev pub onto : List ℤ → List ℤ → List ℤ
onto [] o = o
onto (v ∷ vs) o = onto vs (v ∷ o)

append_none : (l : List ℤ) → l ++ [] ≡ l
append_none [] = refl
append_none (x ∷ l) = ap (λ (m : List ℤ). x ∷ m) (append_none l)

args_more : (n m : ℕ) (vs o : List ℤ) → m ≡ length vs + n → args m (onto vs o) ≡ args n o ++ vs
unfolding args
args_more n m [] o e = let q : m ≡ n = omega arith in rw q (sym (append_none (args n o)))
args_more n m (v ∷ vs) o e = args_more (suc n) m vs (v ∷ o) (omega arith) ∙ append_assoc (args n o) (v ∷ []) vs

pub args-onto : (vs o : List ℤ) → args (length vs) (onto vs o) ≡ vs
unfolding args
args-onto vs o = args_more 0 (length vs) vs o (omega arith)

drop_more : (n m : ℕ) (vs o : List ℤ) → m ≡ length vs + n → drop m (onto vs o) ≡ drop n o
drop_more n m [] o e = let q : m ≡ n = omega arith in rw q refl
drop_more n m (v ∷ vs) o e = drop_more (suc n) m vs (v ∷ o) (omega arith)

pub drop-onto : (vs o : List ℤ) → drop (length vs) (onto vs o) ≡ o
drop-onto vs o = drop_more 0 (length vs) vs o (omega arith)

pub length-onto : (vs o : List ℤ) → length (onto vs o) ≡ length vs + length o
length-onto [] o = omega arith
length-onto (v ∷ vs) o = let e = length-onto vs (v ∷ o) in omega arith

fill_zeros : (n m : ℕ) → m ≡ n → replicate m (pos 0) ≡ fill n []
fill_zeros zero m e = rw e refl
fill_zeros (suc n) m e = rw e (ap (λ (l : List ℤ). pos 0 ∷ l) (fill_zeros n n refl))

pub filled : (n m : ℕ) (vs : List ℤ) → n ≡ length vs + m → vs ++ replicate m (pos 0) ≡ fill n vs
filled n m [] e = fill_zeros n m (omega arith)
filled zero m (v ∷ vs) e = absurd (omega arith)
filled (suc n) m (v ∷ vs) e = ap (λ (l : List ℤ). v ∷ l) (filled n m vs (omega arith))
