-- What each instruction makes of the machine in a scene.
use Rattle.std.proofs.Common.{◌≡◌, ℕ, suc, ◌+◌, ◌-◌, ◌<◌, ◌≤◌, Bool, true, false, ltb, List, [], ◌∷◌, length, ℤ, Some, None, refl, ap, ◌∙◌, arith}
use Rattle.std.proofs.lemmas.Bool.{lt-ltb, le-ltb}
use Rattle.table.specs.declared.shape.Kind.{Kind}
use Rattle.table.specs.declared.shape.Scope.TheVariants.{Own, Main}
use Rattle.table.specs.declared.shape.Unary.{Unary}
use Rattle.table.specs.declared.shape.Binary.{Binary}
use Rattle.table.specs.declared.shape.Comparison.{Comparison}
use Rattle.code.specs.declared.instruction.Entry.{Entry}
use Rattle.code.specs.declared.instruction.Jump.{Jump}
use Rattle.code.specs.declared.instruction.Instruction.TheVariants.{Variable, Binary as OfTwo, Compare, Holds, Assign, Jump as Goto}
use Rattle.machine.specs.declared.plan.Cause.TheVariants.{ZeroDivisor, TooDeep}
use Rattle.machine.specs.declared.plan.Plan.TheVariants.{Went, Fault}
use Rattle.machine.specs.View.{Act, state}
use Rattle.machine.specs.Values.{apply_unary as changes, apply_binary as joins, compared, is_true}
use Rattle.machine.specs.Acts.{pushed, loaded, stored, dropped, changed, joined, branched, tested}
use Rattle.machine.specs.States.{settled, main_variables as mains_of, from_main, to_main, has_result, entry_at, called, run}
use Rattle.language.specs.State.{State, main_variables, get, put, last_of, set_main, opened, fill, activations}
use Rattle.simulation.proofs.Rows.{Frame, acts, Scene, top_act, machine_at, Shape, even, acts-length, mains, put-main, onto, args-onto, drop-onto, length-onto, filled}

-- where a condition's jump leads
abbrev pub aimed : Bool → Bool → ℕ → ℕ → ℕ
aimed true true t next = t
aimed true false t next = next
aimed false true t next = next
aimed false false t next = t

-- The scene of a function that is called from this one: it gives back to address ra, where o is left of the operands.
abbrev pub callee : Scene → List ℤ → List Kind → Bool → ℕ → Scene
callee c o kinds gives ra =
    record { kinds = kinds; rows = c.kinds ∷ c.rows; gives = gives; back = ra; frames = record { ops = o; gives = c.gives; back = c.back } ∷ c.frames }

module _ (code : List ℕ) (c : Scene) (a p : ℕ) (o : List ℤ) (s : State) where
  pub does_push : (v : ℤ) → length s.own + length o < 64 → settled (pushed v) p (a + 1) (machine_at a o c s) ≡ (machine_at (a + 1) (v ∷ o) c s, Went)
  unfolding settled pushed
  does_push v l = rw (lt-ltb (length s.own + length o) 64 l) refl

  pub does_own : (x : ℕ) → x < length s.own → length s.own + length o < 64 → run (Variable Own x) p (a + 1) code (machine_at a o c s) ≡ (machine_at (a + 1) (get Own x s ∷ o) c s, Went)
  unfolding settled pushed loaded
  does_own x h l = rw (lt-ltb x (length s.own) h, lt-ltb (length s.own + length o) 64 l) refl

  pub does_main : (x : ℕ) → length c.rows ≡ length c.frames → Shape c s → x < length (main_variables s) → length s.own + length o < 64 → run (Variable Main x) p (a + 1) code (machine_at a o c s) ≡ (machine_at (a + 1) (get Main x s ∷ o) c s, Went)
  unfolding from_main
  does_main x m S h l = rw (mains a o c s m S, lt-ltb x (length (main_variables s)) h) (does_push (get Main x s) l)

  pub does_unary : (u : Unary) (v : ℤ) → settled (changed u) p (a + 1) (machine_at a (v ∷ o) c s) ≡ (machine_at (a + 1) (changes u v ∷ o) c s, Went)
  unfolding settled changed
  does_unary u v = refl

  pub does_binary : (b : Binary) (k : Kind) (x y v : ℤ) → joins b k x y ≡ Some v → run (OfTwo b k) p (a + 1) code (machine_at a (y ∷ x ∷ o) c s) ≡ (machine_at (a + 1) (v ∷ o) c s, Went)
  unfolding settled joined
  does_binary b k x y v e = rw e refl

  pub does_zero : (b : Binary) (k : Kind) (x y : ℤ) → joins b k x y ≡ None → run (OfTwo b k) p (a + 1) code (machine_at a (y ∷ x ∷ o) c s) ≡ (machine_at a (y ∷ x ∷ o) c s, Fault ZeroDivisor p)
  unfolding settled joined
  does_zero b k x y e = rw e refl

  pub does_compare : (q : Comparison) (k : Kind) (w : Bool) (t : ℕ) (x y : ℤ) (b : Bool) → compared q k x y ≡ b → run (Compare q k w t) p (a + 1) code (machine_at a (y ∷ x ∷ o) c s) ≡ (machine_at (aimed w b t (a + 1)) o c s, Went)
  unfolding settled branched
  does_compare q k true t x y true e = rw e refl
  does_compare q k true t x y false e = rw e refl
  does_compare q k false t x y true e = rw e refl
  does_compare q k false t x y false e = rw e refl

  pub does_holds : (w : Bool) (t : ℕ) (x : ℤ) (b : Bool) → is_true x ≡ b → run (Holds w t) p (a + 1) code (machine_at a (x ∷ o) c s) ≡ (machine_at (aimed w b t (a + 1)) o c s, Went)
  unfolding settled tested
  does_holds true t x true e = rw e refl
  does_holds true t x false e = rw e refl
  does_holds false t x true e = rw e refl
  does_holds false t x false e = rw e refl

  pub does_goto : (j : Jump) (t : ℕ) → run (Goto j t) p (a + 1) code (machine_at a o c s) ≡ (machine_at t o c s, Went)
  unfolding settled
  does_goto j t = refl

  pub does_store : (x : ℕ) (v : ℤ) → x < length s.own → run (Assign Own x) p (a + 1) code (machine_at a (v ∷ o) c s) ≡ (machine_at (a + 1) o c (put Own x v s), Went)
  unfolding settled stored
  does_store x v h = rw (lt-ltb x (length s.own) h) refl

  pub does_drop : (v : ℤ) → settled dropped p (a + 1) (machine_at a (v ∷ o) c s) ≡ (machine_at (a + 1) o c s, Went)
  unfolding settled dropped
  does_drop v = refl

  store_main : (x : ℕ) (v : ℤ) (rs : List (List ℤ)) (fs : List Frame) → length rs ≡ length fs → 0 < length rs → mains_of (top_act (v ∷ o) c s ∷ acts rs fs) ≡ last_of s.own rs → x < length (last_of s.own rs)
      → to_main x p (a + 1) (state (top_act (v ∷ o) c s ∷ acts rs fs) a) ≡ (state (top_act o c s ∷ acts (set_main rs x v) fs) (a + 1), Went)
  unfolding to_main dropped
  store_main x v [] fs m l q h = absurd (omega arith)
  store_main x v (r ∷ rs) [] m l q h = absurd (omega arith)
  store_main x v (r ∷ rs) (f ∷ fs) m l q h =
      rw (q, lt-ltb x (length (last_of r rs)) h) (ap (λ (z : List Act). (state (top_act o c s ∷ z) (a + 1), Went)) (put-main r f rs fs x v (omega arith)))

  pub does_store_main : (x : ℕ) (v : ℤ) → length c.rows ≡ length c.frames → 0 < length c.rows → Shape c s → x < length (main_variables s) → run (Assign Main x) p (a + 1) code (machine_at a (v ∷ o) c s) ≡ (machine_at (a + 1) o c (put Main x v s), Went)
  does_store_main x v m l S h =
      let e = even c.rows s.callers S.callers in
      store_main x v s.callers c.frames (e ∙ m) (omega arith) (mains a (v ∷ o) c s m S) h

  module _ (kinds : List Kind) (f : ℕ) (e : Entry) (vs : List ℤ) (there : entry_at code f ≡ Some e) (all : e.parameters ≡ length vs) (m : length c.rows ≡ length c.frames) (S : Shape c s) where
    open_acts : length (top_act (onto vs o) c s ∷ acts s.callers c.frames) ≡ activations s
    open_acts = ap suc (acts-length s.callers c.frames (even c.rows s.callers S.callers ∙ m))

    enough : ltb (length (onto vs o)) e.parameters ≡ false
    enough = le-ltb (length (onto vs o)) e.parameters (let q = length-onto vs o in omega arith)

    pub does_call : e.parameters ≤ e.variables → activations s < 32 → called code f p (a + 1) (machine_at a (onto vs o) c s) ≡ (machine_at e.address [] (callee c o kinds (has_result e.result) (a + 1)) (opened (fill e.variables vs) s), Went)
    unfolding called
    does_call l d =
        rw (there, enough, open_acts, lt-ltb (activations s) 32 d, all, args-onto vs o, drop-onto vs o, filled e.variables (e.variables - length vs) vs (omega arith)) refl

    pub does_deep : 32 ≤ activations s → called code f p (a + 1) (machine_at a (onto vs o) c s) ≡ (machine_at a (onto vs o) c s, Fault TooDeep p)
    unfolding called
    does_deep d = rw (there, enough, open_acts, le-ltb (activations s) 32 d) refl
