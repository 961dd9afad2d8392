-- What a store into the table of activations does to the list of those that are open.
use Rattle.std.proofs.Common.{◌≡◌, ℕ, zero, suc, ◌+◌, ◌-◌, ◌<◌, ◌≤◌, Bool, true, false, cond, ltb, ◌≢◌, List, [], ◌∷◌, ◌++◌, length, get_or, take, drop, set, replicate, ℤ, pos, Some, None, Ok, Option, Result, sym, refl, ap, ◌∙◌, arith, get_or-set_other, get_or-set_same}
use Rattle.std.specs.Option.{unwrap_or}
use Rattle.std.proofs.lemmas.Bool.Decides.{nat_tests}
use Rattle.code.specs.Fields.{node_of}
use Rattle.code.specs.Word.{instruction_of}
use Rattle.code.specs.declared.instruction.Entry.{Entry}
use Rattle.code.specs.declared.instruction.Instruction.{Instruction}
use Rattle.code.specs.declared.instruction.Instruction.TheVariants.{Read as ReadAct, Write}
use Rattle.table.specs.declared.shape.Format.{Format}
use Rattle.machine.specs.declared.state.Activation.{Activation}
use Rattle.machine.specs.declared.plan.Cause.{Cause}
use Rattle.machine.specs.declared.plan.Cause.TheVariants.{BadCode, TooDeep}
use Rattle.machine.specs.declared.plan.Plan.{Plan}
use Rattle.machine.specs.declared.plan.Plan.TheVariants.{Went, Over, Fault}
use Rattle.machine.specs.View.{Act, State, state, act_of, seen, blank, tops}
use Rattle.machine.specs.Acts.{with_ops, with_vars, size, first, pushed, dropped}
use Rattle.machine.specs.States.{concluded, on_top, settled, main_of, put_main, main_variables, variable_at, loading_main, from_main, set_main, popped, storing_main, to_main, args, has_result, fresh, entry_at, calling, called_by, called, leaving, left, handing, returning, returned, top_free, to_read, top_last, to_send, run, run_by, fetched, main_entry, opened, begun, advancing, advanced}
use Rattle.machine.proofs.Cells.{down_none}
use Rattle.machine.proofs.Passed.{passed-vars}

tops-set : (xs : List Activation) (d k : ℕ) (x : Activation) → d ≤ k → tops (set xs k x) d ≡ tops xs d
unfolding tops
tops-set xs zero k x h = refl
tops-set xs (suc d) k x h =
    let ne : d ≢ k = omega arith in
    let e = ap seen (get_or-set_other xs k d x blank ne) in
    let f = tops-set xs d k x (omega arith) in cc

tops-top : (xs : List Activation) (n : ℕ) → 0 < n → tops xs n ≡ seen (get_or xs (n - 1) blank) ∷ tops xs (n - 1)
unfolding tops
tops-top xs n h = let e : n ≡ suc (n - 1) = omega arith in by (n - 1) n e
  where
    by : (m k : ℕ) → k ≡ suc m → tops xs k ≡ seen (get_or xs m blank) ∷ tops xs m
    by m k e = rw e refl

pub any_default : {A : Type 0} (l : List A) (i : ℕ) (d e : A) → i < length l → get_or l i d ≡ get_or l i e
any_default [] i d e h = let z : ⊥ = omega arith in absurd z
any_default (x ∷ xs) zero d e h = refl
any_default (x ∷ xs) (suc i) d e h = any_default xs i d e (omega arith)

pub length-tops : (xs : List Activation) (n : ℕ) → length (tops xs n) ≡ n
unfolding tops
length-tops xs zero = refl
length-tops xs (suc n) = ap suc (length-tops xs n)

pub none_open : (xs : List Activation) (n : ℕ) → n ≡ 0 → tops xs n ≡ []
unfolding tops
none_open xs n e = rw e refl

pub tops_more : (xs : List Activation) (n : ℕ) (x : Activation) → n < length xs → tops (set xs n x) (n + 1) ≡ seen x ∷ tops xs n
tops_more xs n x l =
    let t = tops-top (set xs n x) (n + 1) (omega arith) in
    let i : (n + 1) - 1 ≡ n = omega arith in
    let e = ap seen (get_or-set_same xs n x blank l) in
    let f = tops-set xs n n x (omega arith) in cc

-- main's activation
main_last : (xs : List Activation) (d : ℕ) → main_of (seen (get_or xs d blank)) (tops xs d) ≡ seen (get_or xs 0 blank)
unfolding tops
main_last xs zero = refl
main_last xs (suc d) = main_last xs d

main-put : (xs : List Activation) (d : ℕ) (x : Activation) → 0 < length xs → tops (set xs 0 x) (suc d) ≡ put_main (seen x) (tops xs (suc d))
unfolding tops
main-put xs zero x h = ap (λ (a : Activation). seen a ∷ []) (get_or-set_same xs 0 x blank h)
main-put xs (suc d) x h =
    let ne : suc d ≢ 0 = omega arith in
    let e = ap seen (get_or-set_other xs 0 (suc d) x blank ne) in
    let f = main-put xs d x h in cc

-- the table xs, of which n are open
module _ (xs : List Activation) (n : ℕ) (h : 0 < n) (l : n ≤ length xs) where
  -- the newest activation, and those below it
  pub tops-at : (d : Activation) → tops xs n ≡ seen (get_or xs (n - 1) d) ∷ tops xs (n - 1)
  tops-at d =
      let t = tops-top xs n h in
      let e = ap seen (any_default xs (n - 1) d blank (omega arith)) in cc

  pub tops-put : (y : Activation) → tops (set xs (n - 1) y) n ≡ seen y ∷ tops xs (n - 1)
  tops-put y =
      let t = tops-top (set xs (n - 1) y) n h in
      let e = ap seen (get_or-set_same xs (n - 1) y blank (omega arith)) in
      let f = tops-set xs (n - 1) (n - 1) y (omega arith) in cc

  pub main-at : (d : Activation) → main_variables (tops xs n) ≡ (seen (get_or xs 0 d)).vars
  unfolding main_variables
  main-at d =
      let t = tops-top xs n h in
      let e = ap seen (any_default xs 0 d blank (omega arith)) in
      ap main_variables t ∙ (ap (λ (a : Act). a.vars) (main_last xs (n - 1)) ∙ sym (ap (λ (a : Act). a.vars) e))

  pub top_last_lem : (d : Activation) → top_last (tops xs n) ≡ first (seen (get_or xs (n - 1) d)).ops
  top_last_lem d = ap top_last (tops-at d)

  pub top-free : (d : Activation) → top_free (tops xs n) ≡ ltb (size (seen (get_or xs (n - 1) d))) 64
  top-free d = ap top_free (tops-at d)

  -- an act of the newest activation, concluded
  pub top-done : (p node next : ℕ) (f : Act → Act × Result (Option ℕ) Cause) (d y : Activation) (r : Result (Option ℕ) Cause) → (seen y, r) ≡ f (seen (get_or xs (n - 1) d))
      → concluded r node next (state (tops (set xs (n - 1) y) n) p) ≡ settled f node next (state (tops xs n) p)
  unfolding settled
  top-done p node next f d y r e =
      ap (λ (z : List Act). concluded r node next (state z p)) (tops-put y)
      ∙ (ap (λ (z : Act × Result (Option ℕ) Cause). concluded z.1 node next (state (z.0 ∷ tops xs (n - 1)) p)) e ∙ sym (ap (on_top f node next p) (tops-at d)))

pub settled_none : (xs : List Activation) (n p node next : ℕ) (f : Act → Act × Result (Option ℕ) Cause) → n ≡ 0 → (state (tops xs n) p, Fault BadCode node) ≡ settled f node next (state (tops xs n) p)
unfolding settled
settled_none xs n p node next f e =
    let t = none_open xs n e in
    ap (λ (z : List Act). (state z p, Fault BadCode node)) t ∙ sym (ap (on_top f node next p) t)

pub call_none : (code : List ℕ) (f node next : ℕ) (s : State) → None ≡ entry_at code f → (s, Fault BadCode node) ≡ called code f node next s
unfolding called
call_none code f node next s e = ap (λ (o : Option Entry). called_by o node next s) e

pub leave_main : (xs : List Activation) (n p node : ℕ) (cause : Cause) → 0 < n → n - 1 ≡ 0 → (state (tops xs n) p, Over) ≡ left cause node (state (tops xs n) p)
unfolding left tops
leave_main xs n p node cause h e = let f : n ≡ 1 = omega arith in rw f refl

pub return-main : (xs : List Activation) (n p node : ℕ) → 0 < n → n - 1 ≡ 0 → (state (tops xs n) p, Fault BadCode node) ≡ returned node (state (tops xs n) p)
unfolding returned tops
return-main xs n p node h e = let f : n ≡ 1 = omega arith in rw f refl

-- main's variables and the table xs, of which n are open, with the next word at p
module _ (xs : List Activation) (n p node next : ℕ) (h : 0 < n) (l : n ≤ length xs) where
  abbrev here : State
  here = state (tops xs n) p

  module _ (i : ℕ) (m : Activation) where
    of-main : {B : Type 0} (f : List ℤ → B) → f (seen (get_or xs 0 m)).vars ≡ f (main_variables (tops xs n))
    of-main f = sym (ap f (main-at xs n h l m))

    pub load_main_none : None ≡ variable_at (seen (get_or xs 0 m)).vars i → (here, Fault BadCode node) ≡ from_main i node next here
    unfolding from_main
    load_main_none e = ap (λ (o : Option ℤ). loading_main o node next here) (e ∙ of-main (λ vs. variable_at vs i))

    pub load_main_some : (v : ℤ) → Some v ≡ variable_at (seen (get_or xs 0 m)).vars i → settled (pushed v) node next here ≡ from_main i node next here
    unfolding from_main
    load_main_some v e = ap (λ (o : Option ℤ). loading_main o node next here) (e ∙ of-main (λ vs. variable_at vs i))

    module _ (d : Activation) where
      with_last : (o : Option ℤ) → o ≡ first (seen (get_or xs (n - 1) d)).ops → storing_main i o node next here ≡ to_main i node next here
      unfolding to_main
      with_last o e = ap (λ (q : Option ℤ). storing_main i q node next here) (e ∙ sym (top_last_lem xs n h l d))

      pub store_main_none : None ≡ first (seen (get_or xs (n - 1) d)).ops → (here, Fault BadCode node) ≡ to_main i node next here
      store_main_none e = with_last None e

      module _ (v : ℤ) (e : Some v ≡ first (seen (get_or xs (n - 1) d)).ops) where
        pub store_main_slot : false ≡ ltb i (length (seen (get_or xs 0 m)).vars) → (here, Fault BadCode node) ≡ to_main i node next here
        store_main_slot g =
            let t : ltb i (length (main_variables (tops xs n))) ≡ false = sym (g ∙ of-main (λ vs. ltb i (length vs))) in
            let u : (here, Fault BadCode node) ≡ storing_main i (Some v) node next here = rw t refl in u ∙ with_last (Some v) e

        pub store_main_there : true ≡ ltb i (length (seen (get_or xs 0 m)).vars) → (z y d2 : Activation) (r : Result (Option ℕ) Cause) → seen z ≡ with_vars (seen (get_or xs 0 m)) (set (seen (get_or xs 0 m)).vars i v)
            → n ≤ length (set xs 0 z) → (seen y, r) ≡ dropped (seen (get_or (set xs 0 z) (n - 1) d2)) → (state (tops (set (set xs 0 z) (n - 1) y) n) next, Went) ≡ to_main i node next here
        store_main_there g z y d2 r q k f =
            let t : ltb i (length (main_variables (tops xs n))) ≡ true = sym (g ∙ of-main (λ vs. ltb i (length vs))) in
            let u : (state (popped (set_main i v (tops xs n))) next, Went) ≡ storing_main i (Some v) node next here = rw t refl in
            ap (λ (ys : List Act). (state ys next, Went)) acts_are ∙ (u ∙ with_last (Some v) e)
          where
            main_is : main_of (seen (get_or xs (n - 1) blank)) (tops xs (n - 1)) ≡ seen (get_or xs 0 m)
            main_is = main_last xs (n - 1) ∙ ap seen (any_default xs 0 blank m (omega arith))

            put_is : tops (set xs 0 z) n ≡ put_main (seen z) (tops xs n)
            put_is = let w : n ≡ suc (n - 1) = omega arith in by (n - 1) n w
              where
                by : (a b : ℕ) → b ≡ suc a → tops (set xs 0 z) b ≡ put_main (seen z) (tops xs b)
                by a b w = rw w (main-put xs a z (omega arith))

            set_is : set_main i v (tops xs n) ≡ put_main (seen z) (tops xs n)
            set_is =
                let t = tops-top xs n h in
                ap (set_main i v) t
                ∙ (ap (λ (a : Act). put_main (with_vars a (set a.vars i v)) (seen (get_or xs (n - 1) blank) ∷ tops xs (n - 1))) main_is
                ∙ (ap (λ (a : Act). put_main a (seen (get_or xs (n - 1) blank) ∷ tops xs (n - 1))) (sym q) ∙ ap (put_main (seen z)) (sym t)))

            acts_are : tops (set (set xs 0 z) (n - 1) y) n ≡ popped (set_main i v (tops xs n))
            acts_are =
                tops-put (set xs 0 z) n h k y
                ∙ (ap (λ (a : Act × Result (Option ℕ) Cause). a.0 ∷ tops (set xs 0 z) (n - 1)) f
                ∙ (sym (ap popped (tops-at (set xs 0 z) n h k d2)) ∙ ap popped (put_is ∙ sym set_is)))

  -- calls
  module _ (code : List ℕ) (f : ℕ) where
    module _ (g : Entry) (e : Some g ≡ entry_at code f) (d : Activation) where
      abbrev top : Act
      top = seen (get_or xs (n - 1) d)

      with_entry : (r : State × Plan) → r ≡ calling g node next p (top ∷ tops xs (n - 1)) → r ≡ called code f node next here
      unfolding called
      with_entry r q = q ∙ (sym (ap (calling g node next p) (tops-at xs n h l d)) ∙ ap (λ (o : Option Entry). called_by o node next here) e)

      pub call-few : length top.ops < g.parameters → (here, Fault BadCode node) ≡ called code f node next here
      call-few k =
          let t : ltb (length top.ops) g.parameters ≡ true = grind (arith, nat_tests) in
          with_entry _ (ap (λ (z : List Act). (state z p, Fault BadCode node)) (tops-at xs n h l d) ∙ rw t refl)

      module _ (k : g.parameters ≤ length top.ops) where
        enough : ltb (length top.ops) g.parameters ≡ false
        enough = grind (arith, nat_tests)

        open_now : length (top ∷ tops xs (n - 1)) ≡ n
        open_now = let t = length-tops xs (n - 1) in omega arith

        pub call-deep : 32 ≤ n → (here, Fault TooDeep node) ≡ called code f node next here
        call-deep m =
            let t : ltb (length (top ∷ tops xs (n - 1))) 32 ≡ false = rw open_now (grind (arith, nat_tests)) in
            with_entry _ (ap (λ (z : List Act). (state z p, Fault TooDeep node)) (tops-at xs n h l d) ∙ rw enough (rw t refl))

        pub call_in : n < 32 → (y z : Activation) → seen y ≡ with_ops top (drop g.parameters top.ops) → seen z ≡ fresh g next (args g.parameters top.ops)
            → n < length (set xs (n - 1) y) → (state (tops (set (set xs (n - 1) y) n z) (n + 1)) g.address, Went) ≡ called code f node next here
        call_in m y z q r w =
            let t : ltb (length (top ∷ tops xs (n - 1))) 32 ≡ true = rw open_now (grind (arith, nat_tests)) in
            let i : (n + 1) - 1 ≡ n = omega arith in
            let a = tops_more (set xs (n - 1) y) n z w in
            let b = tops-put xs n h l y in
            let u : tops (set (set xs (n - 1) y) n z) (n + 1) ≡ fresh g next (args g.parameters top.ops) ∷ with_ops top (drop g.parameters top.ops) ∷ tops xs (n - 1) = cc in
            with_entry _ (ap (λ (s : List Act). (state s g.address, Went)) u ∙ rw enough (rw t refl))

  -- closing
  module _ (k : n - 1 ≡ 0 → ⊥) (d c : Activation) where
    abbrev newest : Act
    newest = seen (get_or xs (n - 1) d)

    abbrev caller : Act
    caller = seen (get_or xs ((n - 1) - 1) c)

    tops-two : tops xs n ≡ newest ∷ caller ∷ tops xs ((n - 1) - 1)
    tops-two =
        let t = tops-at xs n h l d in
        let u = tops-at xs (n - 1) (omega (arith, k)) (omega arith) c in cc

    abbrev leaves_by : Cause → Bool → State × Plan
    leaves_by cause b = cond b (state (newest ∷ caller ∷ tops xs ((n - 1) - 1)) p, Fault cause node) (state (caller ∷ tops xs ((n - 1) - 1)) newest.back, Went)

    leaves : (cause : Cause) (r : State × Plan) (b : Bool) → b ≡ newest.gives → r ≡ leaves_by cause b → r ≡ left cause node here
    unfolding left
    leaves cause r b e q = q ∙ (ap (leaves_by cause) e ∙ sym (ap (leaving cause node p) tops-two))

    pub leave_gives : (cause : Cause) → newest.gives ≡ true → (here, Fault cause node) ≡ left cause node here
    leave_gives cause e = leaves cause _ true (sym e) (ap (λ (z : List Act). (state z p, Fault cause node)) tops-two)

    pub leave_back : (cause : Cause) → newest.gives ≡ false → (state (tops xs (n - 1)) newest.back, Went) ≡ left cause node here
    leave_back cause e = leaves cause _ false (sym e) (ap (λ (z : List Act). (state z newest.back, Went)) (tops-at xs (n - 1) (omega (arith, k)) (omega arith) c))

    abbrev bad : State × Plan
    bad = (state (newest ∷ caller ∷ tops xs ((n - 1) - 1)) p, Fault BadCode node)

    abbrev returns_by : Bool → Option ℤ → State × Plan
    returns_by b o = cond b (handing node p newest caller (tops xs ((n - 1) - 1)) o) bad

    with_two : (r : State × Plan) (b : Bool) (o : Option ℤ) → b ≡ newest.gives → o ≡ first newest.ops → r ≡ returns_by b o → r ≡ returned node here
    unfolding returned
    with_two r b o e f q = q ∙ (ap (λ (x : Bool). returns_by x o) e ∙ (ap (returns_by newest.gives) f ∙ sym (ap (returning node p) tops-two)))

    bad_is : (here, Fault BadCode node) ≡ bad
    bad_is = ap (λ (z : List Act). (state z p, Fault BadCode node)) tops-two

    pub return_not : newest.gives ≡ false → (here, Fault BadCode node) ≡ returned node here
    return_not e = with_two _ false (first newest.ops) (sym e) refl bad_is

    module _ (e : newest.gives ≡ true) where
      pub return_none : None ≡ first newest.ops → (here, Fault BadCode node) ≡ returned node here
      return_none f = with_two _ true None (sym e) f bad_is

      module _ (v : ℤ) (f : Some v ≡ first newest.ops) where
        pub return_full : false ≡ ltb (size caller) 64 → (here, Fault BadCode node) ≡ returned node here
        return_full g = with_two _ true (Some v) (sym e) f (bad_is ∙ rw (← g) refl)

        pub return_in : true ≡ ltb (size caller) 64 → (y : Activation) (r : Result (Option ℕ) Cause) → (seen y, r) ≡ pushed v caller → (state (tops (set xs ((n - 1) - 1) y) (n - 1)) newest.back, Went) ≡ returned node here
        unfolding pushed
        return_in g y r q =
            let u : pushed v caller ≡ (with_ops caller (v ∷ caller.ops), Ok None) = rw (← g) refl in
            let w : seen y ≡ with_ops caller (v ∷ caller.ops) = ap (λ (z : Act × Result (Option ℕ) Cause). z.0) (q ∙ u) in
            let t = tops-put xs (n - 1) (omega (arith, k)) (omega arith) y in
            with_two _ true (Some v) (sym e) f (ap (λ (z : List Act). (state z newest.back, Went)) (t ∙ ap (λ (a : Act). a ∷ tops xs ((n - 1) - 1)) w) ∙ rw (← g) refl)

-- a new activation
pub fresh_is : (g : Entry) (back : ℕ) (vs cells : List ℤ) → cells ≡ vs ++ replicate (64 - g.parameters) (pos 0) → length vs ≡ g.parameters → g.parameters ≤ g.variables → g.variables ≤ 32
    → act_of cells g.variables g.variables (has_result g.result) back ≡ fresh g back vs
fresh_is g back vs cells e f k m =
    let t = passed-vars vs g.variables (64 - g.parameters) (pos 0) (omega arith) (omega arith) in
    let u : take g.variables cells ≡ vs ++ replicate (g.variables - g.parameters) (pos 0) = ap (take g.variables) e ∙ (t ∙ ap (λ (j : ℕ). vs ++ replicate (g.variables - j) (pos 0)) f) in
    let w = down_none cells g.variables g.variables (omega arith) in
    rw (u, w) refl

-- the next word
pub fetch-out : (code : List ℕ) (s : State) → length code ≤ s.at → (s, Fault BadCode 0) ≡ fetched code s
unfolding fetched
fetch-out code s h = let e : ltb s.at (length code) ≡ false = grind (arith, nat_tests) in rw e refl

pub fetch_in : (code : List ℕ) (s : State) (o : Option Instruction) (node : ℕ) → s.at < length code → o ≡ instruction_of (get_or code s.at 0) → node ≡ node_of (get_or code s.at 0)
    → run_by o node (s.at + 1) code s ≡ fetched code s
unfolding fetched
fetch_in code s o node h k q =
    let e : ltb s.at (length code) ≡ true = grind (arith, nat_tests) in
    rw e (ap (λ (z : Option Instruction). run_by z node (s.at + 1) code s) k ∙ ap (λ (z : ℕ). run_by (instruction_of (get_or code s.at 0)) z (s.at + 1) code s) q)

-- the first step, and a later one
pub first_none : (code : List ℕ) (s : State) → s.acts ≡ [] → None ≡ main_entry code → (s, Fault BadCode 0) ≡ advanced code s
unfolding advanced
first_none code s e h = ap (begun code s) h ∙ sym (ap (advancing code s) e)

pub first_step : (code : List ℕ) (s : State) (g : Entry) → s.acts ≡ [] → Some g ≡ main_entry code → fetched code (opened g) ≡ advanced code s
unfolding advanced
first_step code s g e h = ap (begun code s) h ∙ sym (ap (advancing code s) e)

pub later_step : (code : List ℕ) (xs : List Activation) (n p : ℕ) → 0 < n → fetched code (state (tops xs n) p) ≡ advanced code (state (tops xs n) p)
unfolding advanced
later_step code xs n p h = sym (ap (advancing code (state (tops xs n) p)) (tops-top xs n h))

-- main alone
pub main-opened : (xs : List Activation) (x : Activation) (p : ℕ) (g : Entry) → 0 < length xs → seen x ≡ act_of (replicate 64 (pos 0)) g.variables g.variables (has_result g.result) 0
    → g.variables ≤ 32 → g.parameters ≡ 0 → p ≡ g.address → state (tops (set xs 0 x) 1) p ≡ opened g
main-opened xs x p g h e k m q =
    let t = tops_more xs 0 x h in
    let n = none_open xs 0 refl in
    let v : 64 - g.parameters ≡ 64 = omega arith in
    let f = fresh_is g 0 [] (replicate 64 (pos 0)) (ap (λ (j : ℕ). replicate j (pos 0)) (sym v)) (sym m) (omega arith) k in
    let u : tops (set xs 0 x) 1 ≡ fresh g 0 [] ∷ [] = cc in
    rw (u, q) refl

-- reads and writes, as far as they are planned
module _ (xs : List Activation) (n p node next : ℕ) (h : 0 < n) (l : n ≤ length xs) (code : List ℕ) (i : Instruction) (q : Format) where
  pub run-read : i ≡ ReadAct q → (d : Activation) (b : Bool) → b ≡ ltb (size (seen (get_or xs (n - 1) d))) 64 → (r : Plan) → r ≡ to_read b q node next → (state (tops xs n) p, r) ≡ run i node next code (state (tops xs n) p)
  run-read e d b f r g =
      let k : b ≡ top_free (tops xs n) = f ∙ sym (top-free xs n h l d) in
      ap (λ (z : Plan). (state (tops xs n) p, z)) (g ∙ ap (λ (z : Bool). to_read z q node next) k) ∙ sym (ap (λ (z : Instruction). run z node next code (state (tops xs n) p)) e)

  pub run-write : i ≡ Write q → (d : Activation) (o : Option ℤ) → o ≡ first (seen (get_or xs (n - 1) d)).ops → (r : Plan) → r ≡ to_send o q node next → (state (tops xs n) p, r) ≡ run i node next code (state (tops xs n) p)
  run-write e d o f r g =
      let k : o ≡ top_last (tops xs n) = f ∙ sym (top_last_lem xs n h l d) in
      ap (λ (z : Plan). (state (tops xs n) p, z)) (g ∙ ap (λ (z : Option ℤ). to_send z q node next) k) ∙ sym (ap (λ (z : Instruction). run z node next code (state (tops xs n) p)) e)

-- what stands in a slot, and 0 where there is none
pub slot_is : (vars : List ℤ) (i : ℕ) → unwrap_or (variable_at vars i) (pos 0) ≡ get_or vars i (pos 0)
slot_is vars i = by (ltb i (length vars)) refl
  where
    by : (b : Bool) → ltb i (length vars) ≡ b → unwrap_or (cond b (Some (get_or vars i (pos 0))) None) (pos 0) ≡ get_or vars i (pos 0)
    by true e = refl
    by false e = let h : length vars ≤ i = grind (arith, nat_tests) in past vars i h
      where
        past : (ys : List ℤ) (i : ℕ) → length ys ≤ i → pos 0 ≡ get_or ys i (pos 0)
        past [] i h = refl
        past (y ∷ ys) zero h = let z : ⊥ = omega arith in absurd z
        past (y ∷ ys) (suc i) h = past ys i (omega arith)
