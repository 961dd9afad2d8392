-- Steps over a line.
use Rattle.std.proofs.Common.{◌≡◌, ℕ, zero, suc, ◌+◌, ◌-◌, ◌<◌, ◌≤◌, Bool, true, false, cond, eqb, ltb, leb, List, [], ◌∷◌, ◌++◌, length, get_or, drop, ℤ, Some, None, Ok, Err, Option, Result, sym, refl, ap, ◌∙◌, subst, arith, length-drop}
use Rattle.std.specs.Bool.{then_some}
use Rattle.std.proofs.lemmas.Bool.Decides.{nat_tests}
use Rattle.table.specs.declared.shape.Scope.TheVariants.{Own, Main}
use Rattle.table.specs.declared.shape.Format.{Format}
use Rattle.line.specs.Ends.{Removed}
use Rattle.line.specs.declared.refusal.LineRefusal.{LineRefusal}
use Rattle.code.specs.declared.instruction.Entry.{Entry}
use Rattle.code.specs.declared.instruction.Instruction.{Instruction}
use Rattle.code.specs.declared.instruction.Instruction.TheVariants.{Constant, Variable, Minus, ByteNot, Binary as OfTwo, Call, Shrink, Read as ReadAct, Compare, Holds, Assign, Perform, Jump as Goto, Exit, Return, Close, Write}
use Rattle.code.specs.Fields.{node_of}
use Rattle.code.specs.Word.{instruction_of}
use Rattle.machine.specs.declared.plan.Cause.{Cause}
use Rattle.machine.specs.declared.plan.Cause.TheVariants.{BadCode, NoReturn, NoRoom}
use Rattle.machine.specs.declared.plan.Plan.{Plan}
use Rattle.machine.specs.declared.plan.Plan.TheVariants.{Went, Over, Fault, Read, Send}
use Rattle.machine.specs.declared.plan.Latch.{Latch}
use Rattle.machine.specs.declared.plan.Latch.TheVariants.{Open, Ended as Closed, Failed as Broken}
use Rattle.machine.specs.declared.plan.Outcome.{Outcome}
use Rattle.machine.specs.declared.plan.Outcome.TheVariants.{Ended, Failed}
use Rattle.machine.specs.declared.state.Activation.{Activation}
use Rattle.machine.specs.View.{Act, State, state, tops}
use Rattle.machine.specs.Acts.{with_ops, with_one, size, first, pushed, dropped, act_by}
use Rattle.machine.specs.States.{concluded, on_top, settled, main_variables, variable_at, loading_main, from_main, storing_main, to_main, entry_at, calling, called_by, called, leaving, left, handing, returning, returned, top_free, to_read, top_last, to_send, run, run_by, fetched, main_entry, opened, begun, advancing, advanced, undone}
use Rattle.machine.specs.Steps.{World, world, latch_of, outcome_of, finished, delivered, performed, stepping, stepped, Held}
use Rattle.machine.proofs.Tables.{none_open, later_step}

-- What a plan that needs the line leaves: the machine as it was, with a cell free or with the operand.
abbrev pub Planned : State → State → Plan → Type 0
Planned s s' Went = Unit {0}
Planned s s' Over = Unit {0}
Planned s s' (Fault c n) = Unit {0}
Planned s s' (Read q node next) = (s' ≡ s) × (top_free s.acts ≡ true)
Planned s s' (Send q v node next) = (s' ≡ s) × (top_last s.acts ≡ Some v)

abbrev Plans : State → State × Plan → Type 0
Plans s p = Planned s p.0 p.1

plans_cond : (s : State) (b : Bool) (x y : State × Plan) → Plans s x → Plans s y → Plans s (cond b x y)
plans_cond s true x y p q = p
plans_cond s false x y p q = q

plans_concluded : (s t : State) (e : Result (Option ℕ) Cause) (node next : ℕ) → Plans s (concluded e node next t)
plans_concluded s t (Ok target) node next = tt
plans_concluded s t (Err cause) node next = tt

plans_settled : (f : Act → Act × Result (Option ℕ) Cause) (node next : ℕ) (s : State) → Plans s (settled f node next s)
unfolding settled
plans_settled f node next s = by s.acts
  where
    by : (xs : List Act) → Plans s (on_top f node next s.at xs)
    by [] = tt
    by (a ∷ xs) = plans_concluded s (state ((f a).0 ∷ xs) s.at) (f a).1 node next

plans_from_main : (i node next : ℕ) (s : State) → Plans s (from_main i node next s)
unfolding from_main
plans_from_main i node next s = by (variable_at (main_variables s.acts) i)
  where
    by : (o : Option ℤ) → Plans s (loading_main o node next s)
    by None = tt
    by (Some v) = plans_settled (pushed v) node next s

plans_to_main : (i node next : ℕ) (s : State) → Plans s (to_main i node next s)
unfolding to_main
plans_to_main i node next s = by (top_last s.acts)
  where
    by : (o : Option ℤ) → Plans s (storing_main i o node next s)
    by None = tt
    by (Some v) = plans_cond s (ltb i (length (main_variables s.acts))) _ _ tt tt

plans_called : (code : List ℕ) (f node next : ℕ) (s : State) → Plans s (called code f node next s)
unfolding called
plans_called code f node next s = by (entry_at code f)
  where
    on : (e : Entry) (xs : List Act) → Plans s (calling e node next s.at xs)
    on e [] = tt
    on e (a ∷ xs) = plans_cond s (ltb (length a.ops) e.parameters) _ _ tt (plans_cond s (ltb (length (a ∷ xs)) 32) _ _ tt tt)

    by : (o : Option Entry) → Plans s (called_by o node next s)
    by None = tt
    by (Some e) = on e s.acts

plans_left : (cause : Cause) (node : ℕ) (s : State) → Plans s (left cause node s)
unfolding left
plans_left cause node s = by s.acts
  where
    by : (xs : List Act) → Plans s (leaving cause node s.at xs)
    by [] = tt
    by (a ∷ []) = tt
    by (a ∷ c ∷ cs) = plans_cond s a.gives _ _ tt tt

plans_returned : (node : ℕ) (s : State) → Plans s (returned node s)
unfolding returned
plans_returned node s = by s.acts
  where
    on : (a c : Act) (cs : List Act) (o : Option ℤ) → Plans s (handing node s.at a c cs o)
    on a c cs None = tt
    on a c cs (Some v) = plans_cond s (ltb (size c) 64) _ _ tt tt

    by : (xs : List Act) → Plans s (returning node s.at xs)
    by [] = tt
    by (a ∷ []) = tt
    by (a ∷ c ∷ cs) = plans_cond s a.gives _ _ (on a c cs (first a.ops)) tt

plans_run : (i : Instruction) (node next : ℕ) (code : List ℕ) (s : State) → Plans s (run i node next code s)
plans_run (Constant k v) node next code s = plans_settled (act_by (Constant k v)) node next s
plans_run (Variable Own x) node next code s = plans_settled (act_by (Variable Own x)) node next s
plans_run (Variable Main x) node next code s = plans_from_main x node next s
plans_run Minus node next code s = plans_settled (act_by Minus) node next s
plans_run ByteNot node next code s = plans_settled (act_by ByteNot) node next s
plans_run (OfTwo o k) node next code s = plans_settled (act_by (OfTwo o k)) node next s
plans_run (Call f) node next code s = plans_called code f node next s
plans_run Shrink node next code s = plans_settled (act_by Shrink) node next s
plans_run (ReadAct q) node next code s = by (top_free s.acts) refl
  where
    by : (b : Bool) → top_free s.acts ≡ b → Planned s s (to_read b q node next)
    by true e = (refl, e)
    by false e = tt
plans_run (Compare o k sense t) node next code s = plans_settled (act_by (Compare o k sense t)) node next s
plans_run (Holds sense t) node next code s = plans_settled (act_by (Holds sense t)) node next s
plans_run (Assign Own x) node next code s = plans_settled (act_by (Assign Own x)) node next s
plans_run (Assign Main x) node next code s = plans_to_main x node next s
plans_run (Perform f) node next code s = plans_called code f node next s
plans_run (Goto j t) node next code s = plans_settled (act_by (Goto j t)) node next s
plans_run Exit node next code s = plans_left BadCode node s
plans_run Return node next code s = plans_returned node s
plans_run Close node next code s = plans_left NoReturn node s
plans_run (Write q) node next code s = by (top_last s.acts) refl
  where
    by : (o : Option ℤ) → top_last s.acts ≡ o → Planned s s (to_send o q node next)
    by None e = tt
    by (Some v) e = (refl, e)

plans_fetched : (code : List ℕ) (s : State) → Plans s (fetched code s)
unfolding fetched
plans_fetched code s = plans_cond s (ltb s.at (length code)) _ _ (by (instruction_of (get_or code s.at 0))) tt
  where
    by : (o : Option Instruction) → Plans s (run_by o (node_of (get_or code s.at 0)) (s.at + 1) code s)
    by None = tt
    by (Some i) = plans_run i (node_of (get_or code s.at 0)) (s.at + 1) code s

-- a later step that comes to a read leaves the machine as it was
kept : (s s' : State) (q : Format) (n m : ℕ) (p : State × Plan) → (s', Read q n m) ≡ p → Plans s p → s' ≡ s
kept s s' q n m p e h = let g : Plans s (s', Read q n m) = subst (λ (z : State × Plan). Plans s z) (sym e) h in g.0

-- where a wait is undone
pub undo_is : (code : List ℕ) (xs : List Activation) (n p : ℕ) (s' : State) (q : Format) (a b : ℕ) → (s', Read q a b) ≡ advanced code (state (tops xs n) p)
    → undone (then_some (eqb n 0) p) s' ≡ state (tops xs n) p
undo_is code xs n p s' q a b e = by n e
  where
    by : (m : ℕ) → (s', Read q a b) ≡ advanced code (state (tops xs m) p) → undone (then_some (eqb m 0) p) s' ≡ state (tops xs m) p
    by zero e = sym (ap (λ (z : List Act). state z p) (none_open xs 0 refl))
    by (suc m) e =
        let z : eqb (suc m) 0 ≡ false = grind (arith, nat_tests) in
        rw z (kept (state (tops xs (suc m)) p) s' q a b (fetched code (state (tops xs (suc m)) p)) (e ∙ sym (later_step code xs (suc m) p (omega arith))) (plans_fetched code (state (tops xs (suc m)) p)))

-- a machine that has stopped
pub step-ended : (code : List ℕ) (s : State) (l : Latch) (ws ss : List ℕ) (r : ℕ) → l ≡ Closed → (world s l ws ss r, Ended) ≡ stepped code (world s l ws ss r)
unfolding stepped
step-ended code s l ws ss r e = rw e refl

pub step_failed : (code : List ℕ) (s : State) (l : Latch) (c : Cause) (n : ℕ) (ws ss : List ℕ) (r : ℕ) → l ≡ Broken c n → (world s l ws ss r, Failed c n) ≡ stepped code (world s l ws ss r)
unfolding stepped
step_failed code s l c n ws ss r e = rw e refl

-- one that has not
pub step_by : (code : List ℕ) (s : State) (l : Latch) (ws ss : List ℕ) (r : ℕ) (s' : State) (d : Plan) (x : World × Outcome) → l ≡ Open → (s', d) ≡ advanced code s → x ≡ performed s s' d ws ss r
    → x ≡ stepped code (world s l ws ss r)
unfolding stepped
step_by code s l ws ss r s' d x o e f =
    f ∙ (ap (λ (q : State × Plan). performed s q.0 q.1 ws ss r) e ∙ sym (ap (λ (z : Latch). stepping z code (world s z ws ss r)) o))

pub finished_is : (s : State) (d : Plan) (t : State) (l : Latch) (o : Outcome) (ws ss : List ℕ) (r : ℕ) → t ≡ s → l ≡ latch_of d → o ≡ outcome_of d → (world t l ws ss r, o) ≡ finished (s, d) ws ss r
finished_is s d t l o ws ss r e f g = rw (e, f, g) refl

pub performed-rest : (s s' : State) (d : Plan) (ws ss : List ℕ) (r : ℕ) → ((q : Format) (a b : ℕ) → d ≡ Read q a b → ⊥) → ((q : Format) (v : ℤ) (a b : ℕ) → d ≡ Send q v a b → ⊥)
    → finished (s', d) ws ss r ≡ performed s s' d ws ss r
performed-rest s s' Went ws ss r f g = refl
performed-rest s s' Over ws ss r f g = refl
performed-rest s s' (Fault c n) ws ss r f g = refl
performed-rest s s' (Read q a b) ws ss r f g = absurd (f q a b refl)
performed-rest s s' (Send q v a b) ws ss r f g = absurd (g q v a b refl)

-- a take of what was found
pub removed : (t : Result (Unit {0}) LineRefusal) (n : ℕ) (ws : List ℕ) (h : ℕ) (ws' : List ℕ) (h' : ℕ) → Removed t n ws h ws' h' → n ≤ length ws → (ws' ≡ drop n ws) × Held h h' ws ws'
removed (Ok u) n ws h ws' h' e l =
    let k : length ws' ≡ length ws - n = ap length e.1 ∙ length-drop n ws in (e.1, (e.2, omega (arith, e.3)))
removed (Err u) n ws h ws' h' e l = let z : ⊥ = omega (arith, e.1) in absurd z

pub taken_is : (s : State) (d : Plan) (t : State) (l : Latch) (o : Outcome) (n : ℕ) (ws ws' ss ss' : List ℕ) (r r' : ℕ) → t ≡ s → l ≡ latch_of d → o ≡ outcome_of d → ws' ≡ drop n ws → ss' ≡ ss → r' ≡ r
    → (world t l ws' ss' r', o) ≡ finished (s, d) (drop n ws) ss r
taken_is s d t l o n ws ws' ss ss' r r' e f g h i j = rw (e, f, g, h, i, j) refl

pub held : (h : ℕ) (ws ws' : List ℕ) → Held h h ws ws'
held h ws ws' = (omega arith, omega arith)

pub held_at : (h h' : ℕ) (ws ws' : List ℕ) → h' ≡ h → Held h h' ws ws'
held_at h h' ws ws' e = (omega arith, omega arith)

pub delivered_is : (s' t : State) (d : Plan) (l : Latch) (o : Outcome) (node next : ℕ) (text ws ws' ss ss' : List ℕ) (r r' : ℕ) → ss' ≡ ss ++ text → r ≡ r' + length text → ws' ≡ ws → (t, d) ≡ settled dropped node next s' → l ≡ latch_of d → o ≡ outcome_of d
    → (world t l ws' ss' r', o) ≡ delivered s' node next text ws ss r
delivered_is s' t d l o node next text ws ws' ss ss' r r' e f g h k m =
    let b : leb (length text) r ≡ true = grind (arith, nat_tests) in
    let q : r' ≡ r - length text = omega arith in
    let x : (world t l ws' ss' r', o) ≡ finished (t, d) ws (ss ++ text) (r - length text) = rw (e, q, g, k, m) refl in
    x ∙ (ap (λ (z : State × Plan). finished z ws (ss ++ text) (r - length text)) h ∙ rw b refl)

pub undelivered_is : (s' t : State) (l : Latch) (o : Outcome) (node next : ℕ) (text ws ws' ss ss' : List ℕ) (r r' : ℕ) → r < length text → ss' ≡ ss → r' ≡ r → ws' ≡ ws → t ≡ s' → l ≡ Broken NoRoom node → o ≡ Failed NoRoom node
    → (world t l ws' ss' r', o) ≡ delivered s' node next text ws ss r
undelivered_is s' t l o node next text ws ws' ss ss' r r' e f g h i k m =
    let b : leb (length text) r ≡ false = grind (arith, nat_tests) in
    let x : (world t l ws' ss' r', o) ≡ finished (s', Fault NoRoom node) ws ss r = rw (f, g, h, i, k, m) refl in
    x ∙ rw b refl

-- a first step that comes to a read or a write has main open, with a cell free or with the operand
abbrev pub Ready : State × Plan → Type 0
Ready p = Planned p.0 p.0 p.1

ready_from : (s s' : State) (d : Plan) → Planned s s' d → Planned s' s' d
ready_from s s' Went h = tt
ready_from s s' Over h = tt
ready_from s s' (Fault c n) h = tt
ready_from s s' (Read q node next) h = (refl, ap (λ (z : State). top_free z.acts) h.0 ∙ h.1)
ready_from s s' (Send q v node next) h = (refl, ap (λ (z : State). top_last z.acts) h.0 ∙ h.1)

ready_fetched : (code : List ℕ) (s : State) → Ready (fetched code s)
ready_fetched code s = ready_from s (fetched code s).0 (fetched code s).1 (plans_fetched code s)

pub ready_advanced : (code : List ℕ) (s : State) → Ready (advanced code s)
unfolding advanced
ready_advanced code s = by s.acts
  where
    on : (o : Option Entry) → Ready (begun code s o)
    on None = tt
    on (Some e) = ready_fetched code (opened e)

    by : (xs : List Act) → Ready (advancing code s xs)
    by [] = on (main_entry code)
    by (a ∷ xs) = ready_fetched code s

pub push_goes : (v : ℤ) (node next : ℕ) (s : State) → top_free s.acts ≡ true → (settled (pushed v) node next s).1 ≡ Went
unfolding settled pushed
push_goes v node next s h = by s.acts h
  where
    by : (xs : List Act) → top_free xs ≡ true → (on_top (pushed v) node next s.at xs).1 ≡ Went
    by [] e = let z : ◌≡◌ {A = ℕ} 0 1 = cc in let y : ⊥ = omega arith in absurd y
    by (a ∷ xs) e = rw e refl

pub drop-goes : (v : ℤ) (node next : ℕ) (s : State) → top_last s.acts ≡ Some v → (settled dropped node next s).1 ≡ Went
unfolding settled dropped
drop-goes v node next s h = by s.acts h
  where
    on : (a : Act) (xs : List Act) (ops : List ℤ) → first ops ≡ Some v → (concluded (with_one a (λ x t. (with_ops a t, Ok None)) ops).1 node next (state ((with_one a (λ x t. (with_ops a t, Ok None)) ops).0 ∷ xs) s.at)).1 ≡ Went
    on a xs [] e = let z : ◌≡◌ {A = ℕ} 0 1 = cc in let y : ⊥ = omega arith in absurd y
    on a xs (x ∷ ops) e = refl

    by : (xs : List Act) → top_last xs ≡ Some v → (on_top dropped node next s.at xs).1 ≡ Went
    by [] e = let z : ◌≡◌ {A = ℕ} 0 1 = cc in let y : ⊥ = omega arith in absurd y
    by (a ∷ xs) e = on a xs a.ops e
