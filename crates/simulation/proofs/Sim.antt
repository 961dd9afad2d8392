-- The simulation: by induction over the trees, the machine does from their words on what the meaning says of them.
use Rattle.std.proofs.Common.{◌≡◌, ℕ, zero, suc, pred, ◌+◌, ◌<◌, ◌≤◌, Bool, true, false, cond, ◌||◌, eqb, ltb, List, [], ◌∷◌, length, take, ℤ, pos, Some, None, Option, sym, refl, ap, ◌∙◌, subst, inl, inr, arith}
use Rattle.std.specs.List.{slice_get}
use Rattle.std.proofs.lemmas.Bool.{ltb-true, ltb-false, false≢true, eq-eqb, ne_eqb, cases_eq}
use Rattle.table.specs.declared.shape.Kind.{Kind}
use Rattle.table.specs.declared.shape.Kind.TheVariants.{Byte}
use Rattle.table.specs.declared.shape.Scope.{Scope}
use Rattle.table.specs.declared.shape.Scope.TheVariants.{Own, Main}
use Rattle.table.specs.declared.shape.Unary.{Unary}
use Rattle.table.specs.declared.shape.Unary.TheVariants.{Plus, Minus, ByteNot, Extend, Shrink}
use Rattle.table.specs.declared.shape.Binary.{Binary}
use Rattle.table.specs.declared.shape.Comparison.{Comparison}
use Rattle.table.specs.declared.shape.Junction.TheVariants.{And, Or}
use Rattle.number.specs.Number.{holds as is_true}
use Rattle.code.specs.declared.instruction.Instruction.{Instruction}
use Rattle.code.specs.declared.instruction.Instruction.TheVariants.{Variable, Binary as OfTwo, Call, Compare, Holds, Assign, Perform, Jump as Goto, Exit, Return}
use Rattle.machine.specs.declared.plan.Cause.TheVariants.{ZeroDivisor, TooDeep}
use Rattle.machine.specs.View.{State as Machine}
use Rattle.machine.specs.Values.{apply_binary as joins}
use Rattle.machine.specs.Acts.{pushed}
use Rattle.machine.specs.States.{settled, has_result, entry_at, called as calls-to, run}
use Rattle.language.specs.Tree.{Expr, constant, variable, unary, binary, call, read, Args, none, more, Cond, compare, negate, join, holds, Stmt, skip, assign, perform, if, if_else, loop, break, continue, exit, return, write, Block, block, Stmts, done, next, Signature}
use Rattle.language.specs.Measures.{kind_of, operand_kind, height_e, height_a, height_c, height_s, height_b, height_ss}
use Rattle.language.specs.Laws.{◌⊑◌}
use Rattle.language.specs.Rules.{is_open, Env, slot_in, slot_kind, called, parameter_kinds, FineE, FineA, FineC, FineS, FineB, FineSs, FineSignature}
use Rattle.language.specs.State.{State, running, at_fault, activations, stopped, main_variables, get, put, opened, fill}
use Rattle.language.specs.Operators.{apply_unary, apply_binary, compares}
use Rattle.language.specs.Meaning.{Rest, too_deep, most_activations, resulting, Functions, activate, expression, arguments, condition, Ways, in_loop, rounds, statement, body, statements}
use Rattle.language.specs.Ranges.{IsOf, Fitting}
use Rattle.language.proofs.Values.{of-constant, of-unary, IfOf, of-binary}
use Rattle.language.proofs.Ranges.{last_row, get_fits, set_fits, last_fits, set_main_fits, ResultOf}
use Rattle.translate.specs.declared.targets.Target.{Target}
use Rattle.translate.specs.Code.{target_of, entry_for}
use Rattle.simulation.proofs.Moves.{Sim, nothing}
use Rattle.simulation.specs.Runs.{machine_report}
use Rattle.simulation.proofs.Rows.{Scene, machine_at, world_at, Shape, onto}
use Rattle.simulation.proofs.Agree.{constant-kept, unary_agrees, binary_agrees, compare_agrees, truth_agrees}
use Rattle.simulation.proofs.Words.{At}
use Rattle.simulation.proofs.Does.{aimed, does_push, does_own, does_main, does_unary, does_binary, does_zero, does_compare, does_holds, does_goto, does_store, does_store_main, callee, does_call, does_deep}
use Rattle.simulation.proofs.Places.{end_u, end_e, end_a, end_c, end_s, end_b, end_ss, HasU, HasE, HasA, HasC, HasS, HasB, HasSs}
use Rattle.simulation.proofs.Scenes.{From, fit_length, nth_inside, enters, eased, up, goes_on, fails-here, reads_in, sends_in}

-- what a call leaves on the operands
abbrev pub given : Option Kind → ℤ → List ℤ → List ℤ
given None v o = o
given (Some k) v o = v ∷ o

-- The functions do, from their addresses on, what the meaning says, for g steps.
abbrev pub Calls : List ℕ → List Kind → (ℕ → Option Signature) → (ℕ → ℕ) → ℕ → Functions → Type 0
Calls code mk known address b F =
    (j d f : ℕ) (g : Signature) (vs : List ℤ) (k : ℤ → Rest) (ra : ℕ) (o : List ℤ) (c : Scene) → j ≤ b → called known f ≡ Some g → last_row c.kinds c.rows ≡ mk → length c.rows ≡ length c.frames
    → (has_result g.result ≡ true → length c.kinds + length o < 64) → Fitting (parameter_kinds g) vs → ((v : ℤ) → ResultOf g.result v → From code c j d (k v) ra (given g.result v o))
    → (s : State) (out : List ℕ) → Shape c s → Sim code j d (F f vs k s) (world_at (address f) [] (callee c o g.variables (has_result g.result) ra) (opened (fill (length g.variables) vs) s) out)

-- The entry words.
pub record Entries (code : List ℕ) (known : ℕ → Option Signature) (address : ℕ → ℕ) : Type 0 where
  pub entry : (f : ℕ) (g : Signature) → called known f ≡ Some g → entry_at code f ≡ Some (entry_for g (address f))
  pub fine : (f : ℕ) (g : Signature) → called known f ≡ Some g → FineSignature g

fit_take : (n : ℕ) (ks : List Kind) (vs : List ℤ) → n ≤ length ks → Fitting (take n ks) vs → length vs ≡ n
fit_take zero ks [] l h = refl
fit_take zero ks (v ∷ vs) l h = absurd h
fit_take (suc n) [] vs l h = absurd (omega arith)
fit_take (suc n) (k ∷ ks) [] l h = absurd h
fit_take (suc n) (k ∷ ks) (v ∷ vs) l h = ap suc (fit_take n ks vs (omega arith) h.1)

-- the names of the open loops
abbrev pub names : List Target → List ℕ
names [] = []
names (t ∷ ts) = t.name ∷ names ts

-- The ways out of a statement other than its end. A next round has one step less.
pub record Outs (code : List ℕ) (c : Scene) (j d : ℕ) (result : Option Kind) (ts : List Target) (w : Ways) : Type 0 where
  pub breaks : (x : ℕ) → is_open x (names ts) ≡ true → From code c j d (w.behind x) (target_of x ts).end []
  pub conts : (x : ℕ) → is_open x (names ts) ≡ true → From code c (pred j) d (w.again x) (target_of x ts).start []
  pub exits : result ≡ None → (a p : ℕ) → At code a Exit p → From code c j (suc d) (w.close (pos 0)) a []
  pub rets : (k : Kind) → result ≡ Some k → (v : ℤ) → IsOf k v → (a p : ℕ) → At code a Return p → From code c j (suc d) (w.close v) a (v ∷ [])

outs_weak : {code : List ℕ} {c : Scene} {j i d e : ℕ} {result : Option Kind} {ts : List Target} {w : Ways} → i ≤ j → d ≤ e → Outs code c j d result ts w → Outs code c i e result ts w
outs_weak p q O =
    record {
      breaks = λ x h. eased p q (O.breaks x h);
      conts = λ x h. eased (omega arith) q (O.conts x h);
      exits = λ r a n h. eased p (omega arith) (O.exits r a n h);
      rets = λ k r v w a n h. eased p (omega arith) (O.rets k r v w a n h);
    }

-- the loop that is meant is this one, or one around it
meant : {code : List ℕ} {c : Scene} {j d : ℕ} {k r : Rest} (x m : ℕ) (ns : List ℕ) (this other : ℕ) (z n : Bool) → eqb x 0 ≡ z → eqb m x ≡ n → is_open x (m ∷ ns) ≡ true → From code c j d k this [] → (is_open x ns ≡ true → From code c j d r other []) → From code c j d (cond (z || n) k r) (cond (z || n) this other) []
meant x m ns this other true n e f h K R = K
meant x m ns this other false true e f h K R = K
meant x m ns this other false false e f h K R = R (rw e (rw (e, f) at h))

eqb_same : (x m : ℕ) → eqb x m ≡ eqb m x
eqb_same x m = elim (cases_eq x m) [ inl e ↦ eq-eqb x m e ∙ sym (eq-eqb m x (sym e)) | inr n ↦ ne_eqb x m n ∙ sym (ne_eqb m x (λ e. n (sym e))) ]

outs_loop : {code : List ℕ} {c : Scene} {j d : ℕ} {result : Option Kind} {ts : List Target} {w : Ways} {k r : Rest} (t : Target) → From code c j d k t.end [] → From code c (pred j) d r t.start [] → Outs code c j d result ts w → Outs code c j d result (t ∷ ts) (in_loop t.name k r w)
outs_loop {code} {c} {j} {d} {result} {ts} {w} {k} {r} t K R O =
    record {
      breaks = λ x h. subst (λ (b : Bool). From code c j d (cond (eqb x 0 || b) k (w.behind x)) (cond (eqb x 0 || eqb t.name x) t (target_of x ts)).end []) (sym (eqb_same x t.name)) (by_end x (eqb x 0 || eqb t.name x) (meant x t.name (names ts) t.end (target_of x ts).end (eqb x 0) (eqb t.name x) refl refl h K (O.breaks x)));
      conts = λ x h. subst (λ (b : Bool). From code c (pred j) d (cond (eqb x 0 || b) r (w.again x)) (cond (eqb x 0 || eqb t.name x) t (target_of x ts)).start []) (sym (eqb_same x t.name)) (by-start x (eqb x 0 || eqb t.name x) (meant x t.name (names ts) t.start (target_of x ts).start (eqb x 0) (eqb t.name x) refl refl h R (O.conts x)));
      exits = O.exits;
      rets = O.rets;
    }
  where
    by_end : (x : ℕ) (b : Bool) → From code c j d (cond b k (w.behind x)) (cond b t.end (target_of x ts).end) [] → From code c j d (cond b k (w.behind x)) (cond b t (target_of x ts)).end []
    by_end x true K = K
    by_end x false K = K

    by-start : (x : ℕ) (b : Bool) → From code c (pred j) d (cond b r (w.again x)) (cond b t.start (target_of x ts).start) [] → From code c (pred j) d (cond b r (w.again x)) (cond b t (target_of x ts)).start []
    by-start x true K = K
    by-start x false K = K

module _ (code : List ℕ) (mk : List Kind) (address : ℕ → ℕ) (g : ℕ) (F : Functions) (E : Env) (calls : Calls code mk E.functions address g F) (entries : Entries code E.functions address) (c : Scene) (ours : c.kinds ≡ E.own.variables) (last : last_row c.kinds c.rows ≡ mk) (match : length c.rows ≡ length c.frames) (main : (x : ℕ) (k : Kind) → slot_in E.main x ≡ Some k → (slice_get mk x ≡ Some k) × (0 < length c.rows)) where
  free : (o : List ℤ) → length c.kinds + length o < 64 → (s : State) → Shape c s → length s.own + length o < 64
  free o l s S = let e = fit_length c.kinds s.own S.own in omega arith

  mains_fit : (s : State) → Shape c s → Fitting mk (main_variables s)
  mains_fit s S = rw last at (last_fits c.kinds c.rows s.own s.callers S.own S.callers)

  loads : {j d : ℕ} {k : ℤ → Rest} (whose : Scope) (x : ℕ) (q : Kind) (a p : ℕ) (o : List ℤ) → slot_kind E.own E.main whose x ≡ Some q → At code a (Variable whose x) p → length c.kinds + length o < 64
      → ((v : ℤ) → IsOf q v → From code c j d (k v) (a + 1) (v ∷ o)) → From code c j (suc d) (λ s. k (get whose x s) s) a o
  loads Own x q a p o e h l K =
      let n : slice_get c.kinds x ≡ Some q = rw ours e in
      record {
        go = λ s out S. goes_on c h o s out _ (omega arith)
            (does_own code c a p o s x (let i = nth_inside c.kinds x q n in let z = fit_length c.kinds s.own S.own in omega arith) (free o l s S))
            ((K (get Own x s) (get_fits c.kinds s.own x q S.own n)).go s out S);
      }
  loads Main x q a p o e h l K =
      let n = (main x q e).0 in
      record {
        go = λ s out S. goes_on c h o s out _ (omega arith)
            (does_main code c a p o s x match S (let i = nth_inside mk x q n in let z = fit_length mk (main_variables s) (mains_fit s S) in omega arith) (free o l s S))
            ((K (get Main x s) (get_fits mk (main_variables s) x q (mains_fit s S) n)).go s out S);
      }

  changed : {j d : ℕ} {r : Rest} (u : Unary) (v : ℤ) (a p : ℕ) (o : List ℤ) → IsOf (operand_kind u) v → HasU code u p a → From code c j d r (end_u u a) (apply_unary u v ∷ o) → From code c j (suc d) r a (v ∷ o)
  changed Plus v a p o w h K = up K
  changed Minus v a p o w h K =
      record { go = λ s out S. goes_on c h (v ∷ o) s out _ (omega arith) (does_unary code c a p o s Minus v ∙ rw (unary_agrees Minus v w) refl) (K.go s out S) }
  changed ByteNot v a p o w h K =
      record { go = λ s out S. goes_on c h (v ∷ o) s out _ (omega arith) (does_unary code c a p o s ByteNot v ∙ rw (unary_agrees ByteNot v w) refl) (K.go s out S) }
  changed Extend v a p o w h K = up K
  changed Shrink v a p o w h K =
      record { go = λ s out S. goes_on c h (v ∷ o) s out _ (omega arith) (does_unary code c a p o s Shrink v ∙ rw (unary_agrees Shrink v w) refl) (K.go s out S) }

  results : {j d : ℕ} {k : ℤ → Rest} (b : Binary) (q : Kind) (x y : ℤ) (a p : ℕ) (o : List ℤ) (R : Option ℤ) → joins b q x y ≡ R → IfOf q R → At code a (OfTwo b q) p → ((v : ℤ) → IsOf q v → From code c j d (k v) (a + 1) (v ∷ o)) → From code c j (suc d) (resulting p R k) a (y ∷ x ∷ o)
  results b q x y a p o None e w h K =
      record { go = λ s out S. fails-here c h (y ∷ x ∷ o) s out match S ZeroDivisor (does_zero code c a p o s b q x y e) }
  results b q x y a p o (Some v) e w h K =
      record { go = λ s out S. goes_on c h (y ∷ x ∷ o) s out _ (omega arith) (does_binary code c a p o s b q x y v e) ((K v w).go s out S) }

  -- a call, after its arguments
  activates : {j d : ℕ} (l : j ≤ suc g) {k : ℤ → Rest} (i : Instruction) (f : ℕ) (y : Signature) (vs : List ℤ) (a p : ℕ) (o : List ℤ) → ((m : Machine) → run i p (a + 1) code m ≡ calls-to code f p (a + 1) m) → At code a i p
      → called E.functions f ≡ Some y → Fitting (parameter_kinds y) vs → (has_result y.result ≡ true → length c.kinds + length o < 64) → ((v : ℤ) → ResultOf y.result v → From code c j d (k v) (a + 1) (given y.result v o))
      → From code c j (suc d) (activate F p f vs k) a (onto vs o)
  activates {j} {d} l {k} i f y vs a p o runs h e w z K = record { go = λ s out S. by (ltb (activations s) most_activations) s out S refl }
    where
      fine : FineSignature y
      fine = entries.fine f y e

      all : y.parameters ≡ length vs
      all = sym (fit_take y.parameters y.variables vs fine.among w)

      by : (b : Bool) (s : State) (out : List ℕ) → Shape c s → ltb (activations s) most_activations ≡ b → Sim code j (suc d) (λ n. cond b (F f vs k s n) (stopped (at_fault too_deep p) s)) (world_at a (onto vs o) c s out)
      by true s out S t =
          goes_on c h (onto vs o) s out {k = pred j} _ (omega arith)
          (runs _ ∙ does_call code c a p o s y.variables f (entry_for y (address f)) vs (entries.entry f y e) all match S fine.among (ltb-true (activations s) most_activations t))
          (calls (pred j) d f y vs k (a + 1) o c (omega arith) e last match z w (λ v q. eased (omega arith) (omega arith) (K v q)) s out S)
      by false s out S t =
          fails-here c h (onto vs o) s out match S TooDeep (runs _ ∙ does_deep code c a p o s y.variables f (entry_for y (address f)) vs (entries.entry f y e) all match S (ltb-false (activations s) most_activations t))

  mutual
    unfolding expression

    pub sim_e : (e : Expr) {j d : ℕ} (l : j ≤ suc g) (a : ℕ) (o : List ℤ) {k : ℤ → Rest} → FineE E e → HasE code e a → length c.kinds + length o + height_e e ≤ 64 → ((v : ℤ) → IsOf (kind_of e) v → From code c j d (k v) (end_e e a) (v ∷ o)) → From code c j d (expression F e k) a o
    sim_e (constant p q n) l a o t h z K =
        enters (record { go = λ s out S. goes_on c h o s out _ (omega arith) (ap (λ (v : ℤ). settled (pushed v) p (a + 1) (machine_at a o c s)) (constant-kept q n t) ∙ does_push code c a p o s (pos n) (free o (omega arith) s S)) ((K (pos n) (of-constant q n t)).go s out S) })
    sim_e (variable p whose x q) l a o t h z K = enters (loads whose x q a p o t h (omega arith) K)
    sim_e (unary p u e) l a o t h z K = enters (sim_e e l a o t.0 h.0 (omega arith) (λ v w. changed u v (end_e e a) p o (rw t.1 at w) h.1 (K (apply_unary u v) (of-unary u v (rw t.1 at w)))))
    sim_e (binary p b q x y) l a o t h z K =
        enters
        (sim_e x l a o t.0 h.0 (omega arith)
        (λ u w. sim_e y l (end_e x a) (u ∷ o) t.1 h.1 (omega arith)
        (λ v n. results b q u v (end_e y (end_e x a)) p o (apply_binary b q u v) (binary_agrees b q u v t.4 (rw t.2 at w) (rw t.3 at n)) (of-binary b q u v t.4) h.2 K)))
    sim_e (call p f q xs) l a o t h z K =
        enters
        (sim_a xs l a o (parameter_kinds t.0) t.3 h.0 0 (omega arith)
        (λ vs w. activates l (Call f) f t.0 vs (end_a xs a) p o (λ m. refl) h.1 t.1 w (λ y. omega arith) (rw t.2 K)))
    sim_e (read p q) l a o t h z K = enters (reads_in match q h (omega arith) K)

    pub sim_a : (xs : Args) {j d : ℕ} (l : j ≤ suc g) (a : ℕ) (o : List ℤ) (ks : List Kind) {k : List ℤ → Rest} → FineA E ks xs → HasA code xs a → (i : ℕ) → length c.kinds + length o + height_a i xs ≤ 64 + i → ((vs : List ℤ) → Fitting ks vs → From code c j d (k vs) (end_a xs a) (onto vs o)) → From code c j d (arguments F xs k) a o
    sim_a none l a o [] t h i z K = K [] tt
    sim_a none l a o (q ∷ ks) t h i z K = absurd t
    sim_a (more e xs) l a o [] t h i z K = absurd t
    sim_a (more e xs) l a o (q ∷ ks) t h i z K =
        sim_e e l a o t.0 h.0 (omega arith) (λ v w. sim_a xs l (end_e e a) (v ∷ o) ks t.2 h.1 (i + 1) (omega arith) (λ vs n. K (v ∷ vs) (rw t.1 at w, n)))

  compared : {j d : ℕ} {kt kf : Rest} (q : Comparison) (n : Kind) (w : Bool) (t a p : ℕ) (u v : ℤ) (b : Bool) → compares q u v ≡ b → IsOf n u → IsOf n v → At code a (Compare q n w t) p → From code c j d kt (aimed w true t (a + 1)) [] → From code c j d kf (aimed w false t (a + 1)) []
      → From code c j (suc d) (cond b kt kf) a (v ∷ u ∷ [])
  compared q n w t a p u v true e x y h KT KF =
      record { go = λ s out S. goes_on c h (v ∷ u ∷ []) s out _ (omega arith) (does_compare code c a p [] s q n w t u v true (compare_agrees q n u v x y ∙ e)) (KT.go s out S) }
  compared q n w t a p u v false e x y h KT KF =
      record { go = λ s out S. goes_on c h (v ∷ u ∷ []) s out _ (omega arith) (does_compare code c a p [] s q n w t u v false (compare_agrees q n u v x y ∙ e)) (KF.go s out S) }

  held : {j d : ℕ} {kt kf : Rest} (w : Bool) (t a p : ℕ) (v : ℤ) (b : Bool) → is_true v ≡ b → IsOf Byte v → At code a (Holds w t) p → From code c j d kt (aimed w true t (a + 1)) [] → From code c j d kf (aimed w false t (a + 1)) []
      → From code c j (suc d) (cond b kt kf) a (v ∷ [])
  held w t a p v true e x h KT KF =
      record { go = λ s out S. goes_on c h (v ∷ []) s out _ (omega arith) (does_holds code c a p [] s w t v true (truth_agrees v x ∙ e)) (KT.go s out S) }
  held w t a p v false e x h KT KF =
      record { go = λ s out S. goes_on c h (v ∷ []) s out _ (omega arith) (does_holds code c a p [] s w t v false (truth_agrees v x ∙ e)) (KF.go s out S) }

  pub sim_c : (q : Cond) {j d : ℕ} (l : j ≤ suc g) (w : Bool) (t a : ℕ) {kt kf : Rest} → FineC E q → HasC code q w t a → length c.kinds + height_c q ≤ 64 → From code c j d kt (aimed w true t (end_c q a)) [] → From code c j d kf (aimed w false t (end_c q a)) []
      → From code c j d (condition F q kt kf) a []
  unfolding condition
  sim_c (compare p q n x y) l w t a f h z KT KF =
      enters
      (sim_e x l a [] f.0 h.0 (omega arith)
      (λ u m. sim_e y l (end_e x a) (u ∷ []) f.1 h.1 (omega arith) (λ v i. compared q n w t (end_e y (end_e x a)) p u v (compares q u v) refl (rw f.2 at m) (rw f.3 at i) h.2 KT KF)))
  sim_c (negate p q) l true t a f h z KT KF = enters (sim_c q l false t a f h z (up KF) (up KT))
  sim_c (negate p q) l false t a f h z KT KF = enters (sim_c q l true t a f h z (up KF) (up KT))
  sim_c (join p And x y) l true t a f h z KT KF =
      enters (sim_c x l false _ a f.0 h.0 (omega arith) (sim_c y l true t (end_c x a) f.1 h.1 (omega arith) (up KT) (up KF)) (up KF))
  sim_c (join p And x y) l false t a f h z KT KF =
      enters (sim_c x l false _ a f.0 h.0 (omega arith) (sim_c y l false t (end_c x a) f.1 h.1 (omega arith) (up KT) (up KF)) (up KF))
  sim_c (join p Or x y) l true t a f h z KT KF =
      enters (sim_c x l true _ a f.0 h.0 (omega arith) (up KT) (sim_c y l true t (end_c x a) f.1 h.1 (omega arith) (up KT) (up KF)))
  sim_c (join p Or x y) l false t a f h z KT KF =
      enters (sim_c x l true _ a f.0 h.0 (omega arith) (up KT) (sim_c y l false t (end_c x a) f.1 h.1 (omega arith) (up KT) (up KF)))
  sim_c (holds p e) l w t a f h z KT KF =
      enters (sim_e e l a [] f.0 h.0 (omega arith) (λ v m. held w t (end_e e a) p v (is_true v) refl (rw f.1 at m) h.1 KT KF))

  stores : {j d : ℕ} {k : Rest} (whose : Scope) (x : ℕ) (q : Kind) (v : ℤ) (a p : ℕ) → slot_kind E.own E.main whose x ≡ Some q → IsOf q v → At code a (Assign whose x) p → From code c j d k (a + 1) [] → From code c j (suc d) (λ s. k (put whose x v s)) a (v ∷ [])
  stores Own x q v a p e w h K =
      let n : slice_get c.kinds x ≡ Some q = rw ours e in
      record {
        go = λ s out S. goes_on c h (v ∷ []) s out _ (omega arith)
            (does_store code c a p [] s x v (let i = nth_inside c.kinds x q n in let z = fit_length c.kinds s.own S.own in omega arith))
            (K.go (put Own x v s) out (record { own = set_fits c.kinds s.own x q v S.own n w; callers = S.callers; bytes = S.bytes }));
      }
  stores Main x q v a p e w h K =
      let n = main x q e in
      record {
        go = λ s out S. goes_on c h (v ∷ []) s out _ (omega arith)
            (does_store_main code c a p [] s x v match n.1 S (let i = nth_inside mk x q n.0 in let z = fit_length mk (main_variables s) (mains_fit s S) in omega arith))
            (K.go (put Main x v s) out (record { own = S.own; callers = set_main_fits mk c.kinds c.rows s.callers x q v last S.callers n.0 w; bytes = S.bytes }));
      }

  jumps : {j i d : ℕ} {r : Rest} {x : _} (t a p : ℕ) → j ≤ suc i → At code a (Goto x t) p → From code c i d r t [] → From code c j (suc d) r a []
  jumps {x = x} t a p l h K = record { go = λ s out S. goes_on c h [] s out _ l (does_goto code c a p [] s x t) (K.go s out S) }

  again : (r j d a : ℕ) (B : Rest → Rest) → j ≤ r → ((i : ℕ) (k : Rest) → i ≤ j → From code c (pred i) d k a [] → From code c i d (B k) a []) → From code c j d (rounds r B) a []
  unfolding rounds
  again zero j d a B l H =
      record {
        go = λ s out S. record {
          fwd = λ n t q. tt;
          bwd = λ t q. (0, subst (λ (u : ℕ). machine_report code u (world_at a [] c s out) ⊑ running) {x = 0} {y = t} (omega arith) (rw (nothing code (world_at a [] c s out)) tt));
        };
      }
  again (suc r) j d a B l H = record { go = λ s out S. (H j (rounds r B) (omega arith) (again r (pred j) d a B (omega arith) (λ i k q. H i k (omega arith)))).go s out S }

  module _ (G : ℕ) (few : G ≤ suc g) where
    mutual
      unfolding statement

      pub sim_s : (q : Stmt) {j d : ℕ} (l : j ≤ G) (a : ℕ) (ts : List Target) {w : Ways} {k : Rest} → FineS E (names ts) q → HasS code q ts a → length c.kinds + height_s q ≤ 64 → Outs code c j d E.own.result ts w → From code c j d k (end_s q a) [] → From code c j d (statement G F q w k) a []
      sim_s (skip p) l a ts f h z O K = enters (up K)
      sim_s (assign p whose x n e) l a ts f h z O K = enters (sim_e e (omega arith) a [] f.1 h.0 (omega arith) (λ v m. stores whose x n v (end_e e a) p f.0 (rw f.2 at m) h.1 K))
      sim_s (perform p y xs) l a ts {k = k} f h z O K =
          enters
          (sim_a xs (omega arith) a [] (parameter_kinds f.0) f.3 h.0 0 (omega arith)
          (λ vs m. activates (omega arith) {k = λ v. k} (Perform y) y f.0 vs (end_a xs a) p [] (λ n. refl) h.1 f.1 m (rw f.2 (λ e. absurd (false≢true e))) (rw f.2 (λ v e. K))))
      sim_s (if p q b) l a ts f h z O K =
          enters (sim_c q (omega arith) false _ a f.0 h.0 (omega arith) (sim_b b l (end_c q a) ts f.1 h.1 (omega arith) (outs_weak (omega arith) (omega arith) O) (up (up K))) (up K))
      sim_s (if_else p q b y) {j} {d} l a ts {w} f h z O K =
          let O' : Outs code c j (suc d) E.own.result ts w = outs_weak (omega arith) (omega arith) O in
          enters
          (sim_c q (omega arith) false _ a f.0 h.0 (omega arith)
          (sim_b b l (end_c q a) ts f.1 h.1 (omega arith) O' (jumps _ (end_b b (end_c q a)) p (omega arith) h.2 (up K)))
          (sim_b y l (end_b b (end_c q a) + 1) ts f.2 h.3 (omega arith) O' (up (up K))))
      sim_s (loop p m b) {j} {d} l a ts f h z O K =
          enters
          (again G j (suc d) a _ l
          (λ i r q R. sim_b b (omega arith) a (record { name = m; start = a; end = end_b b a + 1 } ∷ ts) f.2 h.0 (omega arith)
          (outs_loop (record { name = m; start = a; end = end_b b a + 1 }) (eased q (omega arith) K) R (outs_weak q (omega arith) O)) (jumps a (end_b b a) p (omega arith) h.1 R)))
      sim_s (break p m) l a ts f h z O K = enters (jumps _ a p (omega arith) h (O.breaks m f))
      sim_s (continue p m) l a ts f h z O K = enters (jumps _ a p (omega arith) h (O.conts m f))
      sim_s (exit p) l a ts f h z O K = enters (O.exits f a p h)
      sim_s (return p e) l a ts f h z O K = enters (sim_e e (omega arith) a [] f.1 h.0 (omega arith) (λ v m. O.rets (kind_of e) f.0 v m (end_e e a) p h.1))
      sim_s (write p q e) l a ts f h z O K = enters (sim_e e (omega arith) a [] f.0 h.0 (omega arith) (λ v m. sends_in match q v [] h.1 (rw f.1 at m) K))

      pub sim_b : (q : Block) {j d : ℕ} (l : j ≤ G) (a : ℕ) (ts : List Target) {w : Ways} {k : Rest} → FineB E (names ts) q → HasB code q ts a → length c.kinds + height_b q ≤ 64 → Outs code c j d E.own.result ts w → From code c j (suc d) k (end_b q a) [] → From code c j d (body G F q w k) a []
      sim_b (block p ss) l a ts f h z O K = enters (sim_ss ss l a ts f.2 h z (outs_weak (omega arith) (omega arith) O) K)

      pub sim_ss : (q : Stmts) {j d : ℕ} (l : j ≤ G) (a : ℕ) (ts : List Target) {w : Ways} {k : Rest} → FineSs E (names ts) q → HasSs code q ts a → length c.kinds + height_ss q ≤ 64 → Outs code c j d E.own.result ts w → From code c j d k (end_ss q a) [] → From code c j d (statements G F q w k) a []
      sim_ss done l a ts f h z O K = K
      sim_ss (next q qs) l a ts f h z O K = sim_s q l a ts f.0 h.0 (omega arith) O (sim_ss qs l (end_s q a) ts f.1 h.1 (omega arith) O K)
