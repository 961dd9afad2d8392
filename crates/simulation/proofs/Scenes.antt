-- The moves in a scene: from an address on, with these operands, the machine does what a rest of the meaning says.
use Rattle.std.proofs.Common.{◌≡◌, ℕ, zero, suc, ◌+◌, ◌-◌, ◌<◌, ◌≤◌, Bool, true, false, cond, leb, List, [], ◌∷◌, ◌++◌, length, take, drop, ℤ, Some, sym, refl, ap, ◌∙◌, arith, length-append, length-drop}
use lib.Seq.{drop-append_seam}
use Rattle.std.specs.List.{slice_get}
use Rattle.std.proofs.ByRecursion.{All-drop}
use Rattle.std.proofs.lemmas.Bool.{lt-ltb, le-ltb}
use Rattle.table.specs.declared.shape.Kind.{Kind}
use Rattle.table.specs.declared.shape.Format.{Format}
use Rattle.code.specs.declared.instruction.Instruction.{Instruction}
use Rattle.code.specs.declared.instruction.Instruction.TheVariants.{Read as ReadAct, Write}
use Rattle.number.specs.declared.text.Reading.{Reading}
use Rattle.number.specs.declared.text.Reading.TheVariants.{Wait, Refused, Took}
use Rattle.machine.specs.declared.plan.Cause.{Cause}
use Rattle.machine.specs.declared.plan.Cause.TheVariants.{RefusedText, NoRoom}
use Rattle.machine.specs.declared.plan.Plan.TheVariants.{Went, Fault, Read, Send}
use Rattle.machine.specs.declared.plan.Latch.TheVariants.{Open}
use Rattle.machine.specs.declared.plan.Outcome.TheVariants.{Waits, Failed}
use Rattle.machine.specs.View.{State as Machine, cause_number}
use Rattle.machine.specs.States.{run}
use Rattle.machine.specs.Steps.{world, finished, received, delivered, stepped}
use Rattle.machine.proofs.Found.{found_inside}
use Rattle.language.specs.Measures.{format_kind}
use Rattle.language.specs.State.{State, Report, ◌▷◌, took, sent, at_wait, at_fault, stopped, without, narrowed}
use Rattle.language.specs.Operators.{numbers_of, finds, text_of}
use Rattle.language.specs.Meaning.{Rest, enter, receive, send, refused_text, no_room}
use Rattle.language.specs.Ranges.{IsOf, Fitting}
use Rattle.language.proofs.Values.{ReadOf, of-read}
use Rattle.simulation.specs.Runs.{shown}
use Rattle.simulation.proofs.Moves.{Sim, weak, entered, happens, stops}
use Rattle.simulation.proofs.Rows.{acts, Scene, top_act, machine_at, world_at, Shape, mains}
use Rattle.simulation.proofs.Agree.{finds_agrees, text_agrees, text-there, Takes, takes_some}
use Rattle.simulation.proofs.Words.{At, planned, goes, fails}
use Rattle.simulation.proofs.Does.{does_push, does_drop}

pub record From (code : List ℕ) (c : Scene) (j d : ℕ) (r : Rest) (a : ℕ) (o : List ℤ) : Type 0 where
  pub go : (s : State) (out : List ℕ) → Shape c s → Sim code j d (r s) (world_at a o c s out)

pub fit_length : (ks : List Kind) (vs : List ℤ) → Fitting ks vs → length vs ≡ length ks
fit_length [] [] h = refl
fit_length [] (v ∷ vs) h = absurd h
fit_length (k ∷ ks) [] h = absurd h
fit_length (k ∷ ks) (v ∷ vs) h = ap suc (fit_length ks vs h.1)

pub nth_inside : {A : Type 0} (ks : List A) (x : ℕ) (k : A) → slice_get ks x ≡ Some k → x < length ks
nth_inside [] x k e = let z : ◌≡◌ {A = ℕ} 0 1 = cc in absurd (omega arith)
nth_inside (q ∷ ks) zero k e = omega arith
nth_inside (q ∷ ks) (suc x) k e = let l = nth_inside ks x k e in omega arith

module _ {code : List ℕ} {c : Scene} {j d : ℕ} where
  pub enters : {r : Rest} {a : ℕ} {o : List ℤ} → From code c j (suc d) r a o → From code c j d (enter r) a o
  enters {r} K = record { go = λ s out S. entered r s (K.go s out S) }

  pub eased : {i e : ℕ} {r : Rest} {a : ℕ} {o : List ℤ} → i ≤ j → d ≤ e → From code c j d r a o → From code c i e r a o
  eased p q K = record { go = λ s out S. weak p q (K.go s out S) }

  pub up : {r : Rest} {a : ℕ} {o : List ℤ} → From code c j d r a o → From code c j (suc d) r a o
  up K = record { go = λ s out S. weak (omega arith) (omega arith) (K.go s out S) }

module _ {code : List ℕ} (c : Scene) {i : Instruction} {p a : ℕ} (h : At code a i p) (o : List ℤ) (s : State) (out : List ℕ) where
  -- a step to another machine, with the same line
  pub goes_on : {j k d : ℕ} {X : ℕ → Report} (m : Machine) → j ≤ suc k → run i p (a + 1) code (machine_at a o c s) ≡ (m, Went) → Sim code k d X (world m Open s.waiting out s.room) → Sim code j (suc d) X (world_at a o c s out)
  goes_on m l e S = goes code (top_act o c s) (acts s.callers c.frames) a i p h s.waiting out s.room m l e S

  module _ (m : length c.rows ≡ length c.frames) (S : Shape c s) where
    pub fails-here : {j d : ℕ} (x : Cause) → run i p (a + 1) code (machine_at a o c s) ≡ (machine_at a o c s, Fault x p) → Sim code j (suc d) (λ n. stopped (at_fault (cause_number x) p) s) (world_at a o c s out)
    fails-here x e = fails code (top_act o c s) (acts s.callers c.frames) a i p h s.waiting out s.room (machine_at a o c s) x s e (mains a o c s m S)

-- what is shown of a take and of a write
taken : (x y : Machine) (ws ss : List ℕ) (r n : ℕ) (R : Report) → 0 < n → n ≤ length ws → shown (world x Open ws ss r) (world y Open (drop n ws) ss r) R ≡ took (take n ws) ▷ R
taken x y ws ss r n R l h =
    let e = length-drop n ws in
    let f : length ws - length (drop n ws) ≡ n = omega arith in
    rw (lt-ltb (length (drop n ws)) (length ws) (omega arith), f) refl

given : (x y : Machine) (ws ss text : List ℕ) (r r' : ℕ) (R : Report) → 0 < length text → shown (world x Open ws ss r) (world y Open ws (ss ++ text) r') R ≡ sent text ▷ R
given x y ws ss text r r' R l =
    let e = length-append ss text in
    rw (le-ltb (length ws) (length ws) (omega arith), lt-ltb (length ss) (length (ss ++ text)) (omega arith), drop-append_seam ss text) refl

module _ {code : List ℕ} {c : Scene} (m : length c.rows ≡ length c.frames) {p a j d : ℕ} (q : Format) where
  module _ {k : ℤ → Rest} {o : List ℤ} (h : At code a (ReadAct q) p) (l : length c.kinds + length o < 64) (K : (v : ℤ) → IsOf (format_kind q) v → From code c j d (k v) (a + 1) (v ∷ o)) where
    free : (s : State) → Shape c s → length s.own + length o < 64
    free s S = let e = fit_length c.kinds s.own S.own in omega arith

    looked : (s : State) (out : List ℕ) → Shape c s → stepped code (world_at a o c s out) ≡ received (machine_at a o c s) (machine_at a o c s) p (a + 1) (finds q s.waiting) s.waiting out s.room
    looked s out S =
        planned code (top_act o c s) (acts s.callers c.frames) a (ReadAct q) p (machine_at a o c s) (Read q p (a + 1)) s.waiting out s.room h (rw (lt-ltb (length s.own + length o) 64 (free s S)) refl)
        ∙ ap (λ (z : Reading). received (machine_at a o c s) (machine_at a o c s) p (a + 1) z s.waiting out s.room) (finds_agrees q s.waiting)

    reads_by : (R : Reading) (s : State) (out : List ℕ) → Shape c s → R ≡ finds q s.waiting → ReadOf (numbers_of (format_kind q)) R → Takes R → Sim code j (suc d) (receive p R k s) (world_at a o c s out)
    reads_by Wait s out S e w t =
        stops {o = Waits} at_wait s (rw (← e) at (looked s out S)) (λ R. refl)
    reads_by Refused s out S e w t =
        stops {o = Failed RefusedText p} (at_fault refused_text p) s (rw (← e) at (looked s out S)) (λ R. rw (mains a o c s m S) refl)
    reads_by (Took v n) s out S e w t =
        happens
        ((rw (← e) at (looked s out S)) ∙ ap (λ (z : Machine × _). finished z (drop n s.waiting) out s.room) (does_push code c a p o s v (free s S)))
        (λ R. taken (machine_at a o c s) (machine_at a o c s) s.waiting out s.room n R t (found_inside q s.waiting v n (e ∙ sym (finds_agrees q s.waiting))))
        ((K v w).go (without n s) out (record { own = S.own; callers = S.callers; bytes = All-drop (λ b. b < 256) n s.waiting S.bytes }))

    pub reads_in : From code c j (suc d) (λ s. receive p (finds q s.waiting) k s) a o
    reads_in = record { go = λ s out S. reads_by (finds q s.waiting) s out S refl (of-read q s.waiting S.bytes) (takes_some q s.waiting) }

  module _ {k : Rest} (v : ℤ) (o : List ℤ) (h : At code a (Write q) p) (w : IsOf (format_kind q) v) (K : From code c j d k (a + 1) o) where
    offered : (s : State) (out : List ℕ) → stepped code (world_at a (v ∷ o) c s out) ≡ delivered (machine_at a (v ∷ o) c s) p (a + 1) (text_of q v) s.waiting out s.room
    offered s out =
        planned code (top_act (v ∷ o) c s) (acts s.callers c.frames) a (Write q) p (machine_at a (v ∷ o) c s) (Send q v p (a + 1)) s.waiting out s.room h refl
        ∙ ap (λ (z : List ℕ). delivered (machine_at a (v ∷ o) c s) p (a + 1) z s.waiting out s.room) (text_agrees q v w)

    sends_by : (b : Bool) (s : State) (out : List ℕ) → Shape c s → leb (length (text_of q v)) s.room ≡ b → Sim code j (suc d) (λ n. cond b (sent (text_of q v) ▷ k (narrowed (length (text_of q v)) s) n) (stopped (at_fault no_room p) s)) (world_at a (v ∷ o) c s out)
    sends_by true s out S e =
        happens ((rw e at (offered s out)) ∙ ap (λ (z : Machine × _). finished z s.waiting (out ++ text_of q v) (s.room - length (text_of q v))) (does_drop code c a p o s v))
        (λ R. given (machine_at a o c s) (machine_at a o c s) s.waiting out (text_of q v) s.room (s.room - length (text_of q v)) R (text-there q v w))
        (K.go (narrowed (length (text_of q v)) s) (out ++ text_of q v) (record { own = S.own; callers = S.callers; bytes = S.bytes }))
    sends_by false s out S e =
        stops {o = Failed NoRoom p} (at_fault no_room p) s (rw e at (offered s out)) (λ R. rw (mains a (v ∷ o) c s m S) refl)

    pub sends_in : From code c j (suc d) (send p (text_of q v) k) a (v ∷ o)
    sends_in = record { go = λ s out S. sends_by (leb (length (text_of q v)) s.room) s out S refl }
