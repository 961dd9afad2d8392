-- The laws of a step.
use Rattle.std.proofs.Common.{◌≡◌, ℕ, zero, suc, ◌-◌, ◌≤◌, Bool, true, false, cond, leb, List, [], ◌∷◌, ◌++◌, length, take, drop, ℤ, Some, sym, refl, ap, ◌∙◌, subst, inl, inr, append-nil, arith, take-append-drop}
use Rattle.std.proofs.lemmas.Bool.Decides.{nat_tests}
use Rattle.number.specs.declared.text.Reading.{Reading}
use Rattle.number.specs.declared.text.Reading.TheVariants.{Wait, Refused, Took}
use Rattle.machine.specs.declared.plan.Cause.TheVariants.{RefusedText, NoRoom}
use Rattle.machine.specs.declared.plan.Plan.{Plan}
use Rattle.machine.specs.declared.plan.Plan.TheVariants.{Went, Over, Fault, Read, Send}
use Rattle.machine.specs.declared.plan.Latch.{Latch}
use Rattle.machine.specs.declared.plan.Latch.TheVariants.{Open, Ended as Closed, Failed as Broken}
use Rattle.machine.specs.declared.plan.Outcome.{Outcome}
use Rattle.machine.specs.declared.plan.Outcome.TheVariants.{Waits}
use Rattle.machine.specs.View.{State}
use Rattle.machine.specs.Values.{finds, text_of}
use Rattle.machine.specs.Acts.{pushed, dropped}
use Rattle.machine.specs.States.{settled, top_free, top_last, advanced}
use Rattle.machine.specs.Steps.{World, world, latch_of, outcome_of, finished, received, performed, stepping, stepped, fed, Moves, latch_for, StepLaws, Held}
use Rattle.machine.proofs.Found.{found_inside, finds_more}
use Rattle.machine.proofs.Steps.{Planned, ready_advanced, push_goes, drop-goes}

-- From w a step comes to x, and with more bytes behind to y.
record Laws (w : World) (x : World × Outcome) (y : List ℕ → World × Outcome) : Type 0 where
  waits : x.1 ≡ Waits → x.0 ≡ w
  more : (bytes : List ℕ) → (x.1 ≡ Waits → ⊥) → y bytes ≡ (fed bytes x.0, x.1)
  moves : Moves w x
  latch : x.0.latch ≡ latch_for x.1

still : (w : World) (x : World × Outcome) → w.waiting ≡ x.0.waiting → x.0.sent ≡ w.sent → w.room ≡ x.0.room → Moves w x
still w x e f g =
    record {
      taken = [];
      text = [];
      takes = e;
      sends = f ∙ sym (append-nil w.sent);
      spends = omega (arith, g);
      either = inl refl;
      rests = λ _. (refl, refl);
    }

latch_of_lem : (d : Plan) → latch_of d ≡ latch_for (outcome_of d)
latch_of_lem Went = refl
latch_of_lem Over = refl
latch_of_lem (Fault c n) = refl
latch_of_lem (Read q node next) = refl
latch_of_lem (Send q v node next) = refl

other : {B : Type 0} (o : Outcome) → (o ≡ Waits → ⊥) → o ≡ Waits → B
other o f e = absurd (f e)

not_waits : (d : Plan) → outcome_of d ≡ Waits → ⊥
not_waits Went e = let z : ◌≡◌ {A = ℕ} 0 1 = cc in omega arith
not_waits Over e = let z : ◌≡◌ {A = ℕ} 0 1 = cc in omega arith
not_waits (Fault c n) e = let z : ◌≡◌ {A = ℕ} 0 1 = cc in omega arith
not_waits (Read q node next) e = let z : ◌≡◌ {A = ℕ} 0 1 = cc in omega arith
not_waits (Send q v node next) e = let z : ◌≡◌ {A = ℕ} 0 1 = cc in omega arith

drop_more : (n : ℕ) (ws bytes : List ℕ) → n ≤ length ws → drop n (ws ++ bytes) ≡ drop n ws ++ bytes
drop_more zero ws bytes h = refl
drop_more (suc n) [] bytes h = let z : ⊥ = omega arith in absurd z
drop_more (suc n) (x ∷ ws) bytes h = drop_more n ws bytes (omega arith)

module _ (w : World) where
  plain : (s : State) (d : Plan) → Laws w (finished (s, d) w.waiting w.sent w.room) (λ bytes. finished (s, d) (w.waiting ++ bytes) w.sent w.room)
  plain s d = record { waits = other _ (not_waits d); more = λ bytes h. refl; moves = still w _ refl refl refl; latch = latch_of_lem d }

  module _ (s : State) (node next : ℕ) where
    -- a read that finds r, and with more bytes behind R
    reads : w.latch ≡ Open → top_free s.acts ≡ true → (r : Reading) (R : List ℕ → Reading) → ((bytes : List ℕ) → (r ≡ Wait → ⊥) → R bytes ≡ r) → ((v : ℤ) (n : ℕ) → Took v n ≡ r → n ≤ length w.waiting)
        → Laws w (received w.machine s node next r w.waiting w.sent w.room) (λ bytes. received w.machine s node next (R bytes) (w.waiting ++ bytes) w.sent w.room)
    reads o h Wait R f g =
        record {
          waits = λ _. ap (λ (l : Latch). world w.machine l w.waiting w.sent w.room) (sym o);
          more = λ bytes k. absurd (k refl);
          moves = still w _ refl refl refl;
          latch = refl;
        }
    reads o h Refused R f g =
        record {
          waits = other _ (not_waits (Fault RefusedText node));
          more = λ bytes k. ap (λ (z : Reading). received w.machine s node next z (w.waiting ++ bytes) w.sent w.room) (f bytes (λ e. let z : ◌≡◌ {A = ℕ} 0 1 = cc in omega arith));
          moves = still w _ refl refl refl;
          latch = refl;
        }
    reads o h (Took v n) R f g =
        let p = settled (pushed v) node next s in
        record {
          waits = other _ (not_waits p.1);
          more = λ bytes k.
              ap (λ (z : Reading). received w.machine s node next z (w.waiting ++ bytes) w.sent w.room) (f bytes (λ e. let z : ◌≡◌ {A = ℕ} 0 1 = cc in omega arith))
              ∙ ap (λ (z : List ℕ). finished p z w.sent w.room) (drop_more n w.waiting bytes (g v n refl));
          moves =
              record {
                taken = take n w.waiting;
                text = [];
                takes = sym (take-append-drop n w.waiting);
                sends = sym (append-nil w.sent);
                spends = omega arith;
                either = inr refl;
                rests = λ k. absurd (k (ap outcome_of (push_goes v node next s h)));
              };
          latch = latch_of_lem p.1;
        }

    -- a write
    sends : (v : ℤ) (text : List ℕ) → top_last s.acts ≡ Some v → (b : Bool) → b ≡ leb (length text) w.room
        → Laws w (cond b (finished (settled dropped node next s) w.waiting (w.sent ++ text) (w.room - length text)) (finished (s, Fault NoRoom node) w.waiting w.sent w.room))
        (λ bytes. cond b (finished (settled dropped node next s) (w.waiting ++ bytes) (w.sent ++ text) (w.room - length text)) (finished (s, Fault NoRoom node) (w.waiting ++ bytes) w.sent w.room))
    sends v text h true e =
        let p = settled dropped node next s in
        let l : length text ≤ w.room = grind (arith, nat_tests) in
        record {
          waits = other _ (not_waits p.1);
          more = λ bytes k. refl;
          moves =
              record {
                taken = [];
                text = text;
                takes = refl;
                sends = refl;
                spends = omega arith;
                either = inl refl;
                rests = λ k. absurd (k (ap outcome_of (drop-goes v node next s h)));
              };
          latch = latch_of_lem p.1;
        }
    sends v text h false e = plain s (Fault NoRoom node)

  performs : w.latch ≡ Open → (s : State) (d : Plan) → Planned s s d → Laws w (performed w.machine s d w.waiting w.sent w.room) (λ bytes. performed w.machine s d (w.waiting ++ bytes) w.sent w.room)
  performs o s Went h = plain s Went
  performs o s Over h = plain s Over
  performs o s (Fault c n) h = plain s (Fault c n)
  performs o s (Read q node next) h =
      reads s node next o h.1 (finds q w.waiting) (λ bytes. finds q (w.waiting ++ bytes)) (λ bytes k. finds_more q w.waiting bytes k) (λ v n e. found_inside q w.waiting v n e)
  performs o s (Send q v node next) h = sends s node next v (text_of q v) h.1 (leb (length (text_of q v)) w.room) refl

  goes : (code : List ℕ) (l : Latch) → w.latch ≡ l → Laws w (stepping l code w) (λ bytes. stepping l code (fed bytes w))
  goes code Open o = performs o (advanced code w.machine).0 (advanced code w.machine).1 (ready_advanced code w.machine)
  goes code Closed o = record { waits = λ e. let z : ◌≡◌ {A = ℕ} 0 1 = cc in let y : ⊥ = omega arith in absurd y; more = λ bytes k. refl; moves = still w _ refl refl refl; latch = o }
  goes code (Broken c n) o = record { waits = λ e. let z : ◌≡◌ {A = ℕ} 0 1 = cc in let y : ⊥ = omega arith in absurd y; more = λ bytes k. refl; moves = still w _ refl refl refl; latch = o }

pub step-laws : (code : List ℕ) (w : World) (x : World × Outcome) → x ≡ stepped code w → StepLaws code w x
unfolding stepped
step-laws code w x e =
    let a = goes w code w.latch refl in
    subst (StepLaws code w) (sym e) record { waits = a.waits; more = a.more; moves = a.moves; latch = a.latch }

-- what the contract of a step says
pub done : (code : List ℕ) (w : World) (x : World × Outcome) (h h' : ℕ) → x ≡ stepped code w → Held h h' w.waiting x.0.waiting
    → record { steps : x ≡ stepped code w; laws : StepLaws code w x; hold : Held h h' w.waiting x.0.waiting }
done code w x h h' e k = record { steps = e; laws = step-laws code w x e; hold = k }
