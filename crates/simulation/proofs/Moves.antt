-- The machine and the meaning side by side, and the four moves that keep them so: a node is entered, a step goes on
-- without a happening, a step has one, and a step stops.
use Rattle.std.proofs.Common.{◌≡◌, ℕ, zero, suc, ◌+◌, ◌≤◌, List, sym, refl, ap, ◌∙◌, subst, arith}
use Rattle.machine.specs.declared.plan.Outcome.{Outcome}
use Rattle.machine.specs.declared.plan.Outcome.TheVariants.{Went as Stepped}
use Rattle.machine.specs.Steps.{World, stepped}
use Rattle.language.specs.State.{State, Happening, Report, running, ◌▷◌, Stop, at_wait, at_end, at_fault, stopped}
use Rattle.language.specs.Meaning.{Rest, enter}
use Rattle.language.specs.Laws.{◌⊑◌}
use Rattle.simulation.specs.Runs.{reported, machine_report}

-- What the meaning reports within n entries comes within n + d steps: d nodes were entered whose word is still to come.
-- What the machine reports within j steps or fewer comes within some number of entries.
pub record Sim (code : List ℕ) (j d : ℕ) (X : ℕ → Report) (w : World) : Type 0 where
  pub fwd : (n t : ℕ) → n + d ≤ t → X n ⊑ machine_report code t w
  pub bwd : (t : ℕ) → t ≤ j → (n : ℕ) × (machine_report code t w ⊑ X n)

-- with a node entered, one word more is to come
pub entered : {code : List ℕ} {j d : ℕ} (r : Rest) (s : State) {w : World} → Sim code j (suc d) (r s) w → Sim code j d (enter r s) w
entered {code} {j} {d} r s {w} S = record { fwd = go; bwd = λ t h. (suc (S.bwd t h).0, (S.bwd t h).1) }
  where
    go : (n t : ℕ) → n + d ≤ t → enter r s n ⊑ machine_report code t w
    go zero t h = tt
    go (suc n) t h = S.fwd n t (omega arith)

pub weak : {code : List ℕ} {j i d e : ℕ} {X : ℕ → Report} {w : World} → i ≤ j → d ≤ e → Sim code j d X w → Sim code i e X w
weak p q S = record { fwd = λ n t h. S.fwd n t (omega arith); bwd = λ t h. S.bwd t (omega arith) }

after : (code : List ℕ) (t : ℕ) (w x : World) (o : Outcome) → stepped code w ≡ (x, o) → machine_report code (suc t) w ≡ reported w x (machine_report code t x) o
unfolding machine_report
after code t w x o e = ap (λ (z : World × Outcome). reported w z.0 (machine_report code t z.0) z.1) e

pub nothing : (code : List ℕ) (w : World) → machine_report code 0 w ≡ running
unfolding machine_report
nothing code w = refl

-- a step without a happening, of at most j steps of which i come after it
pub steps : {code : List ℕ} {j i d : ℕ} {X : ℕ → Report} {w x : World} → j ≤ suc i → stepped code w ≡ (x, Stepped) → ((R : Report) → reported w x R Stepped ≡ R) → Sim code i d X x → Sim code j (suc d) X w
steps {code} {j} {i} {d} {X} {w} {x} b e q S = record { fwd = go; bwd = og }
  where
    go : (n t : ℕ) → n + suc d ≤ t → X n ⊑ machine_report code t w
    go n zero h = absurd (omega arith)
    go n (suc t) h = subst (λ (R : Report). X n ⊑ R) (sym (after code t w x Stepped e ∙ q _)) (S.fwd n t (omega arith))

    og : (t : ℕ) → t ≤ j → (n : ℕ) × (machine_report code t w ⊑ X n)
    og zero h = (0, rw (nothing code w) tt)
    og (suc t) h =
        ((S.bwd t (omega arith)).0, subst (λ (R : Report). R ⊑ X (S.bwd t (omega arith)).0) (sym (after code t w x Stepped e ∙ q _)) (S.bwd t (omega arith)).1)

pub happens : {code : List ℕ} {j d : ℕ} {X : ℕ → Report} {w x : World} {ε : Happening} → stepped code w ≡ (x, Stepped) → ((R : Report) → reported w x R Stepped ≡ ε ▷ R) → Sim code j d X x → Sim code j (suc d) (λ n. ε ▷ X n) w
happens {code} {j} {d} {X} {w} {x} {ε} e q S = record { fwd = go; bwd = og }
  where
    go : (n t : ℕ) → n + suc d ≤ t → ε ▷ X n ⊑ machine_report code t w
    go n zero h = absurd (omega arith)
    go n (suc t) h = subst (λ (R : Report). ε ▷ X n ⊑ R) (sym (after code t w x Stepped e ∙ q _)) (machine_report code t x, refl, S.fwd n t (omega arith))

    og : (t : ℕ) → t ≤ j → (n : ℕ) × (machine_report code t w ⊑ ε ▷ X n)
    og zero h = (0, rw (nothing code w) tt)
    og (suc t) h =
        let b = S.bwd t (omega arith) in
        (b.0, subst (λ (R : Report). R ⊑ ε ▷ X b.0) (sym (after code t w x Stepped e ∙ q _)) (X b.0, refl, b.1))

at_rest : (x : Stop) (s : State) → stopped x s ⊑ stopped x s
at_rest at_wait s = refl
at_rest at_end s = refl
at_rest (at_fault c p) s = refl

pub stops : {code : List ℕ} {j d : ℕ} {w x : World} {o : Outcome} (a : Stop) (s : State) → stepped code w ≡ (x, o) → ((R : Report) → reported w x R o ≡ stopped a s) → Sim code j (suc d) (λ n. stopped a s) w
stops {code} {j} {d} {w} {x} {o} a s e q = record { fwd = go; bwd = og }
  where
    go : (n t : ℕ) → n + suc d ≤ t → stopped a s ⊑ machine_report code t w
    go n zero h = absurd (omega arith)
    go n (suc t) h = subst (λ (R : Report). stopped a s ⊑ R) (sym (after code t w x o e ∙ q _)) (at_rest a s)

    og : (t : ℕ) → t ≤ j → (n : ℕ) × (machine_report code t w ⊑ stopped a s)
    og zero h = (0, rw (nothing code w) tt)
    og (suc t) h = (0, subst (λ (R : Report). R ⊑ stopped a s) (sym (after code t w x o e ∙ q _)) (at_rest a s))
