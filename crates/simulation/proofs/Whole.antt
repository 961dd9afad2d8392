-- The simulation of a whole program, from the machine's first step on.
use Rattle.std.proofs.Common.{◌≡◌, ℕ, zero, suc, ◌-◌, ◌<◌, max, false, List, [], ◌∷◌, length, None, sym, refl, ap, ◌∙◌, subst, arith}
use Rattle.std.specs.List.{AllByRecursion}
use Rattle.number.specs.declared.text.Reading.{Reading}
use Rattle.number.specs.declared.text.Reading.TheVariants.{Wait, Refused, Took}
use Rattle.machine.specs.declared.plan.Plan.{Plan}
use Rattle.machine.specs.declared.plan.Plan.TheVariants.{Went, Over, Fault, Read, Send}
use Rattle.machine.specs.declared.plan.Latch.TheVariants.{Open}
use Rattle.machine.specs.declared.plan.Outcome.{Outcome}
use Rattle.machine.specs.View.{Act, State as Machine, state, resting}
use Rattle.machine.specs.Values.{finds as looks}
use Rattle.machine.specs.States.{opened, fetched, advanced}
use Rattle.machine.specs.Steps.{World, world, performed, stepped}
use Rattle.machine.proofs.Tables.{first_step}
use Rattle.machine.proofs.Entries.{main-plain}
use Rattle.language.specs.Tree.{Signature, Function}
use Rattle.language.specs.Rules.{Keeps}
use Rattle.language.specs.State.{Report, running, waits, ended, fault, ◌▷◌, fill}
use Rattle.language.specs.Meaning.{walk, meaning, start}
use Rattle.language.specs.Laws.{◌⊑◌}
use Rattle.language.proofs.Ranges.{fill_fits}
use Rattle.translate.specs.Code.{entry_for}
use Rattle.simulation.specs.Runs.{reported, machine_report, armed, Begins, Simulates, Simulation}
use Rattle.simulation.proofs.Moves.{Sim}
use Rattle.simulation.proofs.Rows.{filled}
use Rattle.simulation.proofs.Functions.{sim-main}
use Rattle.simulation.proofs.Programs.{address, entry-at, all-entries, all_bodies}
use Rattle.simulation.proofs.Bound.{larger}

joined : (x y z : Report) → x ⊑ y → y ⊑ z → x ⊑ z
joined running y z p q = tt
joined waits y z p q = rw p at q
joined (ended vs) y z p q = rw p at q
joined (fault c o vs) y z p q = rw p at q
joined (h ▷ x) y z p q =
    let r : (h ▷ p.0) ⊑ z = rw p.1 at q in
    (r.0, r.1, joined x p.0 r.0 p.2 r.2)

-- What a first step reports does not depend on the machine that a wait gives back.
module _ (a b s : Machine) (ws ss : List ℕ) (r : ℕ) (R : World → Report) where
  abbrev of : Machine → World × Outcome → Report
  of m x = reported (world m Open ws ss r) x.0 (R x.0) x.1

  same_read : (node at : ℕ) (q : _) (f : Reading) → looks q ws ≡ f → of a (performed a s (Read q node at) ws ss r) ≡ of b (performed b s (Read q node at) ws ss r)
  same_read node at q Wait e = rw e refl
  same_read node at q Refused e = rw e refl
  same_read node at q (Took v n) e = rw e refl

  same_first : (d : Plan) → of a (performed a s d ws ss r) ≡ of b (performed b s d ws ss r)
  same_first Went = refl
  same_first Over = refl
  same_first (Fault c n) = refl
  same_first (Read q node at) = same_read node at q (looks q ws) refl
  same_first (Send q v node at) = refl

first_report : (code : List ℕ) (x : Act) (xs : List Act) (p : ℕ) (ws ss : List ℕ) (r : ℕ) → advanced code resting ≡ advanced code (state (x ∷ xs) p) → (t : ℕ) → machine_report code t (armed ws ss r) ≡ machine_report code t (world (state (x ∷ xs) p) Open ws ss r)
unfolding machine_report stepped
first_report code x xs p ws ss r e zero = refl
first_report code x xs p ws ss r e (suc t) =
    let m : Machine = state (x ∷ xs) p in
    ap (λ (z : Machine × Plan). of resting m z.0 ws ss r (machine_report code t) resting (performed resting z.0 z.1 ws ss r)) e
    ∙ same_first resting m (advanced code m).0 ws ss r (machine_report code t) (advanced code m).1

opened_is : (g : Signature) (h : ℕ) → g.result ≡ None → g.parameters ≡ 0 → opened (entry_for g h) ≡ state (record { vars = fill (length g.variables) []; ops = []; gives = false; back = 0 } ∷ []) h
opened_is g h e q = rw (e, filled (length g.variables) (length g.variables - g.parameters) [] (omega arith)) refl

begun_is : (code : List ℕ) (x : Act) (xs : List Act) (p : ℕ) → fetched code (state (x ∷ xs) p) ≡ advanced code (state (x ∷ xs) p)
unfolding advanced
begun_is code x xs p = refl

module _ (m : Function) (fs : List Function) (keeps : Keeps (m ∷ fs)) (code : List ℕ) (begin : Begins (m ∷ fs) code) (bytes : List ℕ) (small : AllByRecursion (λ b. b < 256) bytes) (out : List ℕ) (room : ℕ) where
  abbrev at0 : ℕ
  at0 = address code m fs keeps begin 0

  first : advanced code resting ≡ advanced code (state (record { vars = fill (length m.signature.variables) []; ops = []; gives = false; back = 0 } ∷ []) at0)
  first =
      let n = keeps.functions.0 in
      let e = entry-at code m fs keeps begin 0 m.signature refl in
      sym (first_step code resting (entry_for m.signature at0) refl (main-plain code (entry_for m.signature at0) (sym e) (rw n refl) keeps.functions.1))
      ∙ ap (fetched code) (opened_is m.signature at0 n keeps.functions.1) ∙ begun_is code _ [] at0

  sim : (g : ℕ) → Sim code g 0 (walk (m ∷ fs) g (start (m ∷ fs) bytes room)) (world (state (record { vars = fill (length m.signature.variables) []; ops = []; gives = false; back = 0 } ∷ []) at0) Open bytes out room)
  sim g =
      (sim-main code m fs keeps.functions.3 (address code m fs keeps begin) (all-entries code m fs keeps begin) (all_bodies code m fs keeps begin) g g (omega arith) keeps.functions.0 keeps.functions.2
      ).go (start (m ∷ fs) bytes room) out (record { own = fill_fits m.signature.variables 0 [] tt; callers = tt; bytes = small })

  whole : Simulates (m ∷ fs) code bytes out room
  whole =
      record {
        forward = λ n t l. subst (λ (R : Report). meaning (m ∷ fs) (start (m ∷ fs) bytes room) n ⊑ R) (sym (first_report code _ [] at0 bytes out room first t)) ((sim n).fwd n t (omega arith));
        backward = λ t.
            let b = (sim t).bwd t (omega arith) in
            let i : ℕ = max t b.0 in (
              i,
              joined (machine_report code t (armed bytes out room)) (walk (m ∷ fs) t (start (m ∷ fs) bytes room) b.0) (meaning (m ∷ fs) (start (m ∷ fs) bytes room) i)
                  (subst (λ (R : Report). R ⊑ walk (m ∷ fs) t (start (m ∷ fs) bytes room) b.0) (sym (first_report code _ [] at0 bytes out room first t)) b.1)
                  ((larger (m ∷ fs) t i (omega arith)).go (start (m ∷ fs) bytes room) b.0 i (omega arith)),
            );
      }

pub simulates : Simulation
simulates [] keeps = absurd keeps.functions
simulates (m ∷ fs) keeps = whole m fs keeps
