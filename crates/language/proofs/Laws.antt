-- The laws of the meaning, from the one induction.
use Rattle.std.proofs.Common.{◌≡◌, ℕ, ◌≤◌, true, false, [], sym, refl, ap, subst, append-nil, arith}
use Rattle.std.proofs.lemmas.Bool.{true≢false}
use Rattle.language.specs.Tree.{Program}
use Rattle.language.specs.State.{State, Report, running, waits, ended, fault, ◌▷◌}
use Rattle.language.specs.Meaning.{walk, meaning}
use Rattle.language.specs.Laws.{◌⊑◌, fed, MoreEntries, MoreBytes, BoundNeverShows, TakenAndSent, CausesKnown}
use Rattle.language.proofs.Growth.{walks}

fed_none : (s : State) → fed [] s ≡ s
fed_none s = λ i. record { own = s.own; callers = s.callers; waiting = append-nil s.waiting i; room = s.room }

-- no more bytes: a wait stays
later : (P : Program) (s : State) (g i n m : ℕ) → n ≤ g → n ≤ i → n ≤ m → walk P g s n ⊑ walk P i s m
later P s g i n m l j h = subst (λ (t : State). walk P g s n ⊑ walk P i t m) (fed_none s) (walks false [] (λ e. refl) P s g i n m l j h).extends

pub more-entries : MoreEntries
more-entries P s n m l = later P s n m n m (omega arith) l l

pub more_bytes : MoreBytes
more_bytes P s bytes n m l = (walks true bytes (λ e. absurd (true≢false e)) P s n m n m (omega arith) l l).extends

pub taken_and_sent : TakenAndSent
taken_and_sent P s n = (walks false [] (λ e. refl) P s n n n n (omega arith) (omega arith) (omega arith)).fits

pub causes_known : CausesKnown
causes_known P s n = (walks false [] (λ e. refl) P s n n n n (omega arith) (omega arith) (omega arith)).known

-- two reports of which each extends the other are equal
equal : (x y : Report) → x ⊑ y → y ⊑ x → x ≡ y
equal running running p q = refl
equal running waits p q = q
equal running (ended vs) p q = q
equal running (fault c o vs) p q = q
equal running (h ▷ y) p q = let e : running ≡ h ▷ q.0 = q.1 in let z : ◌≡◌ {A = ℕ} 0 1 = cc in absurd (omega arith)
equal waits y p q = sym p
equal (ended vs) y p q = sym p
equal (fault c o vs) y p q = sym p
equal (h ▷ x) y p q =
    let r : (h ▷ p.0) ⊑ (h ▷ x) = rw p.1 at q in
    let t : h ▷ x ≡ h ▷ r.0 = r.1 in
    let e : r.0 ≡ x = cc in
    rw p.1 (ap (λ (z : Report). h ▷ z) (equal x p.0 p.2 (rw e at r.2)))

pub bound_never_shows : BoundNeverShows
bound_never_shows P s g n l =
    equal (walk P g s n) (meaning P s n) (later P s g n n n l (omega arith) (omega arith)) (later P s n g n n (omega arith) l (omega arith))
