-- The first line feed among the first bytes, by its place.
use Rattle.std.proofs.Common.{◌≡◌, ℕ, zero, suc, ◌+◌, ◌<◌, ◌⊎◌, eqb, ltb, Bool, true, false, cond, Option, take, List, [], ◌∷◌, length, get_or, Some, None, refl, ap, ◌∙◌, ◌≤◌, inl, inr, arith}
use Rattle.std.proofs.lemmas.Bool.{lt-ltb, le-ltb, cases_lt, eq-eqb, ne_eqb, cases_eq}
use Rattle.std.proofs.lemmas.Bool.Decides.{nat_tests}
use Rattle.std.specs.List.{position, position_or_len}
use Rattle.number.specs.Reading.{feed_among, one_on}

-- None of the bytes below n is a line feed.
abbrev pub Absent : ℕ → List ℕ → Type 0
Absent n bs = (k : ℕ) → k < n → k < length bs → get_or bs k 0 ≡ 10 → ⊥

-- The first line feed among n bytes is at i.
pub record First (n : ℕ) (bs : List ℕ) (i : ℕ) : Type 0 where
  pub among : i < n
  pub inside : i < length bs
  pub before : Absent i bs
  pub feed : get_or bs i 0 ≡ 10

pub found : (n : ℕ) (bs : List ℕ) (i : ℕ) → First n bs i → feed_among n bs ≡ Some i
unfolding feed_among
found zero bs i f = let h = f.among in absurd (omega arith)
found (suc n) [] i f = let h = f.inside in absurd (omega arith)
found (suc n) (b ∷ bs) zero f = rw (eq-eqb b 10 f.feed) refl
found (suc n) (b ∷ bs) (suc i) f =
    let p = f.among in
    let q = f.inside in
    let e = ne_eqb b 10 (f.before 0 (omega arith) (omega arith)) in
    let r = found n bs i (record { among = omega arith; inside = omega arith; before = λ k j l. f.before (suc k) (omega arith) (omega arith); feed = f.feed }) in
    rw (e, r) refl

pub missing : (n : ℕ) (bs : List ℕ) → Absent n bs → feed_among n bs ≡ None
unfolding feed_among
missing zero bs f = refl
missing (suc n) [] f = refl
missing (suc n) (b ∷ bs) f =
    let e = ne_eqb b 10 (f 0 (omega arith) (omega arith)) in
    let r = missing n bs (λ k j l. f (suc k) (omega arith) (omega arith)) in
    rw (e, r) refl

absent_more : (b n : ℕ) (bs : List ℕ) → (b ≡ 10 → ⊥) → Absent n bs → Absent (suc n) (b ∷ bs)
absent_more b n bs h f zero p q = h
absent_more b n bs h f (suc k) p q = f k (omega arith) (omega arith)

-- Either there is a first line feed, or none at all.
abbrev pub Told : ℕ → List ℕ → Type 0
Told n bs = ((i : ℕ) × First n bs i) ⊎ Absent n bs

grown : (b n : ℕ) (bs : List ℕ) → (b ≡ 10) ⊎ (b ≡ 10 → ⊥) → Told n bs → Told (suc n) (b ∷ bs)
grown b n bs (inl e) t = inl (0, record { among = omega arith; inside = omega arith; before = λ k p. absurd (omega arith); feed = e })
grown b n bs (inr h) (inl f) =
    let p = f.1.among in
    let q = f.1.inside in
    inl (suc f.0, record { among = omega arith; inside = omega arith; before = absent_more b f.0 bs h f.1.before; feed = f.1.feed })
grown b n bs (inr h) (inr f) = inr (absent_more b n bs h f)

pub tells-feed : (n : ℕ) (bs : List ℕ) → Told n bs
tells-feed zero bs = inr (λ k p. absurd (omega arith))
tells-feed (suc n) [] = inr (λ k p q. absurd (omega arith))
tells-feed (suc n) (b ∷ bs) = grown b n bs (cases_eq b 10) (tells-feed n bs)

-- One place further on.
further : (i j l : ℕ) → j ≡ suc i → (i < l) ⊎ (l ≤ i) → cond (ltb j (suc l)) (Some j) None ≡ one_on (cond (ltb i l) (Some i) None)
further i j l e (inl h) = rw (e, lt-ltb i l h, lt-ltb (suc i) (suc l) (omega arith)) refl
further i j l e (inr h) = rw (e, le-ltb i l h, le-ltb (suc i) (suc l) (omega arith)) refl

first_place : (b : ℕ) (xs : List ℕ) (t : Bool) → eqb b 10 ≡ t → position (λ x. eqb x 10) (b ∷ xs) ≡ cond (eqb b 10) (Some 0) (one_on (position (λ x. eqb x 10) xs))
first_place b xs true e = rw e (grind (arith, nat_tests))
first_place b xs false e =
    let i = position_or_len (λ x. eqb x 10) xs in
    rw e (further i (1 + i) (length xs) (omega arith) (cases_lt i (length xs)))

-- The first place of a line feed among the first n bytes.
pub by_position : (n : ℕ) (bs : List ℕ) → position (λ x. eqb x 10) (take n bs) ≡ feed_among n bs
unfolding feed_among
by_position zero bs = refl
by_position (suc n) [] = refl
by_position (suc n) (b ∷ bs) = first_place b (take n bs) (eqb b 10) refl ∙ ap (λ (o : Option ℕ). cond (eqb b 10) (Some 0) (one_on o)) (by_position n bs)
