-- How a reading is judged, and that more bytes do not change what has been settled.
use Rattle.std.proofs.Common.{◌≡◌, ℕ, ◌+◌, ◌<◌, ◌≤◌, true, false, ◌⊎◌, List, ◌++◌, length, take, drop, ℤ, pos, nat_abs, Some, None, Option, sym, refl, ap, ◌∙◌, inl, inr, arith, length-append, take-append-drop, w16, w32, to_z, of_z}
use Rattle.std.proofs.lemmas.List.{get_or_append_left, take-append-le, take_all, length-take-le}
use Rattle.std.proofs.lemmas.Bool.{lt-ltb, le-ltb, cases_lt, cond_both}
use Rattle.std.proofs.lemmas.Int.{ints}
use Rattle.number.specs.declared.text.Reading.{Reading}
use Rattle.number.specs.declared.text.Reading.TheVariants.{Wait, Refused, Took}
use Rattle.number.specs.Number.{Kind, Cells, in_range}
use Rattle.number.specs.Reading.{reading, judged, taken, numeral, feed_among, Settled}
use Rattle.number.proofs.Feeds.{Absent, First, Told, found, missing, tells-feed}

-- A natural number is in range exactly if it is not too high.
range_yes : (k : Kind) → Cells k → (n : ℕ) → n ≤ nat_abs k.high → in_range k (pos n) ≡ true
unfolding in_range
range_yes k c n h = grind (arith, ints)

range_no : (k : Kind) → Cells k → (n : ℕ) → nat_abs k.high < n → in_range k (pos n) ≡ false
unfolding in_range
range_no k c n h = grind (arith, ints)

pub takes_number : (k : Kind) → Cells k → (n m : ℕ) → n ≤ nat_abs k.high → Took (pos n) m ≡ taken k m (Some n)
unfolding taken
takes_number k c n m h = rw (range_yes k c n h) refl

pub takes : (k : Kind) → Cells k → (o : Option ℕ) (n m : ℕ) (h : ℤ) → h ≡ k.high → n ≤ nat_abs (to_z w32 (of_z w32 h)) → o ≡ Some n → Took (to_z w16 n) m ≡ taken k m o
takes k c o n m h e p d =
    let q : n ≤ nat_abs k.high = omega (arith, ints) in
    let t : to_z w16 n ≡ pos n = omega (arith, ints) in
    rw (d, t) (takes_number k c n m q)

pub refuses : (k : Kind) → Cells k → (o : Option ℕ) (n m : ℕ) (h : ℤ) → h ≡ k.high → nat_abs (to_z w32 (of_z w32 h)) < n → o ≡ Some n → Refused ≡ taken k m o
unfolding taken
refuses k c o n m h e p d =
    let q : nat_abs k.high < n = omega (arith, ints) in
    rw (d, range_no k c n q) refl

pub refuses_none : (k : Kind) (o : Option ℕ) (m : ℕ) → o ≡ None → Refused ≡ taken k m o
unfolding taken
refuses_none k o m d = rw d refl

-- A line feed settles the reading by the text before it.
at-feed : (k : Kind) (bs : List ℕ) (i : ℕ) → feed_among 8 bs ≡ Some i → taken k (i + 1) (numeral (take i bs)) ≡ reading k bs
unfolding reading judged
at-feed k bs i e = rw e refl

pub outcome : (k : Kind) (bs : List ℕ) (i : ℕ) (o : Option ℕ) (r : Reading) → feed_among 8 bs ≡ Some i → o ≡ numeral (take i bs) → r ≡ taken k (i + 1) o → r ≡ reading k bs
outcome k bs i o r e d h = h ∙ (ap (taken k (i + 1)) d ∙ at-feed k bs i e)

pub waits : (k : Kind) (bs : List ℕ) → feed_among 8 bs ≡ None → length bs < 8 → Wait ≡ reading k bs
unfolding reading judged
waits k bs e h = rw (e, lt-ltb (length bs) 8 h) refl

pub fills : (k : Kind) (bs : List ℕ) → feed_among 8 bs ≡ None → 8 ≤ length bs → Refused ≡ reading k bs
unfolding reading judged
fills k bs e h = rw (e, le-ltb (length bs) 8 h) refl

longer : (bs more : List ℕ) → length (bs ++ more) ≡ length bs + length more
longer bs more = simp length-append

-- The first line feed stays the first, and eight bytes without one stay eight bytes without one.
first_more : (n : ℕ) (bs more : List ℕ) (i : ℕ) → First n bs i → First n (bs ++ more) i
first_more n bs more i f =
    let l = longer bs more in
    let p = f.inside in
    record {
      among = f.among;
      inside = omega arith;
      before = λ k j m e. f.before k j (omega arith) (let q : k < length bs = omega arith in sym (get_or_append_left bs more 0 k q) ∙ e);
      feed = get_or_append_left bs more 0 i f.inside ∙ f.feed;
    }

absent_more : (n : ℕ) (bs more : List ℕ) → n ≤ length bs → Absent n bs → Absent n (bs ++ more)
absent_more n bs more h f k p q e = let l : k < length bs = omega arith in f k p l (sym (get_or_append_left bs more 0 k l) ∙ e)

by-told : (k : Kind) (bs more : List ℕ) → Told 8 bs → (reading k bs ≡ Wait → ⊥) → reading k (bs ++ more) ≡ reading k bs
by-told k bs more (inl f) h =
    let i = f.0 in
    let p = f.1.inside in
    let t : take i (bs ++ more) ≡ take i bs = take-append-le i bs more (omega arith) in
    sym (at-feed k (bs ++ more) i (found 8 (bs ++ more) i (first_more 8 bs more i f.1))) ∙ (ap (λ (x : List ℕ). taken k (i + 1) (numeral x)) t ∙ at-feed k bs i (found 8 bs i f.1))
by-told k bs more (inr f) h = by_length (cases_lt (length bs) 8)
  where
    by_length : (length bs < 8) ⊎ (8 ≤ length bs) → reading k (bs ++ more) ≡ reading k bs
    by_length (inl s) = absurd (h (sym (waits k bs (missing 8 bs f) s)))
    by_length (inr s) =
        let l = longer bs more in
        sym (fills k (bs ++ more) (missing 8 (bs ++ more) (absent_more 8 bs more s f)) (omega arith)) ∙ fills k bs (missing 8 bs f) s

pub settled : (k : Kind) (bs : List ℕ) (r : Reading) → r ≡ reading k bs → Settled k bs r
settled k bs r e more h = by-told k bs more (tells-feed 8 bs) (λ w. h (e ∙ w)) ∙ sym e

not_taken : (k : Kind) (m : ℕ) (o : Option ℕ) → taken k m o ≡ Wait → ⊥
unfolding taken
not_taken k m None e = let z : ◌≡◌ {A = ℕ} 0 1 = cc in omega arith
not_taken k m (Some v) e = cond_both (in_range k (pos v)) (Took (pos v) m) Refused (λ x. x ≡ Wait → ⊥) (λ t. λ w. let z : ◌≡◌ {A = ℕ} 0 1 = cc in omega arith) (λ t. λ w. let z : ◌≡◌ {A = ℕ} 0 1 = cc in omega arith) e

never : (k : Kind) (bs : List ℕ) → length bs ≡ 8 → Told 8 bs → reading k bs ≡ Wait → ⊥
never k bs l (inl f) e = not_taken k (f.0 + 1) (numeral (take f.0 bs)) (at-feed k bs f.0 (found 8 bs f.0 f.1) ∙ e)
never k bs l (inr f) e = let q = fills k bs (missing 8 bs f) (omega arith) in let z : ◌≡◌ {A = ℕ} 0 1 = cc in omega arith

-- The first eight bytes decide.
short : (k : Kind) (bs : List ℕ) → (length bs < 8) ⊎ (8 ≤ length bs) → reading k bs ≡ reading k (take 8 bs)
short k bs (inl s) = ap (reading k) (sym (take_all 8 bs (omega arith)))
short k bs (inr s) =
    let l = length-take-le 8 bs s in
    ap (reading k) (sym (take-append-drop 8 bs)) ∙ by-told k (take 8 bs) (drop 8 bs) (tells-feed 8 (take 8 bs)) (never k (take 8 bs) l (tells-feed 8 (take 8 bs)))

pub eight : (k : Kind) (bs : List ℕ) (r : Reading) → r ≡ reading k bs → r ≡ reading k (take 8 bs)
eight k bs r e = e ∙ short k bs (cases_lt (length bs) 8)
