-- Lists place by place, and a list joined from pieces of one length.
use Rattle.std.proofs.Common.{◌≡◌, ℕ, zero, suc, ◌+◌, ◌-◌, ◌*◌, ◌<◌, ◌≤◌, List, [], ◌∷◌, length, get_or, Some, None, sym, ap, ◌∙◌, mul-zero, mul-suc, arith}
use Rattle.std.specs.List.{flat_map, AllByRecursion, slice_get, range_with_len}
use Rattle.std.proofs.lemmas.List.{length-append, get_or_append_left, get_or-append_right}
use Rattle.std.proofs.lemmas.List.FromFn.{length-range_with_len, get_or-range_with_len}
use Rattle.std.proofs.lemmas.Option.{slice_get-get_or, slice_get_within}
use Rattle.std.proofs.ByRecursion.{All-get_or}

-- from place q on stand the first n bytes of xs
abbrev pub At : List ℕ → ℕ → ℕ → List ℕ → Type 0
At bs q n xs = (j : ℕ) → j < n → get_or bs (q + j) 0 ≡ get_or xs j 0

pub at_each : (bs : List ℕ) (q n : ℕ) (xs : List ℕ) → AllByRecursion (λ j. get_or bs (q + j) 0 ≡ get_or xs j 0) (range_with_len 0 n) → At bs q n xs
at_each bs q n xs h j l =
    let e : get_or (range_with_len 0 n) j 0 ≡ j = omega (arith, get_or-range_with_len 0 n j 0 l) in
    rw e at (All-get_or (λ j. get_or bs (q + j) 0 ≡ get_or xs j 0) (range_with_len 0 n) j 0 (omega (arith, length-range_with_len 0 n)) h)

pub nth_none : {X : Type 0} (xs : List X) (i : ℕ) → slice_get xs i ≡ None → length xs ≤ i
nth_none [] i h = omega arith
nth_none (y ∷ ys) zero h = absurd (grind arith)
nth_none (y ∷ ys) (suc i) h = omega (arith, nth_none ys i h)

pub all-nth : {X : Type 0} (P : X → Type 0) (xs : List X) (i : ℕ) (x : X) → AllByRecursion P xs → slice_get xs i ≡ Some x → P x
all-nth P xs i x a h =
    let l = slice_get_within xs i x h in
    let e : get_or xs i x ≡ x = cc (slice_get-get_or xs i x l) in
    rw e at (All-get_or P xs i x l a)

module _ {X A : Type 0} (n : ℕ) (f : X → List A) (long : (x : X) → length (f x) ≡ n) where
  pub length-joined : (xs : List X) → length (flat_map f xs) ≡ n * length xs
  length-joined [] = sym (mul-zero n)
  length-joined (x ∷ xs) = omega (arith, length-append (f x) (flat_map f xs), long x, length-joined xs, mul-suc n (length xs))

  pub get_or-joined : (xs : List X) (i j : ℕ) (x : X) (d : A) → slice_get xs i ≡ Some x → j < n → get_or (flat_map f xs) (n * i + j) d ≡ get_or (f x) j d
  get_or-joined [] i j x d h l = absurd (grind arith)
  get_or-joined (y ∷ ys) zero j x d h l =
      let e : n * zero + j ≡ j = omega (arith, mul-zero n) in
      let s : y ≡ x = cc in
      rw (e, ← s) (get_or_append_left (f y) (flat_map f ys) d j (omega (arith, long y)))
  get_or-joined (y ∷ ys) (suc i) j x d h l =
      let e : n * suc i + j - n ≡ n * i + j = omega (arith, mul-suc n i) in
      get_or-append_right (f y) (flat_map f ys) n (n * suc i + j) d (long y) (omega (arith, mul-suc n i))
      ∙ ap (λ k. get_or (flat_map f ys) k d) e ∙ get_or-joined ys i j x d h l
