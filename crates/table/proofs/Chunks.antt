-- Records of equal length that follow each other from a place on, read byte by byte.
use Rattle.std.proofs.Common.{◌≡◌, ℕ, zero, suc, ◌+◌, ◌*◌, ◌<◌, ◌≤◌, List, [], get_or, length, take, drop, ap, ◌∙◌, arith}
use Rattle.std.specs.Simd.{first_chunks}
use Rattle.std.proofs.lemmas.List.{get_or-drop, get_or-take, length-drop, length-take}

in_chunk : (xs : List ℕ) (n k i j : ℕ) → i < k → j < n → get_or (get_or (first_chunks n k xs) i []) j 0 ≡ get_or xs (n * i + j) 0
in_chunk xs n zero i j h g = absurd (omega arith)
in_chunk xs n (suc k) zero j h g = let e : n * 0 + j ≡ j = omega arith in rw e (get_or-take n xs j 0 g)
in_chunk xs n (suc k) (suc i) j h g =
    let e : n + (n * i + j) ≡ n * suc i + j = omega arith in
    in_chunk (drop n xs) n k i j (omega arith) g ∙ get_or-drop n xs (n * i + j) 0 ∙ ap (λ p. get_or xs p 0) e

-- byte j of record i, of n bytes each, among m bytes from place p on
pub record_byte : (bs : List ℕ) (m p n k i : ℕ) (rs : List (List ℕ)) (r : List ℕ) → rs ≡ first_chunks n k (take m (drop p bs)) → r ≡ get_or rs i [] →
    i < k → (j q : ℕ) → j < n → n * i + j < m → q ≡ p + n * i + j → get_or r j 0 ≡ get_or bs q 0
record_byte bs m p n k i rs r f e h j q g l s =
    let t : p + (n * i + j) ≡ q = omega arith in
    ap (λ x. get_or x j 0) (e ∙ ap (λ x. get_or x i []) f)
    ∙ in_chunk (take m (drop p bs)) n k i j h g
    ∙ get_or-take m (drop p bs) (n * i + j) 0 l
    ∙ get_or-drop p bs (n * i + j) 0 ∙ ap (λ x. get_or bs x 0) t

-- as many bytes as there are
pub length_among : (bs : List ℕ) (m p : ℕ) → m + p ≤ length bs → length (take m (drop p bs)) ≡ m
length_among bs m p h = omega (arith, length-take m (drop p bs), length-drop p bs)
