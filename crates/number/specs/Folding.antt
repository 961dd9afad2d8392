-- The law of folding, for every kind whose span counts its numbers.
use Rattle.std.specs.Prelude.{◌≡◌, ℕ, suc, ◌+◌, ◌-◌, ◌*◌, ◌/◌, ◌%◌, ◌<◌, ℤ, pos, negsuc, ◌+ℤ◌, ◌-ℤ◌, ◌*ℤ◌, unsigned_abs, refl}
use Rattle.std.proofs.Common.{sym, ◌∙◌, ap, rules, arith, zero-mul, suc-mul, mod-eq_of_lt, mod-lt}
use Rattle.std.proofs.Math.Nat.{add-mul-mod_self_right, mod-add-div'}
use Rattle.std.specs.Int.{int_rem_euclid}
use Rattle.std.proofs.lemmas.Int.{ints, int_rem_euclid_is}
use Rattle.number.specs.Number.{Kind, Within, Cells, Folding, folded, int, byte}

-- The remainder of z by s, and how often s goes into z.
pub record Rest (z : ℤ) (s : ℕ) : Type 0 where
  pub rest : ℕ
  pub times : ℤ
  pub small : rest < s
  pub whole : z ≡ pos rest +ℤ (times *ℤ pos s)
  pub is : int_rem_euclid z (pos s) ≡ pos rest

pub rest_of : (z : ℤ) (s : ℕ) → 0 < s → Rest z s
rest_of (pos a) s h = record { rest = a % s; times = pos (a / s); small = mod-lt a h; whole = ap pos (sym (mod-add-div' a s)); is = refl }
rest_of (negsuc a) s h =
    let m = mod-lt a h in
    let d = mod-add-div' a s in
    let t = suc-mul (a / s) s in
    record { rest = s - 1 - a % s; times = negsuc (a / s); small = omega arith; whole = omega (arith, ints); is = refl }

-- A remainder below s is the remainder.
rest_is : (z : ℤ) (m s : ℕ) (k : ℤ) → m < s → z ≡ pos m +ℤ (k *ℤ pos s) → int_rem_euclid z (pos s) ≡ pos m
rest_is z m s (pos j) h e =
    let p : 0 < s = omega arith in
    let q : z +ℤ pos (0 * s) ≡ pos (m + j * s) = rw (zero-mul s) (omega (arith, ints)) in
    int_rem_euclid_is z (pos s) s 0 (m + j * s) p refl q ∙ ap pos (add-mul-mod_self_right m j s ∙ mod-eq_of_lt h)
rest_is z m s (negsuc j) h e =
    let p : 0 < s = omega arith in
    let q : z +ℤ pos (suc j * s) ≡ pos m = omega (arith, ints) in
    int_rem_euclid_is z (pos s) s (suc j) m p refl q ∙ ap pos (mod-eq_of_lt h)

pub some : (k : Kind) → Cells k → 0 < k.span
some k c = omega (arith, ints)

-- The one number of the kind that is apart from n by a multiple of the span is what folding gives.
pub only : (k : Kind) → Cells k → (n q m : ℤ) → Within k q → n ≡ q +ℤ (m *ℤ pos k.span) → q ≡ folded k n
unfolding folded
only k c n q m w e =
    let d : unsigned_abs (q -ℤ k.low) < k.span = omega (arith, ints) in
    let z : n -ℤ k.low ≡ pos (unsigned_abs (q -ℤ k.low)) +ℤ (m *ℤ pos k.span) = omega (arith, ints) in
    rw (rest_is (n -ℤ k.low) (unsigned_abs (q -ℤ k.low)) k.span m d z) (omega (arith, ints))

pub every_kind_folds : (k : Kind) → Cells k → Folding k
unfolding folded
every_kind_folds k c n =
    let r = rest_of (n -ℤ k.low) k.span (some k c) in
    let e = r.is in
    let w = r.whole in
    let m = r.small in
    record {
      within = rw e (record { least = omega (arith, ints); most = omega (arith, ints) });
      apart = (r.times, rw e (omega (arith, ints)));
      only = λ q m. only k c n q m;
    }

pub int_cells : Cells int
int_cells = record { bottom = search rules; nought = search rules; past = search rules; top = search rules; counted = refl }

pub byte_cells : Cells byte
byte_cells = record { bottom = search rules; nought = search rules; past = search rules; top = search rules; counted = refl }
