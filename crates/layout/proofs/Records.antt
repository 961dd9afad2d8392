-- A function record: its five fields and the function that they give.
use Rattle.std.proofs.Common.{◌≡◌, ℕ, zero, suc, ◌+◌, ◌-◌, ◌*◌, ◌/◌, ◌%◌, ◌^◌, ◌<◌, ◌≤◌, Bool, true, false, cond, List, Some, None, Option, sym, refl, ap, ◌∙◌, subst, inl, inr, arith}
use Rattle.std.proofs.lemmas.Nat.{div-mul-add, mod-mul-add, shr-shr}
use Rattle.std.proofs.lemmas.Bool.{cases_eq}
use Rattle.std.proofs.lemmas.Bool.Decides.{nat_tests}
use Rattle.table.specs.Fields.{byte_at, record_place, result_field, parameter_field, variable_field, spare_field, kinds_field, record_fits, result_of, with_result, function_from, function_at, record_holds, first_broken}
use Rattle.table.specs.declared.record.Function.{Function}
use Rattle.table.specs.declared.shape.Kind.{Kind}
use Rattle.table.specs.declared.shape.Kind.TheVariants.{Int, Byte}
use Rattle.table.specs.Numbers.{result_number}
use Rattle.language.specs.Layout.{record_bytes}
use Rattle.layout.specs.Stored.{Bytes}
use Rattle.layout.proofs.Pieces.{At, at_each}

-- a function within the limits, with no kind past its last variable
pub record Fits (g : Function) : Type 0 where
  pub few : g.parameters ≤ 8
  pub short : g.variables ≤ 32
  pub among : g.parameters ≤ g.variables
  pub unused : g.kinds % 2 ^ (32 - g.variables) ≡ 0

-- five fields that are a function's
pub record Gives (r p n s k : ℕ) (g : Function) : Type 0 where
  pub result : r ≡ result_number g.result
  pub parameters : p ≡ g.parameters
  pub variables : n ≡ g.variables
  pub spare : s ≡ 0
  pub kinds : k ≡ g.kinds
  pub fits : Fits g

function_back : (r p n s k : ℕ) (g : Function) → function_from r p n s k ≡ Some g → Gives r p n s k g
function_back r p n s k g h =
    let t = let_through (record_fits p n s k) (with_result (result_of r) p n k) h in
    with_back (result_of r) refl t.1 (fits_back t.0)
  where
    let_through : (b : Bool) (x : Option Function) → cond b x None ≡ Some g → (b ≡ true) × (x ≡ Some g)
    let_through true x q = (refl, q)
    let_through false x q = absurd (grind arith)

    result_back : (o : Option Kind) → result_of r ≡ Some o → r ≡ result_number o
    result_back o q = grind (arith, nat_tests)

    fits_back : record_fits p n s k ≡ true → (p ≤ 8) × (n ≤ 32) × (p ≤ n) × (s ≡ 0) × (k % 2 ^ (32 - n) ≡ 0)
    fits_back q = grind (arith, nat_tests)

    with_back : (o : Option (Option Kind)) → result_of r ≡ o → with_result o p n k ≡ Some g →
        (p ≤ 8) × (n ≤ 32) × (p ≤ n) × (s ≡ 0) × (k % 2 ^ (32 - n) ≡ 0) → Gives r p n s k g
    with_back None e q f = absurd (grind arith)
    with_back (Some o) e q f =
        let is : g ≡ record { result = o; parameters = p; variables = n; kinds = k } = cc in
        rw is (record {
          result = result_back o e;
          parameters = refl;
          variables = refl;
          spare = f.3;
          kinds = refl;
          fits = record { few = f.0; short = f.1; among = f.2; unused = f.4 };
        })

function-there : (r p n s k : ℕ) (g : Function) → Gives r p n s k g → function_from r p n s k ≡ Some g
function-there r p n s k g h =
    rw (h.result, h.parameters, h.variables, h.spare, h.kinds, fits-there h.fits, result-there g.result)
  where
    fits-there : Fits g → record_fits g.parameters g.variables 0 g.kinds ≡ true
    fits-there f = grind (arith, nat_tests)

    result-there : (o : Option Kind) → result_of (result_number o) ≡ Some o
    result-there None = refl
    result-there (Some Int) = refl
    result-there (Some Byte) = refl

-- the fields at place q are a function's
abbrev pub Fields : List ℕ → ℕ → Function → Type 0
Fields bs q g = Gives (result_field bs q) (parameter_field bs q) (variable_field bs q) (spare_field bs q) (kinds_field bs q) g

pub fields_of : (bs : List ℕ) (f : ℕ) (g : Function) → function_at bs f ≡ Some g → Fields bs (record_place f) g
unfolding function_at
fields_of bs f g h = function_back _ _ _ _ _ g h

pub function_of : (bs : List ℕ) (f : ℕ) (g : Function) → Fields bs (record_place f) g → function_at bs f ≡ Some g
unfolding function_at
function_of bs f g h = function-there _ _ _ _ _ g h

-- they are exactly if its bytes stand there
abbrev pub bytes_of : Function → List ℕ
bytes_of g = record_bytes (result_number g.result) g.parameters g.variables g.kinds

pub fields_read : (bs : List ℕ) (q : ℕ) (g : Function) → Fits g → At bs q 6 (bytes_of g) → Fields bs q g
fields_read bs q g f h =
    let z : byte_at bs (q + 0) ≡ byte_at bs q = ap (byte_at bs) (omega arith) in
    let b1 = h 1 (omega arith) in
    let t = top (result_number g.result) g.parameters g.variables (byte_at bs q) f.few f.short (sym z ∙ h 0 (omega arith)) in
    record {
      result = t.0;
      parameters = t.1;
      variables = omega (arith, t.2);
      spare = omega arith;
      kinds = rw (h 2 (omega arith), h 3 (omega arith), h 4 (omega arith), h 5 (omega arith)) (four g.kinds);
      fits = f;
    }
  where
    top : (r p n b : ℕ) → p ≤ 8 → n ≤ 32 → b ≡ r * 64 + p * 4 + n / 16 → (b / 64 ≡ r) × (b / 4 % 16 ≡ p) × (b % 4 ≡ n / 16)
    top r p n b l m e = omega arith

    four : (k : ℕ) → k / 2 ^ 24 * 2 ^ 24 + k / 2 ^ 16 % 256 * 2 ^ 16 + k / 2 ^ 8 % 256 * 2 ^ 8 + k % 256 ≡ k
    four k = omega arith

pub fields_written : (bs : List ℕ) (q : ℕ) (g : Function) → Bytes bs → Fields bs q g → At bs q 6 (bytes_of g)
fields_written bs q g b h =
    let z : byte_at bs (q + 0) ≡ byte_at bs q = ap (byte_at bs) (omega arith) in
    let t = two (byte_at bs q) (byte_at bs (q + 1)) (b (q + 1)) h.spare in
    let f = four (byte_at bs (q + 2)) (byte_at bs (q + 3)) (byte_at bs (q + 4)) (byte_at bs (q + 5)) (b (q + 3)) (b (q + 4)) (b (q + 5)) in
    let e : record_bytes (result_field bs q) (parameter_field bs q) (variable_field bs q) (kinds_field bs q) ≡ bytes_of g =
    cc (h.result, h.parameters, h.variables, h.kinds) in
    subst (At bs q 6) e
    (at_each bs q 6 (record_bytes (result_field bs q) (parameter_field bs q) (variable_field bs q) (kinds_field bs q))
    (z ∙ t.0, (t.1, (f.0, (f.1, (f.2, (f.3, tt)))))))
  where
    two : (a b : ℕ) → b < 256 → b % 16 ≡ 0 →
        (a ≡ a / 64 * 64 + a / 4 % 16 * 4 + (a % 4 * 16 + b / 16) / 16) × (b ≡ (a % 4 * 16 + b / 16) % 16 * 16)
    two a b l e =
        let s : b / 16 < 16 = omega arith in
        let d = div-mul-add (a % 4) 16 (b / 16) s in
        let m = mod-mul-add (a % 4) 16 (b / 16) s in
        omega (arith, shr-shr a 2 4)

    four : (a b c d : ℕ) → b < 256 → c < 256 → d < 256 →
        (a ≡ (a * 2 ^ 24 + b * 2 ^ 16 + c * 2 ^ 8 + d) / 2 ^ 24) × (b ≡ (a * 2 ^ 24 + b * 2 ^ 16 + c * 2 ^ 8 + d) / 2 ^ 16 % 256)
        × (c ≡ (a * 2 ^ 24 + b * 2 ^ 16 + c * 2 ^ 8 + d) / 2 ^ 8 % 256) × (d ≡ (a * 2 ^ 24 + b * 2 ^ 16 + c * 2 ^ 8 + d) % 256)
    four a b c d l m o = omega arith

-- none is broken exactly if each holds
pub each_holds : (bs : List ℕ) (n k f : ℕ) → first_broken bs n k ≡ None → k ≤ f → f < k + n → record_holds f (function_at bs f) ≡ true
each_holds bs zero k f h l m = absurd (omega arith)
each_holds bs (suc n) k f h l m =
    let s = sound (record_holds k (function_at bs k)) (first_broken bs n (k + 1)) h in
    elim (cases_eq k f) [ inl e ↦ rw e at s.0 | inr d ↦ each_holds bs n (k + 1) f s.1 (omega arith) (omega arith) ]
  where
    sound : (b : Bool) (x : Option ℕ) → cond b x (Some k) ≡ None → (b ≡ true) × (x ≡ None)
    sound true x q = (refl, q)
    sound false x q = absurd (grind arith)

pub none_broken : (bs : List ℕ) (n k : ℕ) → ((f : ℕ) → k ≤ f → f < k + n → record_holds f (function_at bs f) ≡ true) → first_broken bs n k ≡ None
none_broken bs zero k h = refl
none_broken bs (suc n) k h =
    rw (h k (omega arith) (omega arith)) (none_broken bs n (k + 1) (λ f l m. h f (omega arith) (omega arith)))
