-- Acts with the last operand, or the last two.
use Rattle.std.proofs.Common.{◌≡◌, ℕ, ◌<◌, ◌≤◌, Bool, true, false, cond, ltb, List, [], ◌∷◌, length, drop, set, ℤ, Some, None, Ok, Err, Option, Result, sym, refl, ap, ◌∙◌, arith, get_or, pos}
use Rattle.std.proofs.lemmas.Bool.Decides.{nat_tests}
use Rattle.machine.specs.View.{Act}
use Rattle.machine.specs.Acts.{with_ops, with_vars, size, first, last_two, taking_off, taken_off, with_one, with_two, resulting, jumping, pushed, loaded, storing, stored, dropped, changed, joined, branched, tested}
use Rattle.machine.specs.Values.{apply_unary, apply_binary, compared, is_true}
use Rattle.table.specs.declared.shape.Kind.{Kind}
use Rattle.table.specs.declared.shape.Unary.{Unary}
use Rattle.table.specs.declared.shape.Binary.{Binary}
use Rattle.table.specs.declared.shape.Comparison.{Comparison}
use Rattle.machine.specs.States.{variable_at}
use Rattle.machine.specs.declared.plan.Cause.{Cause}
use Rattle.machine.specs.declared.plan.Cause.TheVariants.{BadCode, ZeroDivisor}

-- What a pop from a to b says, if it gives x.
pub record Off (a b : Act) (x : ℤ) : Type 0 where
  pub ops : a.ops ≡ x ∷ b.ops
  pub rest : b ≡ with_ops a b.ops

pub off : (a b : Act) (x : ℤ) → (b, Ok x) ≡ taken_off a → Off a b x
off a b x h = by a.ops refl h
  where
    by : (ops : List ℤ) → a.ops ≡ ops → (b, Ok x) ≡ taking_off a ops → Off a b x
    by [] e h = let f = ap (λ (z : Act × Result ℤ Cause). z.1) h in absurd (cc)
    by (y ∷ s) e h =
        let f = ap (λ (z : Act × Result ℤ Cause). z.0) h in
        let g = ap (λ (z : Act × Result ℤ Cause). z.1) h in
        let k : b.ops ≡ s = ap (λ (z : Act). z.ops) f in
        record { ops = cc; rest = f ∙ ap (λ (t : List ℤ). with_ops a t) (sym k) }

-- a push that has room
push_goes : (v : ℤ) (a : Act) → size a < 64 → pushed v a ≡ (with_ops a (v ∷ a.ops), Ok None)
unfolding pushed
push_goes v a h = let t : ltb (size a) 64 ≡ true = grind (arith, nat_tests) in rw t refl

-- acts with the last operand
module _ (a b : Act) where
  module _ (f : ℤ → List ℤ → Act × Result (Option ℕ) Cause) where
    one_err : (e : Cause) → (b, Err e) ≡ taken_off a → (b, Err e) ≡ with_one a f a.ops
    one_err e h = by a.ops h
      where
        by : (ops : List ℤ) → (b, Err e) ≡ taking_off a ops → (b, Err e) ≡ with_one a f ops
        by [] h =
            let g = ap (λ (z : Act × Result ℤ Cause). z.0) h in
            let k = ap (λ (z : Act × Result ℤ Cause). z.1) h in
            let m : e ≡ BadCode = cc in rw (g, m) refl
        by (y ∷ s) h = let k = ap (λ (z : Act × Result ℤ Cause). z.1) h in absurd (cc)

    one_ok : (x : ℤ) → Off a b x → f x b.ops ≡ with_one a f a.ops
    one_ok x h = sym (ap (with_one a f) h.ops)

  pub drop_err : (e : Cause) → (b, Err e) ≡ taken_off a → (b, Err e) ≡ dropped a
  unfolding dropped
  drop_err e h = one_err (λ x s. (with_ops a s, Ok None)) e h

  pub drop_ok : (x : ℤ) → Off a b x → (b, Ok None) ≡ dropped a
  unfolding dropped
  drop_ok x h = ap (λ (z : Act). (z, Ok None)) h.rest ∙ one_ok (λ x s. (with_ops a s, Ok None)) x h

  pub test_err : (sense : Bool) (t : ℕ) (e : Cause) → (b, Err e) ≡ taken_off a → (b, Err e) ≡ tested sense t a
  unfolding tested
  test_err sense t e h = one_err (λ x s. (with_ops a s, Ok (jumping sense t (is_true x)))) e h

  pub test_ok : (sense : Bool) (t : ℕ) (x : ℤ) → Off a b x → (b, Ok (jumping sense t (is_true x))) ≡ tested sense t a
  unfolding tested
  test_ok sense t x h =
      ap (λ (z : Act). (z, Ok (jumping sense t (is_true x)))) h.rest ∙ one_ok (λ x s. (with_ops a s, Ok (jumping sense t (is_true x)))) x h

  pub change_err : (o : Unary) (e : Cause) → (b, Err e) ≡ taken_off a → (b, Err e) ≡ changed o a
  unfolding changed
  change_err o e h = one_err (λ x s. (with_ops a (apply_unary o x ∷ s), Ok None)) e h

  pub change_ok : (o : Unary) (x : ℤ) → Off a b x → size a ≤ 64 → pushed (apply_unary o x) b ≡ changed o a
  unfolding changed
  change_ok o x h l =
      let n = ap length h.ops in
      let m = ap (λ (z : Act). length z.vars) h.rest in
      push_goes (apply_unary o x) b (omega arith)
      ∙ (ap (λ (z : Act). (with_ops z (apply_unary o x ∷ b.ops), Ok None)) h.rest ∙ one_ok (λ x s. (with_ops a (apply_unary o x ∷ s), Ok None)) x h)

  pub store_err : (i : ℕ) (e : Cause) → (b, Err e) ≡ taken_off a → (b, Err e) ≡ stored i a
  unfolding stored
  store_err i e h = one_err (storing i a) e h

  pub store_ok : (i : ℕ) (x : ℤ) → Off a b x → true ≡ ltb i (length a.vars) → (with_vars b (set b.vars i x), Ok None) ≡ stored i a
  unfolding stored
  store_ok i x h e =
      let g : (with_vars b (set b.vars i x), Ok None) ≡ storing i a x b.ops = rw (← e) (rw h.rest refl) in
      g ∙ one_ok (storing i a) x h

-- a variable becomes an operand, and the other way round
module _ (i : ℕ) (a : Act) where
  pub load_none : None ≡ variable_at a.vars i → (a, Err BadCode) ≡ loaded i a
  unfolding loaded
  load_none e = by (ltb i (length a.vars)) e
    where
      by : (b : Bool) → None ≡ cond b (Some (get_or a.vars i (pos 0))) None → (a, Err BadCode) ≡ cond b (pushed (get_or a.vars i (pos 0)) a) (a, Err BadCode)
      by true e = absurd (cc)
      by false e = refl

  pub load_some : (v : ℤ) → Some v ≡ variable_at a.vars i → pushed v a ≡ loaded i a
  unfolding loaded
  load_some v e = by (ltb i (length a.vars)) e
    where
      by : (b : Bool) → Some v ≡ cond b (Some (get_or a.vars i (pos 0))) None → pushed v a ≡ cond b (pushed (get_or a.vars i (pos 0)) a) (a, Err BadCode)
      by true e = let f : v ≡ get_or a.vars i (pos 0) = cc in ap (λ (z : ℤ). pushed z a) f
      by false e = absurd (cc)

  pub store_slot : false ≡ ltb i (length a.vars) → (a, Err BadCode) ≡ stored i a
  unfolding stored
  store_slot e = by a.ops
    where
      by : (ops : List ℤ) → (a, Err BadCode) ≡ with_one a (storing i a) ops
      by [] = refl
      by (x ∷ s) = rw (← e) refl

-- the last one
pub first_there : (ops : List ℤ) (x : ℤ) → Some x ≡ first ops → ops ≡ x ∷ drop 1 ops
first_there [] x h = absurd (cc)
first_there (v ∷ ops) x h = cc

-- acts with the last two
two_there : (ops : List ℤ) (x y : ℤ) → Some (x, y) ≡ last_two ops → ops ≡ y ∷ x ∷ drop 2 ops
two_there [] x y h = absurd (cc)
two_there (z ∷ []) x y h = absurd (cc)
two_there (z ∷ w ∷ s) x y h = let e : ◌≡◌ {A = ℤ × ℤ} (x, y) (w, z) = cc in let f = ap (λ (p : ℤ × ℤ). p.0) e in let g = ap (λ (p : ℤ × ℤ). p.1) e in cc

pub two_counted : (ops : List ℤ) (x y : ℤ) → Some (x, y) ≡ last_two ops → 2 ≤ length ops
two_counted ops x y h = let e = ap length (two_there ops x y h) in omega arith

two_missing : (a : Act) (f : ℤ → ℤ → List ℤ → Act × Result (Option ℕ) Cause) (ops : List ℤ) → None ≡ last_two ops → (a, Err BadCode) ≡ with_two a f ops
two_missing a f [] h = refl
two_missing a f (y ∷ []) h = refl
two_missing a f (y ∷ x ∷ s) h = absurd (cc)

module _ (a : Act) where
  pub join_few : (o : Binary) (k : Kind) → None ≡ last_two a.ops → (a, Err BadCode) ≡ joined o k a
  unfolding joined
  join_few o k h = two_missing a (λ x y s. resulting a s (apply_binary o k x y)) a.ops h

  pub branch_few : (o : Comparison) (k : Kind) (sense : Bool) (t : ℕ) → None ≡ last_two a.ops → (a, Err BadCode) ≡ branched o k sense t a
  unfolding branched
  branch_few o k sense t h = two_missing a (λ x y s. (with_ops a s, Ok (jumping sense t (compared o k x y)))) a.ops h

  module _ (x y : ℤ) (h : Some (x, y) ≡ last_two a.ops) where
    two_ok : (f : ℤ → ℤ → List ℤ → Act × Result (Option ℕ) Cause) → f x y (drop 2 a.ops) ≡ with_two a f a.ops
    two_ok f = sym (ap (with_two a f) (two_there a.ops x y h))

    pub join_zero : (o : Binary) (k : Kind) → None ≡ apply_binary o k x y → (a, Err ZeroDivisor) ≡ joined o k a
    unfolding joined
    join_zero o k e = ap (resulting a (drop 2 a.ops)) e ∙ two_ok (λ x y s. resulting a s (apply_binary o k x y))

    module _ (b : Act) (r : b ≡ with_ops a (drop 2 a.ops)) where
      pub join_ok : (o : Binary) (k : Kind) (v : ℤ) → Some v ≡ apply_binary o k x y → size a ≤ 64 → pushed v b ≡ joined o k a
      unfolding joined
      join_ok o k v e l =
          let n = ap length (two_there a.ops x y h) in
          let m = ap (λ (z : Act). length z.vars) r in
          let q = ap (λ (z : Act). z.ops) r in
          let u = ap (λ (z : Act). length z.ops) r in
          push_goes v b (omega arith)
          ∙ (ap (λ (z : Act). (with_ops z (v ∷ z.ops), Ok None)) r
          ∙ (ap (resulting a (drop 2 a.ops)) e ∙ two_ok (λ x y s. resulting a s (apply_binary o k x y))))

      pub branch_ok : (o : Comparison) (k : Kind) (sense : Bool) (t : ℕ) → (b, Ok (jumping sense t (compared o k x y))) ≡ branched o k sense t a
      unfolding branched
      branch_ok o k sense t =
          ap (λ (z : Act). (z, Ok (jumping sense t (compared o k x y)))) r
          ∙ two_ok (λ x y s. (with_ops a s, Ok (jumping sense t (compared o k x y))))
