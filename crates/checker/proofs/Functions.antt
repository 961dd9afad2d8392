-- Bodies that stand one behind the other: the walk passes exactly these, and there is only one way to read them.
use Rattle.std.proofs.Common.{◌≡◌, ℕ, zero, suc, ◌+◌, ◌≤◌, Bool, true, false, cond, eqb, leb, List, [], ◌∷◌, ◌++◌, length, Some, None, Ok, Err, Option, sym, refl, ap, ◌∙◌, subst, arith, length-append}
use Rattle.std.proofs.lemmas.Bool.Decides.{nat_tests}
use Rattle.std.proofs.lemmas.Bool.{le-leb}
use Rattle.std.specs.Option.{ok_or}
use Rattle.table.specs.Flow.{onward}
use Rattle.table.specs.View.{View, function_of}
use Rattle.table.specs.declared.record.Function.{Function as Record}
use Rattle.table.specs.declared.record.TableFault.TheVariants.{Record as Broken}
use Rattle.language.specs.Tree.{Function, Block}
use Rattle.language.specs.Listing.{list_b, list_p}
use Rattle.language.specs.Measures.{levels_b, height_b, words_b, words_bodies}
use Rattle.language.specs.Rules.{Env, FineB}
use Rattle.language.specs.Reader.{read_b}
use Rattle.walk.specs.Walk.{Answer}
use Rattle.walk.specs.Bodies.{signature_of, env_of, context_at, body_from, closed, function_from, bodies_from}
use Rattle.walk.specs.declared.fault.CheckFault.TheVariants.{Table, Height}
use Rattle.walk.specs.declared.found.Size.{Size}
use Rattle.walk.specs.declared.found.Context.{Context}
use Rattle.checker.specs.Spells.{Spells}
use Rattle.checker.proofs.Spelling.{onward_ok, ok_or_ok, spells-++}
use Rattle.checker.proofs.Acts.{Small, size_b, StandsB, block-sound}
use Rattle.checker.proofs.Whole.{block-complete}
use Rattle.checker.proofs.Readback.{block_back}

abbrev pub context_of : View → ℕ → Record → Context
context_of v f own = record { own = own; main = cond (eqb f 0) None (function_of v 0) }

abbrev pub env_at : View → ℕ → Record → Env
env_at v f own = env_of v (context_of v f own)

-- function g, as number f, with its body at node i
pub record Standing (v : View) (f i : ℕ) (g : Function) : Type 0 where
  pub own : Record
  pub there : function_of v f ≡ Some own
  pub signature : signature_of own ≡ g.signature
  pub fine : FineB (env_at v f own) [] g.body
  pub nesting : levels_b g.body ≤ 128
  pub cells : own.variables + height_b g.body ≤ 64
  pub spells : Spells v i (list_b g.body)

abbrev pub Bodied : View → ℕ → ℕ → List Function → Type 0
Bodied v f i [] = Unit {0}
Bodied v f i (g ∷ gs) = Standing v f i g × Bodied v (f + 1) (i + length (list_b g.body)) gs

pub bodied-spells : (v : View) (f i : ℕ) (gs : List Function) → Bodied v f i gs → Spells v i (list_p gs)
bodied-spells v f i [] b = tt
bodied-spells v f i (g ∷ gs) b =
    spells-++ v i (list_b g.body) (list_p gs) b.0.spells (bodied-spells v (f + 1) (i + length (list_b g.body)) gs b.1)

context_ok : (v : View) (f : ℕ) (c : Context) → context_at v f ≡ Ok c → (own : Record) × (function_of v f ≡ Some own) × (c ≡ context_of v f own)
context_ok v f c h =
    let o = onward_ok (ok_or (function_of v f) (Table (Broken f))) (λ own. Ok (context_of v f own)) c h in
    let g = o.2 in
    (o.0, ok_or_ok (function_of v f) (Table (Broken f)) o.0 o.1, grind (arith, g))

closed_ok : (c : Context) (i words : ℕ) (p : Size × ℕ) (w j : ℕ) → closed c i words p ≡ Ok (w, j) →
    (c.own.variables + p.0.height ≤ 64) × (w ≡ words + p.0.words + 1) × (j ≡ p.1)
closed_ok c i words p w j h = shown (leb (c.own.variables + p.0.height) 64) refl h
  where
    shown : (b : Bool) → leb (c.own.variables + p.0.height) 64 ≡ b → ◌≡◌ {A = Answer (ℕ × ℕ)} (cond b (Ok (words + p.0.words + 1, p.1)) (Err (Height i))) (Ok (w, j)) →
        (c.own.variables + p.0.height ≤ 64) × (w ≡ words + p.0.words + 1) × (j ≡ p.1)
    shown true e h = (grind (arith, nat_tests), grind arith, grind arith)
    shown false e h = absurd (grind arith)

-- what the walk of n bodies passed
pub record Bodies (v : View) (n f i words w j : ℕ) : Type 0 where
  pub functions : List Function
  pub many : length functions ≡ n
  pub bodied : Bodied v f i functions
  pub ends : j ≡ i + length (list_p functions)
  pub total : w ≡ words + words_bodies functions

module _ (v : View) (small : Small v) where
  body-sound : (e : Env) (i : ℕ) (s : Size) (j : ℕ) → body_from v e i ≡ Ok (s, j) → StandsB v e 128 [] i s j
  unfolding body_from
  body-sound e i s j h = block-sound 128 v small e [] i s j h

  pub bodies_sound : (n f words i w j : ℕ) → bodies_from v n f words i ≡ Ok (w, j) → Bodies v n f i words w j
  bodies_sound zero f words i w j h =
      record { functions = []; many = refl; bodied = tt; ends = grind arith; total = grind arith }
  bodies_sound (suc n) f words i w j h =
      let o = onward_ok (function_from v f words i) (λ p. bodies_from v n (f + 1) p.0 p.1) (w, j) h in
      let c = onward_ok (context_at v f) (λ c. onward (body_from v (env_of v c) i) (closed c i words)) o.0 o.1 in
      let b = onward_ok (body_from v (env_of v c.0) i) (closed c.0 i words) o.0 c.2 in
      let x = context_ok v f c.0 c.1 in
      let s = body-sound (env_of v c.0) i b.0.0 b.0.1 b.1 in
      let k = closed_ok c.0 i words b.0 o.0.0 o.0.1 b.2 in
      let r = bodies_sound n (f + 1) o.0.0 o.0.1 w j o.2 in
      let hs : b.0.0.height ≡ height_b s.tree = ap (λ y. y.height) s.is in
      let ws : b.0.0.words ≡ words_b s.tree = ap (λ y. y.words) s.is in
      let own : c.0.own ≡ x.0 = ap (λ y. y.own) x.2 in
      let vs : c.0.own.variables ≡ x.0.variables = ap (λ y. y.variables) own in
      let here : o.0.1 ≡ i + length (list_b s.tree) = k.2 ∙ s.ends in
      record {
        functions = record { signature = signature_of x.0; body = s.tree } ∷ r.functions;
        many = ap suc r.many;
        bodied = (
          record {
            own = x.0;
            there = x.1;
            signature = refl;
            fine = subst (λ (y : Context). FineB (env_of v y) [] s.tree) x.2 s.fine;
            nesting = s.deep;
            cells = omega (arith, k.0, hs, vs);
            spells = s.spells;
          },
          subst (λ (y : ℕ). Bodied v (f + 1) y r.functions) here r.bodied,
        );
        ends = simp length-append (omega (arith, r.ends, here));
        total = omega (arith, r.total, k.1, ws);
      }

module _ (v : View) where
  body-complete : (e : Env) (t : Block) (i : ℕ) → FineB e [] t → levels_b t ≤ 128 → Spells v i (list_b t) → body_from v e i ≡ Ok (size_b t, i + length (list_b t))
  unfolding body_from
  body-complete e t i f d h = block-complete v e t 128 [] i f d h

  function-complete : (f words i : ℕ) (g : Function) → Standing v f i g → function_from v f words i ≡ Ok (words + words_b g.body + 1, i + length (list_b g.body))
  function-complete f words i g s =
      ap (λ r. onward (onward (ok_or r (Table (Broken f))) (λ own. Ok (context_of v f own))) (λ c. onward (body_from v (env_of v c) i) (closed c i words))) s.there
      ∙ ap (λ r. onward r (closed (context_of v f s.own) i words)) (body-complete (env_at v f s.own) g.body i s.fine s.nesting s.spells)
      ∙ ap (λ b. cond b (Ok (words + words_b g.body + 1, i + length (list_b g.body))) (Err (Height i))) (le-leb (s.own.variables + height_b g.body) 64 s.cells)

  pub bodies_complete : (gs : List Function) (f words i : ℕ) → Bodied v f i gs → bodies_from v (length gs) f words i ≡ Ok (words + words_bodies gs, i + length (list_p gs))
  bodies_complete [] f words i b =
      let x : words ≡ words + 0 = omega arith in
      let y : i ≡ i + 0 = omega arith in
      ap (λ m. Ok (m, i)) x ∙ ap (λ m. Ok (words + 0, m)) y
  bodies_complete (g ∷ gs) f words i b =
      let r = bodies_complete gs (f + 1) (words + words_b g.body + 1) (i + length (list_b g.body)) b.1 in
      let x : words + words_b g.body + 1 + words_bodies gs ≡ words + words_bodies (g ∷ gs) = omega arith in
      let y : i + length (list_b g.body) + length (list_p gs) ≡ i + length (list_b g.body ++ list_p gs) = simp length-append (omega arith) in
      ap (λ q. onward q (λ p. bodies_from v (length gs) (f + 1) p.0 p.1)) (function-complete f words i g b.0) ∙ r
      ∙ ap (λ m. Ok (m, i + length (list_b g.body) + length (list_p gs))) x ∙ ap (λ m. Ok (words + words_bodies (g ∷ gs), m)) y

  some_same : {A : Type 0} (o : Option A) (x y : A) → o ≡ Some x → o ≡ Some y → x ≡ y
  some_same o x y p q = cc

  pub bodies_same : (ps qs : List Function) (f i : ℕ) → length ps ≡ length qs → Bodied v f i ps → Bodied v f i qs → ps ≡ qs
  bodies_same [] [] f i l a b = refl
  bodies_same [] (q ∷ qs) f i l a b = absurd (omega arith)
  bodies_same (p ∷ ps) [] f i l a b = absurd (omega arith)
  bodies_same (p ∷ ps) (q ∷ qs) f i l a b =
      let o : a.0.own ≡ b.0.own = some_same (function_of v f) a.0.own b.0.own a.0.there b.0.there in
      let x = block_back v (env_at v f a.0.own) p.body 128 [] i a.0.fine a.0.nesting a.0.spells in
      let y = block_back v (env_at v f b.0.own) q.body 128 [] i b.0.fine b.0.nesting b.0.spells in
      let z : p.body ≡ q.body = ap (λ r. r.0) (sym x ∙ ap (λ n. read_b v (env_at v f n) 128 i) o ∙ y) in
      let s : p.signature ≡ q.signature = sym a.0.signature ∙ ap signature_of o ∙ b.0.signature in
      let r = bodies_same ps qs (f + 1) (i + length (list_b p.body)) (omega arith) a.1 (rw z b.1) in
      ap (λ n. n ∷ ps) (both p q s z) ∙ ap (λ n. q ∷ n) r
    where
      both : (p q : Function) → p.signature ≡ q.signature → p.body ≡ q.body → p ≡ q
      both p q s z = ap (λ n. record { signature = n; body = p.body }) s ∙ ap (λ n. record { signature = q.signature; body = n }) z
