-- From the functions of a table to a program that keeps the rules, and back.
use Rattle.std.proofs.Common.{◌≡◌, ℕ, zero, suc, ◌+◌, ◌<◌, ◌≤◌, cond, ◌⊎◌, List, [], ◌∷◌, length, Some, None, Option, sym, refl, ap, ◌∙◌, subst, inl, inr, arith, length-append}
use mathlib.Core.Path.{fun_ext}
use Rattle.std.proofs.lemmas.Bool.{cases_lt, ne_eqb, le-ltb, lt-ltb}
use Rattle.std.proofs.ByRecursion.{All-append}
use Rattle.std.proofs.lemmas.List.FromFn.{length-map-range_with_len}
use Rattle.std.proofs.lemmas.Option.{slice_get_past}
use Rattle.std.specs.List.{AllByRecursion, slice_get}
use Rattle.table.specs.Flow.{mapped}
use Rattle.table.specs.Fields.{function_at, kind_bit}
use Rattle.table.specs.Shapes.{shape_of}
use Rattle.table.specs.View.{View, node_at, function_of}
use Rattle.table.specs.declared.record.Function.{Function as Record}
use Rattle.table.proofs.Round.{decoded, encoded}
use Rattle.language.specs.Tree.{Function, Block, Signature, Program, block}
use Rattle.language.specs.Listing.{Placed, list_b, list_p}
use Rattle.language.specs.Rules.{Env, FineB, FineSignature, FineFunction, FineOthers, FineFunctions, Numbered, Keeps, signatures, main_env, other_env}
use Rattle.walk.specs.Bodies.{signature_of, signature_in}
use Rattle.layout.specs.Stored.{Stored, Limits, Recorded}
use Rattle.checker.specs.Spells.{Spells}
use Rattle.checker.proofs.Spelling.{spells-left}
use Rattle.checker.proofs.Fits.{Fits, fits_b}
use Rattle.checker.proofs.Functions.{env_at, Standing, Bodied}

-- Nodes that stand are stored and numbered, and the other way round where their fields are in range.
pub stored-from : (v : View) (i : ℕ) (xs : List Placed) → Spells v i xs → Stored v i xs
stored-from v i [] h = tt
stored-from v i (x ∷ xs) h = (h.1, (decoded (node_at v i) x.1 h.2).0, stored-from v (i + 1) xs h.3)

pub numbered-from : (v : View) (i : ℕ) (xs : List Placed) → Spells v i xs → Numbered i xs
numbered-from v i [] h = tt
numbered-from v i (x ∷ xs) h = (h.0, numbered-from v (i + 1) xs h.3)

pub spells-from : (v : View) (i : ℕ) (xs : List Placed) → Stored v i xs → Numbered i xs → AllByRecursion Fits xs → Spells v i xs
spells-from v i [] s n f = tt
spells-from v i (x ∷ xs) s n f =
    (n.0, s.0, ap shape_of s.1 ∙ encoded x.1 f.0, spells-from v (i + 1) xs s.2 n.1 f.1)

pub spells_end : (v : View) (i : ℕ) (xs : List Placed) → i ≤ v.nodes → Spells v i xs → i + length xs ≤ v.nodes
spells_end v i [] l h = omega arith
spells_end v i (x ∷ xs) l h = let r = spells_end v (i + 1) xs (omega (arith, h.1)) h.3 in omega arith

some_first : (b : Block) → 0 < length (list_b b)
some_first (block p ss) = omega arith

-- a changed value that is there came from one
unmapped : {A B : Type 0} (f : A → B) (o : Option A) (y : B) → mapped f o ≡ Some y → (x : A) × (o ≡ Some x) × (f x ≡ y)
unmapped f None y h = absurd (grind arith)
unmapped f (Some x) y h = (x, refl, grind arith)

variables-many : (r : Record) (s : Signature) → signature_of r ≡ s → r.variables ≡ length s.variables
variables-many r s e = sym (length-map-range_with_len (kind_bit r.kinds) 0 r.variables) ∙ ap (λ x. length x.variables) e

module _ (v : View) (P : Program) (same : (f : ℕ) → signature_in v f ≡ slice_get (signatures P) f) where
  env_main : (own : Record) (s : Signature) → signature_of own ≡ s → env_at v 0 own ≡ main_env P s
  env_main own s e =
      ap (λ x. record { own = x; main = None; functions = signature_in v }) e
      ∙ ap (λ x. record { own = s; main = None; functions = x }) (fun_ext same)

  env_other : (f : ℕ) (own : Record) (s m : Signature) → 0 < f → signature_of own ≡ s → slice_get (signatures P) 0 ≡ Some m → env_at v f own ≡ other_env P m s
  env_other f own s m l e z =
      ap (λ b. record { own = signature_of own; main = mapped signature_of (cond b None (function_of v 0)); functions = signature_in v }) (ne_eqb f 0 (omega arith))
      ∙ ap (λ x. record { own = signature_of own; main = x; functions = signature_in v }) (same 0 ∙ z)
      ∙ ap (λ x. record { own = x; main = Some m; functions = signature_in v }) e
      ∙ ap (λ x. record { own = s; main = Some m; functions = x }) (fun_ext same)

  -- a function of the program with its record
  standing : (f i : ℕ) (g : Function) (e : Env) → ((own : Record) → signature_of own ≡ g.signature → env_at v f own ≡ e) → slice_get (signatures P) f ≡ Some g.signature →
      FineFunction e g → Spells v i (list_b g.body) → Standing v f i g
  standing f i g e env at fine h =
      let r = unmapped signature_of (function_of v f) g.signature (same f ∙ at) in
      let c = fine.cells in
      let n = variables-many r.0 g.signature r.2 in
      record {
        own = r.0;
        there = r.1;
        signature = r.2;
        fine = subst (λ (x : Env). FineB x [] g.body) (sym (env r.0 r.2)) fine.body_fine;
        nesting = fine.nesting;
        cells = omega arith;
        spells = h;
      }

  others-bodied : (m : Signature) → slice_get (signatures P) 0 ≡ Some m → (gs : List Function) (f i : ℕ) → 0 < f →
      ((x : ℕ) → slice_get (signatures P) (f + x) ≡ slice_get (signatures gs) x) → FineOthers P m gs → Spells v i (list_p gs) → Bodied v f i gs
  others-bodied m z [] f i l at fine h = tt
  others-bodied m z (g ∷ gs) f i l at fine h =
      let s = spells-left v i (list_b g.body) (list_p gs) h in
      let here : f + 0 ≡ f = omega arith in (
        standing f i g (other_env P m g.signature) (λ own e. env_other f own g.signature m l e z) (ap (slice_get (signatures P)) (sym here) ∙ at 0) fine.0 s.0,
        others-bodied m z gs (f + 1) (i + length (list_b g.body)) (omega arith)
            (λ x. let q : f + 1 + x ≡ f + suc x = omega arith in ap (slice_get (signatures P)) q ∙ at (suc x)) fine.1 s.1,
      )

-- a program that keeps the rules stands in a view that shows its functions and nodes
pub program-bodied : (v : View) (P : Program) → ((f : ℕ) → signature_in v f ≡ slice_get (signatures P) f) → FineFunctions P → Spells v 0 (list_p P) → Bodied v 0 0 P
program-bodied v [] same fine h = absurd fine
program-bodied v (g ∷ gs) same fine h =
    let s = spells-left v 0 (list_b g.body) (list_p gs) h in (
      standing v (g ∷ gs) same 0 0 g (main_env (g ∷ gs) g.signature) (λ own e. env_main v (g ∷ gs) same own g.signature e) refl fine.2 s.0,
      others-bodied v (g ∷ gs) same g.signature refl gs 1 (0 + length (list_b g.body)) (omega arith)
          (λ x. let q : 1 + x ≡ suc x = omega arith in ap (slice_get (signatures (g ∷ gs))) q) fine.3 s.1,
    )

others_fit : (P : Program) (m : Signature) (gs : List Function) → FineOthers P m gs → AllByRecursion Fits (list_p gs)
others_fit P m [] f = tt
others_fit P m (g ∷ gs) f = All-append Fits (list_b g.body) (list_p gs) (fits_b (other_env P m g.signature) [] g.body f.0.body_fine) (others_fit P m gs f.1)

pub program_fits : (P : Program) → FineFunctions P → AllByRecursion Fits (list_p P)
program_fits [] f = absurd f
program_fits (g ∷ gs) f =
    All-append Fits (list_b g.body) (list_p gs) (fits_b (main_env (g ∷ gs) g.signature) [] g.body f.2.body_fine) (others_fit (g ∷ gs) g.signature gs f.3)

others-signed : (P : Program) (m : Signature) (gs : List Function) → FineOthers P m gs → AllByRecursion FineSignature (signatures gs)
others-signed P m [] f = tt
others-signed P m (g ∷ gs) f = (f.0.record_fine, others-signed P m gs f.1)

pub program_limits : (P : Program) → Keeps P → Limits P
program_limits [] k = absurd k.functions
program_limits (g ∷ gs) k =
    record {
      few = k.few;
      some = simp length-append (omega (arith, some_first g.body));
      short = k.short;
      fine = (k.functions.2.record_fine, others-signed (g ∷ gs) g.signature gs k.functions.3);
      plain = (k.functions.0, k.functions.1);
    }

-- The other way: functions that stand in a view whose records keep the limits make a program that keeps the rules.
signature_at : (v : View) (gs : List Function) (f i : ℕ) → Bodied v f i gs → (x : ℕ) → x < length gs → signature_in v (f + x) ≡ slice_get (signatures gs) x
signature_at v [] f i b x l = absurd (omega arith)
signature_at v (g ∷ gs) f i b zero l =
    let q : f + 0 ≡ f = omega arith in ap (signature_in v) q ∙ ap (mapped signature_of) b.0.there ∙ ap Some b.0.signature
signature_at v (g ∷ gs) f i b (suc x) l =
    let q : f + suc x ≡ f + 1 + x = omega arith in ap (signature_in v) q ∙ signature_at v gs (f + 1) (i + length (list_b g.body)) b.1 x (omega arith)

none-past : (v : View) (f : ℕ) → v.functions ≤ f → signature_in v f ≡ None
none-past v f l = ap (λ b. mapped signature_of (cond b (function_at v.bytes f) None)) (le-ltb f v.functions l)

length-signatures : (gs : List Function) → length (signatures gs) ≡ length gs
length-signatures [] = refl
length-signatures (g ∷ gs) = ap suc (length-signatures gs)

pub signatures_same : (v : View) (P : Program) → length P ≡ v.functions → Bodied v 0 0 P → (f : ℕ) → signature_in v f ≡ slice_get (signatures P) f
signatures_same v P n b f = at (cases_lt f (length P))
  where
    at : (f < length P) ⊎ (length P ≤ f) → signature_in v f ≡ slice_get (signatures P) f
    at (inl l) = let q : 0 + f ≡ f = omega arith in ap (signature_in v) (sym q) ∙ signature_at v P 0 0 b f l
    at (inr l) = none-past v f (omega arith) ∙ sym (slice_get_past (signatures P) f (omega (arith, length-signatures P)))

module _ (v : View) (recorded : (f : ℕ) → f < v.functions → Recorded v.bytes f) where
  own_record : (f : ℕ) (l : f < v.functions) (own : Record) → function_of v f ≡ Some own → (recorded f l).function ≡ own
  own_record f l own h =
      let a = (recorded f l).there in
      let b : function_of v f ≡ function_at v.bytes f = ap (λ t. cond t (function_at v.bytes f) None) (lt-ltb f v.functions l) in
      let c : Some (recorded f l).function ≡ Some own = sym a ∙ sym b ∙ h in
      grind (arith, c)

  function-fine : (f i : ℕ) (g : Function) (e : Env) → f < v.functions → Standing v f i g → (((own : Record) → signature_of own ≡ g.signature → env_at v f own ≡ e)) → FineFunction e g
  function-fine f i g e l s env =
      let o = own_record f l s.own s.there in
      let c = s.cells in
      let n = variables-many s.own g.signature s.signature in
      record {
        record_fine = subst FineSignature (ap signature_of o ∙ s.signature) (recorded f l).fine;
        body_fine = subst (λ (x : Env). FineB x [] g.body) (env s.own s.signature) s.fine;
        nesting = s.nesting;
        cells = omega arith;
      }

  others-fine : (P : Program) (same : (f : ℕ) → signature_in v f ≡ slice_get (signatures P) f) (m : Signature) → slice_get (signatures P) 0 ≡ Some m →
      (gs : List Function) (f i : ℕ) → 0 < f → f + length gs ≤ v.functions → Bodied v f i gs → FineOthers P m gs
  others-fine P same m z [] f i p l b = tt
  others-fine P same m z (g ∷ gs) f i p l b = (
    function-fine f i g (other_env P m g.signature) (omega arith) b.0 (λ own e. env_other v P same f own g.signature m p e z),
    others-fine P same m z gs (f + 1) (i + length (list_b g.body)) (omega arith) (omega arith) b.1,
  )

  pub functions-fine : (P : Program) → 0 < length P → length P ≡ v.functions → Bodied v 0 0 P → FineFunctions P
  functions-fine [] l n b = absurd (omega arith)
  functions-fine (g ∷ gs) l n b =
      let same = signatures_same v (g ∷ gs) n b in
      let here : 0 < v.functions = omega arith in
      let o = own_record 0 here b.0.own b.0.there in
      let q : signature_of (recorded 0 here).function ≡ g.signature = ap signature_of o ∙ b.0.signature in
      let p = (recorded 0 here).plain refl in (
        ap (λ x. x.result) (sym q) ∙ p.0,
        ap (λ x. x.parameters) (sym q) ∙ p.1,
        function-fine 0 0 g (main_env (g ∷ gs) g.signature) here b.0 (λ own e. env_main v (g ∷ gs) same own g.signature e),
        others-fine (g ∷ gs) same g.signature refl gs 1 (0 + length (list_b g.body)) (omega arith) (omega arith) b.1,
      )
