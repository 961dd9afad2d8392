-- The words of a program that keeps the rules are found in every code that begins with its translation.
use Rattle.std.proofs.Common.{◌≡◌, ℕ, zero, suc, ◌+◌, ◌<◌, ◌≤◌, Bool, true, false, cond, eqb, List, [], ◌∷◌, ◌++◌, length, get_or, Some, None, sym, refl, ap, subst, arith, length-append}
use Rattle.std.specs.List.{slice_get}
use Rattle.std.proofs.lemmas.List.{get_or_append_left}
use Rattle.table.specs.declared.shape.Kind.{Kind}
use Rattle.table.specs.declared.shape.Scope.{Scope}
use Rattle.table.specs.declared.shape.Scope.TheVariants.{Own, Main}
use Rattle.code.specs.Word.{word_of}
use Rattle.code.specs.Entries.{entry_word}
use Rattle.code.specs.declared.instruction.Instruction.TheVariants.{Close}
use Rattle.code.proofs.EntryRound.{entry-read-again}
use Rattle.machine.specs.States.{entry_at}
use Rattle.machine.proofs.Entries.{entry_in}
use Rattle.language.specs.Tree.{Block, block, Signature, Function, Program}
use Rattle.language.specs.Listing.{Placed, list_b, list_p}
use Rattle.language.specs.Measures.{words_b, words_bodies}
use Rattle.language.specs.Rules.{Env, slot_kind, called, FineB, FineSignature, FineFunction, FineOthers, signatures, main_env, other_env, Numbered, Keeps}
use Rattle.language.specs.Meaning.{place_of, empty, function_at}
use Rattle.translate.specs.Code.{code_b, place_b, code_body, entry_for, code_entries, code_bodies, code_p}
use Rattle.simulation.specs.Runs.{Begins}
use Rattle.translate.proofs.Lengths.{long_b, long-entries}
use Rattle.translate.proofs.Bounds.{few_words}
use Rattle.simulation.proofs.Words.{At}
use Rattle.simulation.proofs.Places.{end_b, HasB}
use Rattle.simulation.proofs.Scenes.{nth_inside}
use Rattle.simulation.proofs.Sim.{Entries}
use Rattle.simulation.proofs.Placed.{Small, small-split, end_b_lem, Stands, split, word, has_b}
use Rattle.simulation.proofs.Functions.{found, Bodies}

-- The address of a function's first word, the first body standing at h.
abbrev pub address_from : Program → ℕ → ℕ → ℕ
address_from [] h i = h
address_from (f ∷ fs) h zero = h
address_from (f ∷ fs) h (suc i) = address_from fs (h + words_b f.body + 1) i

address-near : (P : Program) (h i : ℕ) → address_from P h i ≤ h + words_bodies P
address-near [] h i = omega arith
address-near (f ∷ fs) h zero = omega arith
address-near (f ∷ fs) h (suc i) = let l = address-near fs (h + words_b f.body + 1) i in omega arith

numbered-small : (i : ℕ) (xs : List Placed) → Numbered i xs → i + length xs ≤ 65536 → Small xs
numbered-small i [] h l = tt
numbered-small i (x ∷ xs) h l = (let e = h.0 in omega arith, numbered-small (i + 1) xs h.1 (omega arith))

module _ (code : List ℕ) where
  standing : (a : ℕ) (ws : List ℕ) → ((i k : ℕ) → i < length ws → k ≡ a + i → (k < length code) × (get_or code k 0 ≡ get_or ws i 0)) → Stands code a ws
  standing a [] h = tt
  standing a (w ∷ ws) h = ((h 0 a (omega arith) (omega arith)).0, (h 0 a (omega arith) (omega arith)).1, standing (a + 1) ws (λ i k l e. h (suc i) k (omega arith) (omega arith)))

  begins : (ws rest : List ℕ) → code ≡ ws ++ rest → Stands code 0 ws
  begins ws rest e = standing 0 ws (λ i k l q. let n : k ≡ i = omega arith in let z = length-append ws rest in let y = ap (λ (c : List ℕ). length c) e in (omega arith, rw (n, e) (get_or_append_left ws rest 0 i l)))

  entries_at : (P : Program) (h a : ℕ) → Stands code a (code_entries P h) → (i : ℕ) (g : Signature) (k : ℕ) → k ≡ a + i → slice_get (signatures P) i ≡ Some g → (k < length code) × (get_or code k 0 ≡ entry_word (entry_for g (address_from P h i)))
  entries_at [] h a S i g k q e = let z : ◌≡◌ {A = ℕ} 0 1 = cc in absurd (omega arith)
  entries_at (f ∷ fs) h a S zero g k q e =
      let n : k ≡ a = omega arith in
      let d : f.signature ≡ g = cc in
      rw n (S.0, subst (λ (x : Signature). get_or code a 0 ≡ entry_word (entry_for x h)) d S.1)
  entries_at (f ∷ fs) h a S (suc i) g k q e = entries_at fs (h + words_b f.body + 1) (a + 1) S.2 i g k (omega arith) e

  module _ (E : Env) (slots : (s : Scope) (x : ℕ) (k : Kind) → slot_kind E.own E.main s x ≡ Some k → x < 4294967296) (numbers : (f : ℕ) (g : Signature) → called E.functions f ≡ Some g → f < 4294967296) where
    one-body : (b : Block) (h : ℕ) → FineB E [] b → Small (list_b b) → h + words_b b < 4294967296 → Stands code h (code_body b h) → HasB code b [] h × At code (end_b b h) Close (place_of b)
    one-body (block p ss) h f m l S =
        let r = split code (code_b (block p ss) [] h) _ h (end_b (block p ss) h) (omega (arith, end_b_lem (block p ss) h, long_b (block p ss) [] h)) S in
        (has_b code E slots numbers (block p ss) [] [] h tt l f m r.0, word code Close p (end_b (block p ss) h) [] m.0 tt r.1)

  body-length : (b : Block) (h : ℕ) → length (code_body b h) ≡ words_b b + 1
  body-length b h = omega (arith, long_b b [] h, length-append (code_b b [] h) (word_of Close (place_b b) ∷ []))

  slots-other : (own main : Signature) → FineSignature own → FineSignature main → (s : Scope) (x : ℕ) (k : Kind) → slot_kind own (Some main) s x ≡ Some k → x < 4294967296
  slots-other own main f m Own x k e = let l = nth_inside own.variables x k e in let n = f.short in omega arith
  slots-other own main f m Main x k e = let l = nth_inside main.variables x k e in let n = m.short in omega arith

  slots-main : (own : Signature) → FineSignature own → (s : Scope) (x : ℕ) (k : Kind) → slot_kind own None s x ≡ Some k → x < 4294967296
  slots-main own f Own x k e = let l = nth_inside own.variables x k e in let n = f.short in omega arith
  slots-main own f Main x k e = let z : ◌≡◌ {A = ℕ} 0 1 = cc in absurd (omega arith)

  others-at : (P : Program) (m : Signature) → FineSignature m → ((f : ℕ) (g : Signature) → called (slice_get (signatures P)) f ≡ Some g → f < 4294967296) → (fs : List Function) (h : ℕ) → FineOthers P m fs → Small (list_p fs) → h + words_bodies fs < 4294967296 → Stands code h (code_bodies fs h)
      → (i : ℕ) → i < length fs → HasB code (get_or fs i empty).body [] (address_from fs h i) × At code (end_b (get_or fs i empty).body (address_from fs h i)) Close (place_of (get_or fs i empty).body)
  others-at P m k numbers [] h f n l S i q = absurd (omega arith)
  others-at P m k numbers (x ∷ fs) h f n l S zero q =
      let r = split code (code_body x.body h) _ h (h + words_b x.body + 1) (omega (arith, body-length x.body h)) S in
      one-body (other_env P m x.signature) (slots-other x.signature m f.0.record_fine k) numbers x.body h f.0.body_fine (small-split (list_b x.body) (list_p fs) n).0 (omega arith) r.0
  others-at P m k numbers (x ∷ fs) h f n l S (suc i) q =
      let r = split code (code_body x.body h) _ h (h + words_b x.body + 1) (omega (arith, body-length x.body h)) S in
      others-at P m k numbers fs (h + words_b x.body + 1) f.1 (small-split (list_b x.body) (list_p fs) n).1 (omega arith) r.1 i (omega arith)

  called_at : (P : Program) (b : Bool) (f : ℕ) (g : Signature) → cond b None (slice_get (signatures P) f) ≡ Some g → slice_get (signatures P) f ≡ Some g
  called_at P true f g e = let z : ◌≡◌ {A = ℕ} 0 1 = cc in absurd (omega arith)
  called_at P false f g e = e

  length-map : (P : Program) → length (signatures P) ≡ length P
  length-map [] = refl
  length-map (f ∷ fs) = ap suc (length-map fs)

  module _ (m : Function) (fs : List Function) (keeps : Keeps (m ∷ fs)) (begin : Begins (m ∷ fs) code) where
    abbrev pub address : ℕ → ℕ
    address = address_from (m ∷ fs) (length (m ∷ fs))

    parts : Stands code 0 (code_entries (m ∷ fs) (length (m ∷ fs))) × Stands code (length (m ∷ fs)) (code_bodies (m ∷ fs) (length (m ∷ fs)))
    unfolding code_p
    parts = split code (code_entries (m ∷ fs) (length (m ∷ fs))) _ 0 (length (m ∷ fs)) (omega (arith, long-entries (m ∷ fs) (length (m ∷ fs)))) (begins (code_p (m ∷ fs)) begin.0 begin.1)

    small : Small (list_p (m ∷ fs))
    small = numbered-small 0 (list_p (m ∷ fs)) keeps.numbered (let l = keeps.short in omega arith)

    numbers : (f : ℕ) (g : Signature) → called (slice_get (signatures (m ∷ fs))) f ≡ Some g → f < 4294967296
    numbers f g e = let l = nth_inside (signatures (m ∷ fs)) f g (called_at (m ∷ fs) (eqb f 0) f g e) in omega (arith, l, length-map (m ∷ fs), keeps.few)

    fine-main : FineFunction (main_env (m ∷ fs) m.signature) m
    fine-main = keeps.functions.2

    signed : (i : ℕ) (g : Signature) → slice_get (signatures (m ∷ fs)) i ≡ Some g → FineSignature g
    signed zero g e = let d : m.signature ≡ g = cc in rw d at fine-main.record_fine
    signed (suc i) g e = let r = found (m ∷ fs) m.signature fs i g keeps.functions.3 e in rw r.1 at r.2.record_fine

    pub entry-at : (i : ℕ) (g : Signature) → slice_get (signatures (m ∷ fs)) i ≡ Some g → entry_at code i ≡ Some (entry_for g (address i))
    entry-at i g e =
        let r = entries_at (m ∷ fs) (length (m ∷ fs)) 0 parts.0 i g i (omega arith) e in
        let f = signed i g e in
        sym (entry_in code i (Some (entry_for g (address i))) r.0 (sym (entry-read-again (entry_for g (address i)) (get_or code i 0) r.1
        (record { parameters = f.few; among = f.among; variables = f.short; address = let n = address-near (m ∷ fs) (length (m ∷ fs)) i in let w = few_words (m ∷ fs) keeps in omega arith }))))

    pub all-entries : Entries code (slice_get (signatures (m ∷ fs))) address
    all-entries = record { entry = λ f g e. entry-at f g (called_at (m ∷ fs) (eqb f 0) f g e); fine = λ f g e. signed f g (called_at (m ∷ fs) (eqb f 0) f g e) }

    every : (i : ℕ) → i < length (m ∷ fs) → HasB code (function_at (m ∷ fs) i).body [] (address i) × At code (end_b (function_at (m ∷ fs) i).body (address i)) Close (place_of (function_at (m ∷ fs) i).body)
    every zero l =
        let r = split code (code_body m.body (length (m ∷ fs))) _ (length (m ∷ fs)) (length (m ∷ fs) + words_b m.body + 1) (omega (arith, body-length m.body (length (m ∷ fs)))) parts.1 in
        one-body (main_env (m ∷ fs) m.signature) (slots-main m.signature fine-main.record_fine) numbers m.body (length (m ∷ fs)) fine-main.body_fine (small-split (list_b m.body) (list_p fs) small).0 (let w = few_words (m ∷ fs) keeps in omega arith) r.0
    every (suc i) l =
        let r = split code (code_body m.body (length (m ∷ fs))) _ (length (m ∷ fs)) (length (m ∷ fs) + words_b m.body + 1) (omega (arith, body-length m.body (length (m ∷ fs)))) parts.1 in
        others-at (m ∷ fs) m.signature fine-main.record_fine numbers fs (length (m ∷ fs) + words_b m.body + 1) keeps.functions.3 (small-split (list_b m.body) (list_p fs) small).1 (let w = few_words (m ∷ fs) keeps in omega arith) r.1 i (omega arith)

    pub all_bodies : Bodies code (m ∷ fs) address
    all_bodies = record { stands = λ f l. (every f l).0; ends = λ f l. (every f l).1 }
