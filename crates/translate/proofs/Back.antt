-- The functions that are read off a program's table are the program's, and their words are its code.
use Rattle.std.proofs.Common.{◌≡◌, ℕ, ◌+◌, ◌*◌, ◌≤◌, cond, eqb, List, [], ◌∷◌, ◌++◌, length, Some, None, unwrap_or, sym, refl, ap, ◌∙◌, arith}
use Rattle.table.specs.View.{View, function_of}
use Rattle.table.specs.declared.record.Function.{Function as Record}
use Rattle.language.specs.Tree.{Function, Program, Signature, Block}
use Rattle.language.specs.Listing.{list_b, list_p}
use Rattle.language.specs.Measures.{words_bodies, words_p}
use Rattle.language.specs.Rules.{Keeps}
use Rattle.language.specs.Layout.{layout}
use Rattle.walk.specs.Bodies.{signature_of, env_of, view_of}
use Rattle.walk.specs.declared.found.Context.{Context}
use Rattle.walk.specs.declared.found.Passed.{Passed}
use Rattle.layout.specs.Stored.{counts_of as header_for}
use Rattle.layout.proofs.Places.{length-layout}
use Rattle.layout.proofs.Read.{layouts_read}
use Rattle.checker.specs.Exact.{Only}
use Rattle.checker.proofs.Functions.{Standing, Bodied, context_of}
use Rattle.checker.proofs.Programs.{spells-from, program-bodied, program_fits, program_limits}
use Rattle.checker.proofs.Readback.{block_back}
use Rattle.translate.specs.Code.{code_entries, code_bodies, code_p}
use Rattle.translate.specs.Functions.{blank, context_in, body_at, functions_from}
use Rattle.translate.proofs.Bounds.{few_words}

module _ (v : View) where
  context_back : (f : ℕ) (own : Record) → function_of v f ≡ Some own → context_in v f ≡ context_of v f own
  context_back f own h = ap (λ o. record { own = unwrap_or o blank; main = cond (eqb f 0) None (function_of v 0) }) h

  body_back : (f i : ℕ) (g : Function) → Standing v f i g → body_at v (context_in v f) i ≡ (g.body, i + length (list_b g.body))
  unfolding body_at
  body_back f i g s =
      ap (λ (c : Context). body_at v c i) (context_back f s.own s.there)
      ∙ block_back v (env_of v (context_of v f s.own)) g.body 128 [] i s.fine s.nesting s.spells

  signature_back : (f i : ℕ) (g : Function) → Standing v f i g → signature_of (context_in v f).own ≡ g.signature
  signature_back f i g s = ap (λ (c : Context). signature_of c.own) (context_back f s.own s.there) ∙ s.signature

  functions_back : (gs : List Function) (f i : ℕ) → Bodied v f i gs → functions_from v (length gs) f i ≡ gs
  functions_back [] f i b = refl
  functions_back (g ∷ gs) f i b =
      ap (λ (x : Signature). record { signature = x; body = (body_at v (context_in v f) i).0 } ∷ functions_from v (length gs) (f + 1) (body_at v (context_in v f) i).1) (signature_back f i g b.0)
      ∙ ap (λ (x : Block × ℕ). record { signature = g.signature; body = x.0 } ∷ functions_from v (length gs) (f + 1) x.1) (body_back f i g b.0)
      ∙ ap (λ (x : List Function). g ∷ x) (functions_back gs (f + 1) (i + length (list_b g.body)) b.1)

-- a program that keeps the rules is read off its own table
program_back : (P : Program) → Keeps P → functions_from (view_of (layout P) (header_for P)) (length P) 0 0 ≡ P
program_back P k =
    let s = layouts_read P (program_limits P k) in
    let v = view_of (layout P) (header_for P) in
    functions_back v P 0 0 (program-bodied v P s.functions k.functions (spells-from v 0 (list_p P) s.nodes k.numbered (program_fits P k.functions)))

-- the table t is that of one program
module _ (bs : List ℕ) (p : Passed) (o : Only bs p) (t : List ℕ) (same : t ≡ bs) where
  abbrev read : Program
  read = functions_from (record { bytes = t; functions = p.functions; nodes = p.nodes }) p.functions 0 0

  read_back : read ≡ o.program
  read_back =
      ap (λ (q : Passed). functions_from (record { bytes = t; functions = q.functions; nodes = q.nodes }) q.functions 0 0) o.tells
      ∙ ap (λ (b : List ℕ). functions_from (record { bytes = b; functions = length o.program; nodes = length (list_p o.program) }) (length o.program) 0 0) (same ∙ sym o.lies)
      ∙ program_back o.program o.keeps

  pub counted : (length t ≡ 3 + 6 * p.functions + 3 * p.nodes) × (p.functions ≤ 32) × (p.nodes ≤ 8192)
  counted =
      let l = length-layout o.program in
      let b = ap (λ (x : List ℕ). length x) o.lies in
      let a = ap (λ (x : List ℕ). length x) same in
      let f = ap (λ (x : Passed). x.functions) o.tells in
      let n = ap (λ (x : Passed). x.nodes) o.tells in
      let k = o.keeps.few in
      let s = o.keeps.short in
      (omega arith, omega arith, omega arith)

  pub total : (p.words ≡ p.functions + words_bodies read) × (p.words ≡ words_p o.program) × (p.words ≤ 8224)
  total =
      let f = ap (λ (x : Passed). x.functions) o.tells in
      let w = ap (λ (x : Passed). x.words) o.tells in
      let m = few_words o.program o.keeps in
      let r = ap words_bodies read_back in
      (omega arith, w, omega arith)

  -- entry words and bodies are the code
  pub coded : code_entries read p.functions ++ code_bodies read p.functions ≡ code_p o.program
  unfolding code_p
  coded =
      let f : p.functions ≡ length o.program = ap (λ (q : Passed). q.functions) o.tells in
      ap (λ (m : ℕ). code_entries read m ++ code_bodies read m) f
      ∙ ap (λ (P : Program). code_entries P (length o.program) ++ code_bodies P (length o.program)) read_back
