-- The functions of a table, one by one.
use Rattle.std.proofs.Common.{◌≡◌, ℕ, ◌+◌, ◌-◌, ◌<◌, [], ◌∷◌, ◌++◌, subst, ap, arith}
use Rattle.table.specs.View.{View}
use Rattle.language.specs.Tree.{Block, Program}
use Rattle.language.specs.Measures.{words_b, words_bodies}
use Rattle.walk.specs.Bodies.{signature_of}
use Rattle.code.specs.Entries.{entry_word}
use Rattle.translate.specs.Code.{code_body, code_entries, code_bodies, entry_for}
use Rattle.translate.specs.Functions.{context_in, body_at, functions_from}
use Rattle.translate.specs.Written.{Writes}
use Rattle.translate.specs.declared.write.Writer.{Writer}
use Rattle.translate.proofs.Programs.{functions-next}
use Rattle.translate.proofs.Writes.{Remains, remains_more}

-- of the bodies of the program `all` those of `rest` are still to be written
abbrev pub BodiesLeft : Writer → Writer → Program → Program → Type 0
BodiesLeft old now rest all = Remains old now (words_bodies rest) (code_bodies rest now.here) (words_bodies all) (code_bodies all old.here)

-- Of the entry words of the program `all` those of `rest`, k of n, are still to be written, and its first body has that
-- address.
pub record EntriesLeft (n : ℕ) (old now : Writer) (k address : ℕ) (rest all : Program) : Type 0 where
  pub words : Remains old now k (code_entries rest address) n (code_entries all n)
  pub behind : address + words_bodies rest ≡ n + words_bodies all

module _ (v : View) (n f i q : ℕ) (all : Program) (old mid now : Writer) (l : f < n) (g : q ≡ (body_at v (context_in v f) i).1) where
  abbrev here : Block
  here = (body_at v (context_in v f) i).0

  abbrev rest : Program
  rest = functions_from v (n - (f + 1)) (f + 1) (body_at v (context_in v f) i).1

  -- one body more of n
  pub bodies-again : BodiesLeft old mid (functions_from v (n - f) f i) all → Writes mid now (words_b here + 1) (code_body here mid.here) →
      BodiesLeft old now (functions_from v (n - (f + 1)) (f + 1) q) all
  bodies-again p w =
      let s = functions-next v n f i l in
      let r : Remains old mid (words_b here + 1 + words_bodies rest) (code_body here mid.here ++ code_bodies rest (mid.here + words_b here + 1)) (words_bodies all) (code_bodies all old.here) = rw s at p in
      let e : mid.here + words_b here + 1 ≡ now.here = omega (arith, w.many) in
      rw g (subst (λ (h : ℕ). Remains old now (words_bodies rest) (code_bodies rest h) (words_bodies all) (code_bodies all old.here)) e (remains_more r w))

  -- one entry word more of n
  pub entries-again : (address : ℕ) → EntriesLeft n old mid (n - f) address (functions_from v (n - f) f i) all →
      Writes mid now 1 (entry_word (entry_for (signature_of (context_in v f).own) address) ∷ []) →
      EntriesLeft n old now (n - (f + 1)) (address + (words_b here + 1)) (functions_from v (n - (f + 1)) (f + 1) q) all
  entries-again address p w =
      let s = functions-next v n f i l in
      let k : n - f ≡ 1 + (n - (f + 1)) = omega arith in
      let e : address + words_b here + 1 ≡ address + (words_b here + 1) = omega arith in
      let b = ap words_bodies s in
      let m = p.behind in
      let r : Remains old mid (1 + (n - (f + 1))) (entry_word (entry_for (signature_of (context_in v f).own) address) ∷ code_entries rest (address + words_b here + 1)) n (code_entries all n) =
      subst (λ (x : ℕ). Remains old mid x (entry_word (entry_for (signature_of (context_in v f).own) address) ∷ code_entries rest (address + words_b here + 1)) n (code_entries all n)) k
      (subst (λ (x : Program). Remains old mid (n - f) (code_entries x address) n (code_entries all n)) s p.words) in
      rw g (record {
        words = subst (λ (h : ℕ). Remains old now (n - (f + 1)) (code_entries rest h) n (code_entries all n)) e (remains_more r w);
        behind = omega arith;
      })
