-- Words written one after another.
use Rattle.std.proofs.Common.{◌≡◌, ℕ, ◌+◌, ◌-◌, ◌≤◌, List, ◌++◌, length, take, drop, sym, ap, ◌∙◌, append_assoc, arith}
use Rattle.std.proofs.lemmas.List.{drop-drop}
use Rattle.translate.specs.Written.{Wrote, Writes}
use Rattle.translate.specs.declared.write.Writer.{Writer}

pub wrote_then : {h m e : ℕ} {a b c ws us : List ℕ} → Wrote h m a b ws → Wrote m e b c us → Wrote h e a c (ws ++ us)
wrote_then {h} {m} {e} {a} {b} {c} {ws} {us} p q =
    record {
      out = q.out ∙ ap (λ l. l ++ us) p.out ∙ append_assoc (take h a) ws us;
      rest = q.rest ∙ later;
      on = omega (arith, p.on, q.on);
    }
  where
    later : drop e b ≡ drop e a
    later =
        let n : m + (e - m) ≡ e = omega (arith, q.on) in
        let x = drop-drop (e - m) m b in let y = drop-drop (e - m) m a in let z = p.rest in cc

-- the same words, said otherwise
pub wrote_as : {h e : ℕ} {a b ws us : List ℕ} → Wrote h e a b ws → us ≡ ws → Wrote h e a b us
wrote_as {h} {e} {a} {b} {ws} {us} p q = record { out = p.out ∙ ap (λ l. take h a ++ l) (sym q); rest = p.rest; on = p.on }

-- words and then words
pub writes_two : {a b c : Writer} {n m k : ℕ} {ws us vs : List ℕ} → Writes a b n ws → Writes b c m us → k ≡ n + m → vs ≡ ws ++ us → Writes a c k vs
writes_two {a} {b} {c} {n} {m} {k} p q e f =
    record {
      words = wrote_as (wrote_then p.words q.words) f;
      many = omega (arith, p.many, q.many);
      length = q.length ∙ p.length;
      same = q.same ∙ p.same;
    }

-- Of m words, `all`, that a writer is to write from where it stood, the last n, `rest`, are still to be written.
pub record Remains (old now : Writer) (n : ℕ) (rest : List ℕ) (m : ℕ) (all : List ℕ) : Type 0 where
  pub out : take now.here now.code.now ++ rest ≡ take old.here old.code.now ++ all
  pub kept : drop now.here now.code.now ≡ drop now.here old.code.now
  pub on : old.here ≤ now.here
  pub many : now.here + n ≡ old.here + m
  pub length : length now.code.now ≡ length old.code.now
  pub same : now.code.ghost_name ≡ old.code.ghost_name

pub remains_more : {old mid now : Writer} {n k m : ℕ} {ws rest all : List ℕ} → Remains old mid (k + n) (ws ++ rest) m all → Writes mid now k ws → Remains old now n rest m all
remains_more {old} {mid} {now} {n} {k} {m} {ws} {rest} {all} p q =
    let w = q.words in
    record {
      out = ap (λ l. l ++ rest) w.out ∙ append_assoc (take mid.here mid.code.now) ws rest ∙ p.out;
      kept = w.rest ∙ later;
      on = omega (arith, p.on, w.on);
      many = omega (arith, p.many, q.many);
      length = q.length ∙ p.length;
      same = q.same ∙ p.same;
    }
  where
    later : drop now.here mid.code.now ≡ drop now.here old.code.now
    later =
        let n : mid.here + (now.here - mid.here) ≡ now.here = omega (arith, q.many) in
        let x = drop-drop (now.here - mid.here) mid.here mid.code.now in
        let y = drop-drop (now.here - mid.here) mid.here old.code.now in let z = p.kept in cc
