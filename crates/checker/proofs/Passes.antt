-- A program that is held passes; the smallest one does.
use Rattle.std.proofs.Common.{◌≡◌, true, [], ◌∷◌, None, Ok, Err, sym, refl, ap, ◌∙◌, arith}
use Rattle.std.proofs.lemmas.Bool.Decides.{nat_tests}
use Rattle.language.specs.Tree.{Program, skip, block, done, next}
use Rattle.language.specs.Rules.{Keeps}
use Rattle.language.specs.Layout.{layout}
use Rattle.walk.specs.Walk.{Answer}
use Rattle.walk.specs.Bodies.{checked}
use Rattle.walk.specs.declared.found.Passed.{Passed}
use Rattle.checker.specs.Passing.{passes_as}
use Rattle.checker.specs.Held.{smallest}
use Rattle.checker.proofs.Exactly.{complete}

pub passes-from : (r : Answer Passed) (p : Passed) → passes_as r p ≡ true → r ≡ Ok p
passes-from (Ok q) p h =
    let e : (q.functions ≡ p.functions) × (q.nodes ≡ p.nodes) × (q.words ≡ p.words) = grind (arith, nat_tests) in
    ap (λ n. Ok (record { functions = n; nodes = q.nodes; words = q.words })) e.0
    ∙ ap (λ n. Ok (record { functions = p.functions; nodes = n; words = q.words })) e.1
    ∙ ap (λ n. Ok (record { functions = p.functions; nodes = p.nodes; words = n })) e.2
passes-from (Err e) p h = absurd (grind arith)

pub passes_at : (r : Answer Passed) (p : Passed) → r ≡ Ok p → passes_as r p ≡ true
passes_at r p e = rw e (own p)
  where
    own : (p : Passed) → passes_as (Ok p) p ≡ true
    own p = grind (arith, nat_tests)

-- one function, a block with one skip
idle : Program
idle = record { signature = record { result = None; parameters = 0; variables = [] }; body = block 0 (next (skip 1) done) } ∷ []

idle-keeps : Keeps idle
unfolding idle
idle-keeps =
    record {
      functions = (
        refl,
        refl,
        record {
          record_fine = record { few = omega arith; among = omega arith; short = omega arith };
          body_fine = (omega arith, omega arith, (tt, tt));
          nesting = omega arith;
          cells = omega arith;
        },
        tt,
      );
      few = omega arith;
      short = omega arith;
      numbered = (refl, (refl, tt));
    }

idle-lies : layout idle ≡ smallest
unfolding layout idle
idle-lies = refl

pub smallest-passes : checked smallest ≡ Ok (record { functions = 1; nodes = 2; words = 2 })
unfolding idle
smallest-passes = ap checked (sym idle-lies) ∙ complete idle idle-keeps
