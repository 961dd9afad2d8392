use borrow.Author.Tests.{tests}
use Rattle.std.specs.Prelude.{find, ◌==◌}
use Rattle.std.specs.Option.{option_map, unwrap_or}
use Rattle.std.proofs.Common.{◌≡◌, ℕ, Bool, ◌||◌, List, [], ◌∷◌, refl, arith, rules}
use Rattle.std.proofs.lemmas.Iterator.Adapters.{YieldsList-from_rev_slice}
use Rattle.std.proofs.lemmas.Iterator.Search.{find_from_yields_List}
use Rattle.translate.specs.Aims.{aims}
use Rattle.translate.specs.Code.{target_of}
use Rattle.translate.specs.declared.targets.Target.{Target}
use Rattle.translate.proofs.targets.Targets.find.Goals as goal

-- whether a loop is asked for by that name, 0 asking for any
abbrev asked : ℕ → Target → Bool
asked m t = m == 0 || t.name == m

target_found : (m : ℕ) (xs : List Target) → target_of m xs ≡ unwrap_or (find (asked m) xs) (record { name = 0; start = 0; end = 0 })
target_found m [] = refl
target_found m (x ∷ xs) = let h = target_found m xs in grind arith

pub returns : goal.returns
returns c =
    let f : option_map (λ t. t.now) c.find.result ≡ find (asked c.args.name) (aims c.args.self.now) =
    find_from_yields_List (asked c.args.name) _ _ c.find.result c.find.ensures.ran (YieldsList-from_rev_slice c.args.self.now.items.items cc) (λ x b q k. search (rules, tests)) in
    search (rules, target_found)
