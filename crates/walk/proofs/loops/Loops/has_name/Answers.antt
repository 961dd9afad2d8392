use mathlib.Core.List.{reverse_aux}
use Rattle.std.proofs.Common.{◌≡◌, ℕ, Bool, true, false, cond, ◌||◌, eqb, List, [], ◌∷◌, reverse, refl, ap, ◌∙◌, rules}
use Rattle.std.specs.List.{list_any}
use Rattle.language.specs.Rules.{named}
use Rattle.walk.proofs.loops.Loops.has_name.Goals as goal

either_way : (p q r : Bool) → (p || cond q true r) ≡ ((q || p) || r)
either_way true true r = refl
either_way true false r = refl
either_way false true r = refl
either_way false false r = refl

named_onto : (m : ℕ) (xs ys : List ℕ) → named m (reverse_aux xs ys) ≡ (list_any (λ y. eqb y m) xs || named m ys)
named_onto m [] ys = refl
named_onto m (x ∷ xs) ys = named_onto m xs (x ∷ ys) ∙ either_way (list_any (λ y. eqb y m) xs) (eqb x m) (named m ys)

named_any : (m : ℕ) (xs : List ℕ) → list_any (λ y. eqb y m) xs ≡ named m (reverse xs)
named_any m xs = search (rules, named_onto m xs [], or_false (list_any (λ y. eqb y m) xs))
  where
    or_false : (p : Bool) → (p || false) ≡ p
    or_false true = refl
    or_false false = refl

pub returns : goal.returns
returns c =
    c.contains.ensures.value ∙ ap (λ xs. list_any (λ y. eqb y c.args.name) xs) c.deref.ensures.0
    ∙ named_any c.args.name c.args.self.now.names.items
