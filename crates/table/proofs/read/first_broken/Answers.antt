use Rattle.std.proofs.Common.{not, rules, refl, sym, ◌∙◌, arith}
use borrow.Author.Tests.{tests}
use Rattle.std.proofs.lemmas.Iterator.{YieldsList-from_range}
use Rattle.std.proofs.lemmas.Iterator.Search.{find_from_yields_List}
use Rattle.table.specs.Fields.{record_holds}
use Rattle.table.specs.View.{view, function_of}
use Rattle.table.proofs.Slots.{broken_found, unchanged}
use Rattle.table.proofs.read.first_broken.Goals as goal

pub returns : goal.returns
returns c =
    let v = view c.args.t.now in
    let found = find_from_yields_List (λ k. not (record_holds k (function_of v k))) _ _ c.find.result c.find.ensures.ran (YieldsList-from_range 0 v.functions v.functions refl (omega arith)) (λ x b q k. search (rules, tests)) in
    sym (unchanged c.find.result) ∙ found ∙ broken_found v v.functions 0 (omega arith)
