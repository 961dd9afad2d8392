use Rattle.std.proofs.Common.{◌∙◌, eqb, rules}
use borrow.Author.Tests.{tests}
use Rattle.std.proofs.lemmas.Iterator.{YieldsList-from_slice, YieldsList-from_take}
use Rattle.std.proofs.lemmas.Iterator.Search.{position_from_yields_List}
use Rattle.number.proofs.Feeds.{by_position}
use Rattle.number.proofs.text.line_feed.Goals as goal

pub returns-clause-place : goal.returns-clause-place
returns-clause-place c =
    position_from_yields_List (λ b. eqb b 10) _ _ c.position.result c.position.ensures.ran (YieldsList-from_take 8 (YieldsList-from_slice c.args.bytes.now cc) cc) (λ x b q k. search (rules, tests))
    ∙ by_position 8 c.args.bytes.now
