use Rattle.std.proofs.Common.{sym, subst, ◌∙◌}
use Rattle.translate.specs.Source.{TakenFor}
use Rattle.translate.proofs.arrive.node_as.Goals as goal

pub returns-clause-is : goal.returns-clause-is
returns-clause-is g c =
    subst (λ o. TakenFor g.S.TryFrom.try_from_gives o c.ok.result) (sym c.in_ok-shape_at.was ∙ c.shape_at.ensures.is) (c.try_from.result, c.try_from.ensures, c.ok.ensures.value)
