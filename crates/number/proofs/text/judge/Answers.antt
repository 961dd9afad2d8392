use Rattle.std.proofs.Common.{◌∙◌}
use Rattle.number.proofs.Readings.{takes, refuses, refuses_none}
use Rattle.number.proofs.text.judge.Goals as goal

pub returns-in-Some : goal.returns-in-Some
returns-in-Some g c =
    takes g.K.NumberKind.kind g.K.NumberKind.cells c.args.number c.in-Some.n c.args.count c.HIGH.result (c.HIGH.ensures ∙ g.K.NumberKind.constants.1) c.if-n-HIGH.true c.in-Some.is

pub returns-in_default : goal.returns-in_default
returns-in_default g c =
    refuses g.K.NumberKind.kind g.K.NumberKind.cells c.args.number c.in-Some.n c.args.count c.HIGH.result (c.HIGH.ensures ∙ g.K.NumberKind.constants.1) c.if-n-HIGH.false c.in-Some.is

pub returns-in_default-2 : goal.returns-in_default-2
returns-in_default-2 g c = refuses_none g.K.NumberKind.kind c.args.number c.args.count c.in_default.is
