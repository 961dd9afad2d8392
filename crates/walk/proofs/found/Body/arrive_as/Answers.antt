use Rattle.std.proofs.Common.{Ok, Err}
use Rattle.walk.specs.Reads.{seen}
use Rattle.walk.specs.Walk.{arrived}
use Rattle.walk.proofs.Steps.{taken_when}
use Rattle.walk.proofs.found.Body.arrive_as.Goals as goal

pub returns-in-Ok-clause-is : goal.returns-in-Ok-clause-is
returns-in-Ok-clause-is g c =
    taken_when g.S.TryFrom.try_from_gives c.args.at (arrived (seen c.args.self.now) c.args.left c.args.at) c.in_ok-arrive.field-0 (Ok c.in-Ok.found) c.in_ok-arrive.ensures.is c.in-Ok.ensures

pub returns-in-Err-clause-is : goal.returns-in-Err-clause-is
returns-in-Err-clause-is g c =
    taken_when g.S.TryFrom.try_from_gives c.args.at (arrived (seen c.args.self.now) c.args.left c.args.at) c.in_ok-arrive.field-0 (Err c.in-Err.field-0) c.in_ok-arrive.ensures.is c.in-Err.ensures
