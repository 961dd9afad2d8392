use Rattle.std.proofs.Common.{rules}
use Rattle.table.specs.View.{view}
use Rattle.walk.specs.Bodies.{env_of}
use Rattle.translate.specs.Functions.{body_at}
use Rattle.translate.proofs.Programs.{body_place}
use Rattle.translate.proofs.Writes.{writes_two}
use Rattle.translate.proofs.bodies.whole_body.Goals as goal

pub block-next-requires : goal.block-next-requires
unfolding body_at
block-next-requires c = search rules

pub put-requires : goal.put-requires
unfolding body_at
put-requires c = search rules

pub returns : goal.returns
unfolding body_at
returns c =
    let p = body_place (view c.args.body.now.table.now) (env_of (view c.args.body.now.table.now) c.args.body.now.context) 128 c.args.at in
    record { is = writes_two c.block-next.ensures.is c.put.ensures (search rules) (search rules); next = search rules }
