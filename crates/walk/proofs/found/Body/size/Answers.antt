use Rattle.walk.specs.Bodies.{body_from}
use Rattle.walk.specs.Names.{names}
use Rattle.walk.specs.Reads.{seen, env}
use Rattle.walk.proofs.Steps.{in_no_loop}
use Rattle.walk.proofs.found.Body.size.Goals as goal

pub returns : goal.returns
unfolding body_from
returns c =
    record {
      is = in_no_loop (seen c.args.self.now) (env c.args.self.now) 128 (names c.new-loops.result) c.args.at c.block.result c.new-loops.ensures c.block.ensures.is;
      bound = c.block.ensures.bound;
    }
