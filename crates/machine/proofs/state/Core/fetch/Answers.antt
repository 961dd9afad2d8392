use Rattle.std.proofs.Common.{Some, None, ◌∙◌}
use Rattle.machine.specs.View.{view}
use Rattle.machine.proofs.Tables.{fetch-out, fetch_in}
use Rattle.machine.proofs.state.Core.fetch.Goals as goal

pub returns-then-self-code : goal.returns-then-self-code
unfolding view
returns-then-self-code c =
    fetch-out c.args.code.now (view c.args.self.now) c.if-self-code.true

pub returns-in-None : goal.returns-in-None
unfolding view
returns-in-None c =
    fetch_in c.args.code.now (view c.args.self.now) None c.node_of.result c.if-self-code.false c.in-None.ensures.value c.node_of.ensures

pub returns-in-Some : goal.returns-in-Some
unfolding view
returns-in-Some c =
    c.run.ensures ∙ fetch_in c.args.code.now (view c.args.self.now) (Some c.in-Some.instruction) c.node_of.result c.if-self-code.false c.in-Some.ensures.value c.node_of.ensures
