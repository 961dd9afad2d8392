use Rattle.std.proofs.Common.{rules}
use Rattle.checker.proofs.Exactly.{exactly, at_most}
use Rattle.checker.proofs.check.check_table.Goals as goal

pub returns-clause-exact : goal.returns-clause-exact
returns-clause-exact c = exactly c.args.bytes.now c.walk_table.result (λ p. search (rules, c.type_inv.bytes p)) c.walk_table.ensures

pub returns-clause-long : goal.returns-clause-long
returns-clause-long c = at_most c.args.bytes.now c.walk_table.result c.walk_table.ensures
