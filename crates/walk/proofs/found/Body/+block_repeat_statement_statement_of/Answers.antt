use Rattle.std.proofs.Common.{Ok, Err, sym, ◌∙◌, rules}
use Rattle.walk.specs.Names.{names}
use Rattle.walk.specs.Reads.{seen, env}
use Rattle.walk.proofs.Steps.{stmt_after}
use Rattle.walk.proofs.found.Body.+block_repeat_statement_statement_of.Goals as goal

pub statement-returns-in_err-shape-clause-is : goal.statement-returns-in_err-shape-clause-is
statement-returns-in_err-shape-clause-is t c =
    let e = stmt_after (seen c.args.self.now) (env c.args.self.now) c.args.left (names c.args.loops.now) c.args.at (Err c.in_err-shape.field-0.0) c.in_err-shape.ensures.is in
    search (rules, e)

pub statement-returns-clause-is : goal.statement-returns-clause-is
statement-returns-clause-is t c =
    c.statement_of.ensures.is
    ∙ sym (stmt_after (seen c.args.self.now) (env c.args.self.now) c.args.left (names c.args.loops.now) c.args.at (Ok c.in_ok-shape.shape) c.in_ok-shape.ensures.is)
