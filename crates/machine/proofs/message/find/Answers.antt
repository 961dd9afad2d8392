use Rattle.std.proofs.Common.{sym, ap, ◌∙◌}
use Rattle.table.specs.declared.shape.Format.{Format}
use Rattle.machine.specs.Values.{finds}
use Rattle.machine.proofs.message.find.Goals as goal

pub returns-in-Integer : goal.returns-in-Integer
unfolding finds
returns-in-Integer c = c.read.ensures.value ∙ ap (λ (q : Format). finds q c.args.bytes.now) (sym c.in-Integer.is)

pub returns-in-Byte : goal.returns-in-Byte
unfolding finds
returns-in-Byte c = c.read-in-Byte.ensures.value ∙ ap (λ (q : Format). finds q c.args.bytes.now) (sym c.in-Byte.is)

pub returns-in-Char : goal.returns-in-Char
unfolding finds
returns-in-Char c = c.first_byte.ensures ∙ ap (λ (q : Format). finds q c.args.bytes.now) (sym c.in-Char.is)
