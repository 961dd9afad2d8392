use Rattle.std.proofs.Common.{rules}
use Rattle.translate.proofs.Writes.{writes_two}
use Rattle.translate.proofs.jump.+jump_if_false_jump_if_true_left_side.Goals as goal

pub jump_if_false-returns-in-Some-Join-clause-is : goal.jump_if_false-returns-in-Some-Join-clause-is
jump_if_false-returns-in-Some-Join-clause-is t c = writes_two c.left_side-second.ensures.is c.jump_if_false.ensures.is (search rules) (search rules)

pub jump_if_true-returns-in-Some-Join-clause-is : goal.jump_if_true-returns-in-Some-Join-clause-is
jump_if_true-returns-in-Some-Join-clause-is t c = writes_two c.left_side-second.ensures.is c.jump_if_true.ensures.is (search rules) (search rules)
