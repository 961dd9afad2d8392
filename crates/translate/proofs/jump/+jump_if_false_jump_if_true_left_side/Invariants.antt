use Rattle.std.proofs.Common.{◌+◌, ◌*◌}
use Rattle.translate.proofs.jump.+jump_if_false_jump_if_true_left_side.Given as goal

abbrev pub decreases-jump_if_false : goal.decreases-jump_if_false
decreases-jump_if_false l = 2 * l.left

abbrev pub decreases-jump_if_true : goal.decreases-jump_if_true
decreases-jump_if_true l = 2 * l.left

abbrev pub decreases-left_side : goal.decreases-left_side
decreases-left_side l = 2 * l.left + 1
