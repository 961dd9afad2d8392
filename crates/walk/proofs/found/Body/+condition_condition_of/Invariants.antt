use Rattle.std.proofs.Common.{◌+◌, ◌*◌}
use Rattle.walk.proofs.found.Body.+condition_condition_of.Given as goal

abbrev pub decreases-condition : goal.decreases-condition
decreases-condition l = 2 * l.left

abbrev pub decreases-condition_of : goal.decreases-condition_of
decreases-condition_of l = 2 * l.left + 1
