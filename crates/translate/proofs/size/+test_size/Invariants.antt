use Rattle.translate.proofs.size.+test_size.Given as goal

abbrev pub decreases-test_size : goal.decreases-test_size
decreases-test_size l = l.left
