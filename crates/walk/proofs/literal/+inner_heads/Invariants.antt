use Rattle.walk.proofs.literal.+inner_heads.Given as goal

abbrev pub decreases-inner_heads : goal.decreases-inner_heads
decreases-inner_heads l = l.n
