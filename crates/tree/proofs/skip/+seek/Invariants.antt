use Rattle.tree.proofs.skip.+seek.Given as goal

abbrev pub decreases-seek : goal.decreases-seek
decreases-seek l = l.row
