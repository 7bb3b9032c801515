use Rattle.reader.proofs.readers.wholes.+formula.Given as goal

-- the brackets that may still be opened
abbrev pub decreases-formula : goal.decreases-formula
decreases-formula l = l.left
