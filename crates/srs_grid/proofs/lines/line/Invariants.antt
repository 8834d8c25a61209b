use Rattle.srs_grid.proofs.Searching.{IsSearched}
use Rattle.srs_grid.proofs.lines.line.Given as goal

abbrev pub invariant-loop-m : goal.invariant-loop-m
invariant-loop-m l = IsSearched l.cell l.m
