use Rattle.std.proofs.Common.{take}
use Rattle.srs_cell.specs.Tallies.{IsTally}
use Rattle.srs_cell.proofs.tallies.tally_of.Given as goal

abbrev pub invariant-loop-corner : goal.invariant-loop-corner
invariant-loop-corner l = IsTally l.line (take l.corner-index l.corners) l.tally
