use Rattle.std.proofs.Common.{◌≡◌, List, ◌++◌, map, length}
use Rattle.srs_plane.specs.declared.halves.Half.{Half}
use Rattle.srs_cell.specs.Cutting.{IsSection}
use Rattle.srs_cell.proofs.ends.Section.within.Given as goal

abbrev pub invariant-loop-half : goal.invariant-loop-half
invariant-loop-half l = (done : List Half) × (l.region ≡ l.rest ++ done) × (l.section.line ≡ l.line) × IsSection (map (λ h. h.form) done) l.section

abbrev pub decreases-loop-half : goal.decreases-loop-half
decreases-loop-half l = length l.rest
