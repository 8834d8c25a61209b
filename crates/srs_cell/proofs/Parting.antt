-- A cell with one half more, some of whose corners are within the half.
use Rattle.std.proofs.Common.{◌<◌, List, [], ◌∷◌, ◌++◌, length, length-append, ℤ, pos, ◌≤ℤ◌, ◌<ℤ◌, arith, neg_ℤ, ◌≤◌, ◌≡◌}
use Rattle.std.specs.List.{Contains}
use Rattle.srs_num.specs.Points.{LinearForm, Point, value}
use Rattle.srs_num.specs.Lines.{sum_of}
use Rattle.srs_num.proofs.Linear.{linear}
use Rattle.srs_plane.specs.declared.halves.Half.{Half}
use Rattle.srs_plane.specs.declared.halves.Kind.{Kind}
use Rattle.srs_plane.specs.declared.halves.Kind.TheVariants.{Ge, Gt}
use Rattle.srs_plane.specs.Regions.{Area, Asks, IsIn, HasPoint}
use Rattle.srs_plane.proofs.Members.{IsIn-front, IsIn-push}
use Rattle.srs_cell.specs.Hull.{IsAbove, IsBelow}
use Rattle.srs_cell.specs.Corners.{boxed, AreCorners, IsCell}
use Rattle.srs_cell.proofs.Areas.{sum_inside, sum_in_each, in_boxed}
use Rattle.srs_num.specs.Points.{opposite}
use Rattle.srs_num.proofs.Identities.{value-opposite}
use Rattle.srs_cell.specs.Sides.{StaysAbove, StaysBelow, ReachesAbove, ReachesBelow}
use Rattle.srs_cell.specs.Tallies.{IsTally}
use Rattle.srs_cell.specs.declared.tallies.Tally.{Tally}
use Rattle.srs_cell.proofs.Counting.{none_below, low_corners}
use Rattle.srs_cell.proofs.Reaching.{reaches}
use Rattle.srs_cell.proofs.Extremes.{all_below}

asks_strictly : (k : Kind) (v : ℤ) → pos 0 <ℤ v → Asks k v
asks_strictly Ge v h = omega (arith, linear)
asks_strictly Gt v h = h

-- where a corner is strictly within a half, the half has a point of the cell
strict_point : (R : Area) (cs : List Point) (s : Point) (h : Half) (c : Point) → IsCell R cs s → Contains cs c → pos 0 <ℤ value h.form c → HasPoint (R ++ h ∷ [])
strict_point R cs s h c k among up =
    let w = reaches R cs s k c among h.form up in
    (w.0, IsIn-push R h w.0 w.1 (asks_strictly h.kind _ w.2))

-- the same of a cell, by the tally of its corners
pub point_above : (R : Area) (cs : List Point) (cell : (s : Point) × IsCell R cs s) (h : Half) (t : Tally) → IsTally h.form cs t → 1 ≤ t.above → HasPoint (R ++ h ∷ [])
point_above R cs cell h t tally above = let corner = tally.above.some above in strict_point R cs cell.0 h corner.0 cell.1 corner.1 corner.2

-- the part is a cell
pub part_cell : (R : Area) (cs : List Point) (s : Point) (h : Half) (us : List Point) → IsCell R cs s → length R < 80 → AreCorners (R ++ h ∷ []) us
    → (p : HasPoint (R ++ h ∷ [])) → IsCell (R ++ h ∷ []) us p.0
part_cell R cs s h us k few corners p = record {
  corners = corners;
  inside = p.1;
  count = omega (arith, length-append R (h ∷ []));
  near = λ r i. k.near r (IsIn-front R h r i);
}

-- the sum of the corners is a point of the cell
pub sum_is_in : (R : Area) (cs : List Point) (s : Point) → IsCell R cs s → IsIn R (sum_of cs)
sum_is_in R cs s k = sum_inside R cs k.corners (sum_in_each R cs s k.corners k.inside (k.near s k.inside))

-- what is at least 0 at each corner is so at each point, and what is below 0 at each corner is so too
pub cell_above : (R : Area) (cs : List Point) (s : Point) (f : LinearForm) → IsCell R cs s → IsAbove f cs → (r : Point) → IsIn R r → pos 0 ≤ℤ value f r
cell_above R cs s f k up r r_in = k.corners.hull.whole f up r (in_boxed R r r_in (k.near r r_in))

pub cell_below : (R : Area) (cs : List Point) (s : Point) (f : LinearForm) → IsCell R cs s → IsBelow f cs → (r : Point) → IsIn R r → value f r <ℤ pos 0
cell_below R cs s f k low r r_in = all_below (boxed R) cs f k.corners.hull low r (in_boxed R r r_in (k.near r r_in))

-- on which side of a form the cell is, by the counts of its corners
module _ (R : Area) (cs : List Point) (s : Point) (f : LinearForm) (t : Tally) (k : IsCell R cs s) (tally : IsTally f cs t) where
  pub stays_above : t.below ≡ 0 → StaysAbove R f
  stays_above e = cell_above R cs s f k (none_below f cs t tally e)

  pub reaches_below : 1 ≤ t.below → ReachesBelow R f
  reaches_below h =
      let c = tally.below.some h in
      let w = reaches R cs s k c.0 c.1 (opposite f) (up _ _ (value-opposite f c.0) c.2) in
      (w.0, w.1, down _ _ (value-opposite f w.0) w.2)
    where
      up : (r a : ℤ) → r ≡ neg_ℤ a → a <ℤ pos 0 → pos 0 <ℤ r
      up r a e h = omega (arith, linear)

      down : (r a : ℤ) → r ≡ neg_ℤ a → pos 0 <ℤ r → a <ℤ pos 0
      down r a e h = omega (arith, linear)

  pub reaches_above : 1 ≤ t.above → ReachesAbove R f
  reaches_above h =
      let c = tally.above.some h in
      let w = reaches R cs s k c.0 c.1 f c.2 in
      (w.0, w.1, weaker _ w.2)
    where
      weaker : (a : ℤ) → pos 0 <ℤ a → pos 0 ≤ℤ a
      weaker a h = omega (arith, linear)

  pub stays_below : t.above ≡ 0 → t.on ≡ 0 → StaysBelow R f
  stays_below e g = cell_below R cs s f k (low_corners f cs t tally e g)
