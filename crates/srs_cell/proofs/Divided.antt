-- A cell with one half more, and the two sides of a form.
use Rattle.std.proofs.Common.{◌≡◌, List, [], ◌∷◌, ◌++◌, ℤ, pos, neg_ℤ, ◌≤ℤ◌, ◌<ℤ◌, arith}
use Rattle.std.proofs.lemmas.Int.{by_lt_z}
use Rattle.srs_num.specs.Points.{LinearForm, Point, value}
use Rattle.srs_num.proofs.Linear.{linear}
use Rattle.srs_num.proofs.Identities.{value-opposite}
use Rattle.srs_plane.specs.declared.halves.Half.{Half}
use Rattle.srs_plane.specs.Regions.{Area, IsIn, HasPoint, Divides, ge_side, lt_side}
use Rattle.srs_plane.proofs.Members.{IsIn-front, IsIn-last, IsIn-push}
use Rattle.srs_cell.specs.Hull.{IsBelow}
use Rattle.srs_cell.specs.Corners.{boxed, IsCell}
use Rattle.srs_cell.proofs.Areas.{asked, in_boxed}
use Rattle.srs_cell.proofs.Extremes.{all_below}
use Rattle.srs_cell.proofs.Signs.{both_signs}

-- ---- one half more
-- no corner is on the side of the half
pub none_beyond : (R : Area) (cs : List Point) (s : Point) (h : Half) → IsCell R cs s → IsBelow h.form cs → HasPoint (R ++ h ∷ []) → ⊥
none_beyond R cs s h k low p =
    let r_in = IsIn-front R h p.0 p.1 in
    both_signs (value h.form p.0) (asked h.kind _ (IsIn-last R h p.0 p.1)) (all_below (boxed R) cs h.form k.corners.hull low p.0 (in_boxed R p.0 r_in (k.near p.0 r_in)))

-- ---- the two sides of a form
above_opposite : (v w : ℤ) → w ≡ neg_ℤ v → v <ℤ pos 0 → pos 0 <ℤ w
above_opposite v w e h = omega (arith, linear)

below_opposite : (v w : ℤ) → w ≡ neg_ℤ v → pos 0 <ℤ w → v <ℤ pos 0
below_opposite v w e h = omega (arith, linear)

-- no point has h >= 0
pub all_lt : (R : Area) (h : LinearForm) → (HasPoint (R ++ ge_side h ∷ []) → ⊥) → (r : Point) → IsIn R r → value h r <ℤ pos 0
all_lt R h none r r_in = by_lt_z (value h r) (pos 0) (λ low. low) (λ high. absurd (none (r, IsIn-push R (ge_side h) r r_in high)))

-- no point has h < 0
pub all_ge : (R : Area) (h : LinearForm) → (HasPoint (R ++ lt_side h ∷ []) → ⊥) → (r : Point) → IsIn R r → pos 0 ≤ℤ value h r
all_ge R h none r r_in =
    by_lt_z (value h r) (pos 0)
    (λ low. absurd (none (r, IsIn-push R (lt_side h) r r_in (above_opposite _ _ (value-opposite h r) low))))
    (λ high. high)

-- each side has a point
pub divided : (R : Area) (h : LinearForm) → HasPoint (R ++ ge_side h ∷ []) → HasPoint (R ++ lt_side h ∷ []) → Divides R h
divided R h p q = record {
  not_below = (p.0, IsIn-front R (ge_side h) p.0 p.1, IsIn-last R (ge_side h) p.0 p.1);
  below = (q.0, IsIn-front R (lt_side h) q.0 q.1, below_opposite _ _ (value-opposite h q.0) (IsIn-last R (lt_side h) q.0 q.1));
}
