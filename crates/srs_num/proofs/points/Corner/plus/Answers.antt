-- The sums fit in 128 bits.
use Rattle.std.proofs.Common.{◌-◌, ◌^◌}
use Rattle.std.proofs.Math.Facts.{to_z-of_z}
use Rattle.srs_num.specs.Points.{IsPointWithin}
use Rattle.srs_num.specs.Lines.{plus}
use Rattle.srs_num.proofs.Crossings.{point_at}
use Rattle.srs_num.proofs.Sums.{corner_fits, plus_parts, plus_is}
use Rattle.srs_num.proofs.points.Corner.plus.Goals as goal

pub invariant_of-result : goal.invariant_of-result
invariant_of-result c =
    let x = point_at c.self.inside.p c.self.inside.q c.self.inside.d in
    let y = point_at c.other.inside.p c.other.inside.q c.other.inside.d in
    let h : IsPointWithin (2 ^ 84 - 1) (plus x y) = rw (c.self.view_is, c.other.view_is) c.requires in
    let sum = plus_parts (2 ^ 84 - 1) x y h in
    let u = corner_fits x c.self.invariant in
    let w = corner_fits y c.other.invariant in
    let s = corner_fits _ sum in
    simp (to_z-of_z u.p, to_z-of_z u.q, to_z-of_z u.d, to_z-of_z w.p, to_z-of_z w.q, to_z-of_z w.d, to_z-of_z s.p, to_z-of_z s.q, to_z-of_z s.d) sum

pub returns : goal.returns
returns c =
    let x = point_at c.self.inside.p c.self.inside.q c.self.inside.d in
    let y = point_at c.other.inside.p c.other.inside.q c.other.inside.d in
    let h : IsPointWithin (2 ^ 84 - 1) (plus x y) = rw (c.self.view_is, c.other.view_is) c.requires in
    let u = corner_fits x c.self.invariant in
    let w = corner_fits y c.other.invariant in
    let s = corner_fits _ (plus_parts (2 ^ 84 - 1) x y h) in
    rw (← c.self.view_is, ← c.other.view_is)
    (simp (to_z-of_z u.p, to_z-of_z u.q, to_z-of_z u.d, to_z-of_z w.p, to_z-of_z w.q, to_z-of_z w.d, to_z-of_z s.p, to_z-of_z s.q, to_z-of_z s.d) (plus_is x y))
