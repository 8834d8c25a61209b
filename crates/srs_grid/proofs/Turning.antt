-- The floors of a form are the opposites of the entries to which the step leads.
use Rattle.std.proofs.Common.{◌≡◌, ℤ, pos, neg_ℤ, ◌-ℤ◌, ◌≤ℤ◌, sym, subst, arith}
use Rattle.srs_num.specs.declared.pairs.V2.{V2}
use Rattle.srs_num.specs.Points.{value}
use Rattle.srs_num.specs.Floor.{IsFloor}
use Rattle.srs_num.proofs.Linear.{linear}
use Rattle.srs_num.proofs.Ranges.{within_turned}
use Rattle.srs_map.proofs.FormStep.{step_by_floor, floor_by_step}
use Rattle.srs_plane.specs.Regions.{Area}
use Rattle.srs_cell.specs.Floors.{form_of}
use Rattle.srs_cell.specs.Moves.{LeadsTo, AreMoves}
use Rattle.srs_grid.specs.FloorRanges.{HasFloors}

pub floors_of_moves : (R : Area) (w : V2) (low high : ℤ) → AreMoves (LeadsTo R) w low high → HasFloors R (form_of w) (record { low = pos 0 -ℤ high; high = pos 0 -ℤ low })
floors_of_moves R w low high m = record {
  each = λ k a b.
      let t = m.each (neg_ℤ k) (below k low b) (above k high a) in
      (t.0, t.1, subst (IsFloor (value (form_of w) t.0) t.0.d) (twice k) (floor_by_step t.0 w.a w.b (neg_ℤ k) t.1.is_point t.2));
  all = λ r k i floor.
      let t = m.all (neg_ℤ k) (r, i, step_by_floor r w.a w.b (neg_ℤ k) i.is_point (subst (IsFloor (value (form_of w) r) r.d) (sym (twice k)) floor)) in
      (from_above k high t.1, from_below k low t.0);
  low_range = within_turned _ high m.high_range;
  high_range = within_turned _ low m.low_range;
}
  where
    twice : (k : ℤ) → neg_ℤ (neg_ℤ k) ≡ k
    twice k = omega (arith, linear)

    below : (k low : ℤ) → k ≤ℤ (pos 0 -ℤ low) → low ≤ℤ neg_ℤ k
    below k low h = omega (arith, linear)

    above : (k high : ℤ) → (pos 0 -ℤ high) ≤ℤ k → neg_ℤ k ≤ℤ high
    above k high h = omega (arith, linear)

    from_above : (k high : ℤ) → neg_ℤ k ≤ℤ high → (pos 0 -ℤ high) ≤ℤ k
    from_above k high h = omega (arith, linear)

    from_below : (k low : ℤ) → low ≤ℤ neg_ℤ k → k ≤ℤ (pos 0 -ℤ low)
    from_below k low h = omega (arith, linear)
