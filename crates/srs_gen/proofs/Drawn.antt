-- What is drawn is in its range, and one point more.
use Rattle.std.proofs.Common.{◌≡◌, ℕ, suc, ◌+◌, ◌*◌, ◌<◌, [], ◌∷◌, ◌++◌, map, arith, ap}
use Rattle.std.proofs.lemmas.Int.{ints}
use Rattle.std.proofs.lemmas.List.FromFn.{map-range_with_len_more}
use Rattle.srs_num.specs.Points.{Point, IsPtSized}
use Rattle.srs_gen.specs.Draws.{next_state, draw_from, state_after}
use Rattle.srs_gen.specs.Samples.{point_from, points_from}

draw_below : (x m : ℕ) → 0 < m → draw_from x m < m
unfolding draw_from
draw_below x m h = omega arith

-- the numbers of a point that is drawn are small
pub drawn_sized : (x : ℕ) → IsPtSized (point_from x)
drawn_sized x =
    let p = draw_below x 129 (omega arith) in
    let q = draw_below (next_state x) 257 (omega arith) in
    record {
      is_point = omega (arith, ints);
      d_range = omega (arith, ints);
      p_range = omega (arith, ints);
      q_range = omega (arith, ints);
    }

pub state_after_more : (x i : ℕ)
    → state_after x (2 * (i + 1)) ≡ next_state (next_state (state_after x (2 * i)))
state_after_more x i = let e : 2 * (i + 1) ≡ suc (suc (2 * i)) = omega arith in ap (state_after x) e

pub points_more : (x i : ℕ) → points_from x (i + 1) ≡ points_from x i
    ++ point_from (state_after x (2 * i)) ∷ []
points_more x i =
    map-range_with_len_more (λ i. point_from (state_after x (2 * i))) 0 i i (omega arith)
