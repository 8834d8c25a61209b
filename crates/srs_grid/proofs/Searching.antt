-- The search for the first grid line.
use Rattle.std.proofs.Common.{◌≡◌, ℕ, ◌+◌, ◌<◌, ◌≤◌, ℤ, ◌<ℤ◌, refl, sym, ⊎_elim, arith}
use Rattle.std.proofs.Math.Nat.{eq-or-lt_of_le}
use Rattle.srs_num.specs.Points.{LinearForm}
use Rattle.srs_plane.specs.Regions.{Area, Divides}
use Rattle.srs_path.specs.GridLine.{Axis, X, Y, Grid, grid_form, axis_place, IsGridLine, by_m, by_axis, by_k, IsFirstGridLine, HasNoGridLine}
use Rattle.srs_grid.specs.Levels.{IsFirstLevel, HasNoLevel}
use Rattle.srs_grid.proofs.Axes.{scaled, splits_divides, divides_splits}

-- no line with a lesser m divides
abbrev pub IsSearched : Area → ℕ → Type 0
IsSearched R m = (g : Grid) → g.m < m → IsGridLine R g → ⊥

-- a grid line splits
line_splits : (R : Area) (g : Grid) (axis : Axis) (m : ℕ) → g.axis ≡ axis → g.m ≡ m → IsGridLine R g → Divides R (grid_form (record { m = m; axis = axis; k = g.k }))
line_splits R g axis m e f l = rw (sym e, sym f) l.divides

no_line : (R : Area) (axis : Axis) (m : ℕ) → HasNoLevel R (scaled axis m) → (g : Grid) → g.axis ≡ axis → g.m ≡ m → IsGridLine R g → ⊥
no_line R axis m none g e f l = none g.k (divides_splits R axis m g.k (line_splits R g axis m e f l))

no_earlier : (R : Area) (axis : Axis) (m : ℕ) (k : ℤ) → IsFirstLevel R (scaled axis m) k → (g : Grid) → g.axis ≡ axis → g.m ≡ m → g.k <ℤ k → IsGridLine R g → ⊥
no_earlier R axis m k first g e f lt l = first.none_below g.k lt (divides_splits R axis m g.k (line_splits R g axis m e f l))

pub first_x : (R : Area) (m : ℕ) (k : ℤ) (h : LinearForm) → IsSearched R m → m ≤ 36 → IsFirstLevel R (scaled X m) k → h ≡ grid_form (record { m = m; axis = X; k = k }) → IsFirstGridLine R h
first_x R m k h searched coarse first e = record {
  line = record { m = m; axis = X; k = k };
  is = sym e;
  divides = record { coarse = coarse; divides = splits_divides R X m k first.splits };
  none_before = λ g before l. elim before [
    | by_m lt ↦ searched g lt l
    | by_axis same lt ↦ absurd (omega (arith, lt))
    | by_k same on lt ↦ no_earlier R X m k first g on same lt l
  ];
}

before_y : (axis : Axis) → axis_place axis < 1 → axis ≡ X
before_y X lt = refl
before_y Y lt = absurd (omega (arith, lt))

pub first_y : (R : Area) (m : ℕ) (k : ℤ) (h : LinearForm) → IsSearched R m → m ≤ 36 → HasNoLevel R (scaled X m) → IsFirstLevel R (scaled Y m) k → h ≡ grid_form (record { m = m; axis = Y; k = k }) → IsFirstGridLine R h
first_y R m k h searched coarse none first e = record {
  line = record { m = m; axis = Y; k = k };
  is = sym e;
  divides = record { coarse = coarse; divides = splits_divides R Y m k first.splits };
  none_before = λ g before l. elim before [
    | by_m lt ↦ searched g lt l
    | by_axis same lt ↦ no_line R X m none g (before_y g.axis lt) same l
    | by_k same on lt ↦ no_earlier R Y m k first g on same lt l
  ];
}

-- the lines of one more m don't divide either
pub none_more : (R : Area) (m : ℕ) → IsSearched R m → HasNoLevel R (scaled X m) → HasNoLevel R (scaled Y m) → (g : Grid) → g.m < m + 1 → IsGridLine R g → ⊥
none_more R m searched no_x no_y g lt l =
    ⊎_elim (λ same. on_axis g.axis refl same) (λ less. searched g less l) (eq-or-lt_of_le (below g.m m lt))
  where
    below : (a b : ℕ) → a < b + 1 → a ≤ b
    below a b h = omega arith

    on_axis : (axis : Axis) → g.axis ≡ axis → g.m ≡ m → ⊥
    on_axis X e same = no_line R X m no_x g e same l
    on_axis Y e same = no_line R Y m no_y g e same l

pub none_at_all : (R : Area) (m : ℕ) → IsSearched R m → 37 ≤ m → HasNoGridLine R
none_at_all R m searched end g l = searched g (omega (arith, l.coarse)) l
