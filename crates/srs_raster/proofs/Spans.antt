-- The sizes of the numbers of a grid's points.
use Rattle.std.proofs.Common.{◌≡◌, ℕ, ◌+◌, ◌*◌, ◌^◌, ◌<◌, ◌≤◌, ℤ, pos, ◌+ℤ◌, ◌-ℤ◌, ◌*ℤ◌, ◌≤ℤ◌, ◌<ℤ◌, [], ◌∷◌, sym, subst, FitsSigned, w64, arith, lit<}
use Rattle.std.proofs.lemmas.Int.{ints}
use Rattle.srs_num.specs.Points.{IsWithin, IsPtSized}
use Rattle.srs_num.proofs.Linear.{linear, mul_pos}
use Rattle.srs_num.proofs.Ranges.{within_product, within_sum, within_difference, within_more, small_fits}
use Rattle.srs_num.proofs.Ring.{v, lit, ◌⊗◌, ring}
use Rattle.srs_raster.specs.declared.grids.Grid.{Grid}
use Rattle.srs_raster.specs.Maps.{IsGrid, across_of, up_of}

-- a number as a whole number
within_nat : (n m : ℕ) → n ≤ m → IsWithin m (pos n)
within_nat n m h = omega (arith, ints)

pub record AreSmall (a b : ℤ) : Type 0 where
  pub first : IsWithin (400 * 256) a
  pub second : IsWithin (400 * 512) b

pub products_small : (n k : ℕ) (x y z : ℤ) → n ≤ 400 → k ≤ 400 → IsWithin 256 x → IsWithin 256 y → IsWithin 256 z → AreSmall (pos n *ℤ x) (pos k *ℤ (y -ℤ z))
products_small n k x y z a b h i j = record {
  first = within_product (pos n) x 400 256 (within_nat n 400 a) h;
  second = within_product (pos k) (y -ℤ z) 400 512 (within_nat k 400 b) (within_difference y z 256 256 i j);
}

pub sum_small : (a b : ℤ) → AreSmall a b → IsWithin (2 ^ 20) (a +ℤ b)
sum_small a b s = within_more (a +ℤ b) (400 * 256 + 400 * 512) (2 ^ 20) (within_sum a b (400 * 256) (400 * 512) s.first s.second) (omega arith)

pub difference_small : (a b : ℤ) → AreSmall a b → IsWithin (2 ^ 20) (a -ℤ b)
difference_small a b s = within_more (a -ℤ b) (400 * 256 + 400 * 512) (2 ^ 20) (within_difference a b (400 * 256) (400 * 512) s.first s.second) (omega arith)

-- the place of a middle, step by step, in 64 bits: the ends of the frame, their difference, the two
-- products, and what they make together
pub record PlaceFits (low high a b z : ℤ) : Type 0 where
  pub low64 : FitsSigned w64 low
  pub high64 : FitsSigned w64 high
  pub span64 : FitsSigned w64 (high -ℤ low)
  pub first : FitsSigned w64 a
  pub second : FitsSigned w64 b
  pub all : FitsSigned w64 z
  pub within : IsWithin (2 ^ 20) z

place_fits : (low high a b z : ℤ) → IsWithin 256 low → IsWithin 256 high → AreSmall a b → IsWithin (2 ^ 20) z → PlaceFits low high a b z
place_fits low high a b z hl hh small total = record {
  low64 = small_fits w64 low 256 hl (lit< tt);
  high64 = small_fits w64 high 256 hh (lit< tt);
  span64 = small_fits w64 (high -ℤ low) 512 (within_difference high low 256 256 hh hl) (lit< tt);
  first = small_fits w64 a (400 * 256) small.first (lit< tt);
  second = small_fits w64 b (400 * 512) small.second (lit< tt);
  all = small_fits w64 z (2 ^ 20) total (lit< tt);
  within = total;
}

-- those of a column, for at most 200 columns
pub across_fits : (g : Grid) (i : ℕ) → IsGrid g → i < g.width
    → PlaceFits g.frame.left g.frame.right (pos (2 * g.width) *ℤ g.frame.left) (pos (2 * i + 1) *ℤ (g.frame.right -ℤ g.frame.left)) (across_of g i)
across_fits g i grid column =
    let few = grid.columns in
    let narrow = grid.narrow in
    let small = products_small (2 * g.width) (2 * i + 1) g.frame.left g.frame.right g.frame.left (omega arith) (omega arith) narrow.left narrow.right narrow.left in
    place_fits g.frame.left g.frame.right _ _ _ narrow.left narrow.right small (sum_small _ _ small)

-- those of a row, for at most 200 rows
pub up_fits : (g : Grid) (j : ℕ) → IsGrid g → j < g.height
    → PlaceFits g.frame.bottom g.frame.top (pos (2 * g.height) *ℤ g.frame.top) (pos (2 * j + 1) *ℤ (g.frame.top -ℤ g.frame.bottom)) (up_of g j)
up_fits g j grid row =
    let few = grid.rows in
    let narrow = grid.narrow in
    let small = products_small (2 * g.height) (2 * j + 1) g.frame.top g.frame.top g.frame.bottom (omega arith) (omega arith) narrow.top narrow.top narrow.bottom in
    place_fits g.frame.bottom g.frame.top _ _ _ narrow.bottom narrow.top small (difference_small _ _ small)

pub deep : (w h : ℕ) → pos h *ℤ (pos w *ℤ pos 128) ≡ pos 128 *ℤ pos w *ℤ pos h
deep w h = ring (pos h ∷ pos w ∷ []) (v 0 ⊗ (v 1 ⊗ lit (pos 128))) (lit (pos 128) ⊗ v 1 ⊗ v 0) tt

-- the three numbers of a point
pub point_sized : (w h : ℕ) (x y p q d : ℤ) → 1 ≤ w → w ≤ 200 → 1 ≤ h → h ≤ 200 → IsWithin (2 ^ 20) x → IsWithin (2 ^ 20) y → p ≡ pos h *ℤ x → q ≡ pos w *ℤ y → d ≡ pos h *ℤ (pos w *ℤ pos 128) → IsPtSized (record { p = p; q = q; d = d })
point_sized w h x y p q d a b c k i j e f g = record {
  is_point = subst (λ z. pos 1 ≤ℤ z) (sym g) (one (pos h *ℤ (pos w *ℤ pos 128)) (mul_pos (pos h) (pos w *ℤ pos 128) (some h c) (mul_pos (pos w) (pos 128) (some w a) (omega (arith, ints)))));
  d_range = subst (IsWithin (2 ^ 40)) (sym g) (within_more (pos h *ℤ (pos w *ℤ pos 128)) (200 * (200 * 128)) (2 ^ 40) (within_product (pos h) (pos w *ℤ pos 128) 200 (200 * 128) (within_nat h 200 k) (within_product (pos w) (pos 128) 200 128 (within_nat w 200 b) (within_nat 128 128 (omega arith)))) (omega arith));
  p_range = subst (IsWithin (2 ^ 42)) (sym e) (within_more (pos h *ℤ x) (200 * 2 ^ 20) (2 ^ 42) (within_product (pos h) x 200 (2 ^ 20) (within_nat h 200 k) i) (omega arith));
  q_range = subst (IsWithin (2 ^ 42)) (sym f) (within_more (pos w *ℤ y) (200 * 2 ^ 20) (2 ^ 42) (within_product (pos w) y 200 (2 ^ 20) (within_nat w 200 b) j) (omega arith));
}
  where
    one : (z : ℤ) → pos 0 <ℤ z → pos 1 ≤ℤ z
    one z l = omega (arith, linear)

    some : (n : ℕ) → 1 ≤ n → pos 0 <ℤ pos n
    some n l = omega (arith, ints)
