-- What words hold of the floor of a quotient, of its product and of the ends of a span.
use Rattle.std.proofs.Common.{◌≡◌, ℕ, ◌+◌, ◌*◌, ◌^◌, ◌<◌, ℤ, pos, neg_ℤ, ◌+ℤ◌, ◌-ℤ◌, ◌*ℤ◌, FitsSigned, w64, true, false, sym, ap, ◌∙◌, subst, lit<, lit≤}
use Rattle.std.specs.Int.{int_div_euclid, w128, Width}
use mir.Val.{hbits}
use Rattle.std.specs.Int.Signed.{lt_z}
use Rattle.std.proofs.lemmas.Int.{to_z-of_z}
use Rattle.srs_num.specs.Points.{LinearForm, IsWithin}
use Rattle.srs_num.specs.Floor.{IsFloor}
use Rattle.srs_num.proofs.Ranges.{held, small_fits, within_sum, within_difference, within_product, within_turned}
use Rattle.srs_plane.specs.Regions.{Area}
use Rattle.srs_cell.specs.Floors.{IsRatioWithin, AreFloorsOf, AreLeastFloors, IsLesserFloor, AreLessened}
use Rattle.srs_cell.specs.declared.floors.Floors.{Floors}
use Rattle.srs_cell.proofs.Lessening.{turned, turned_ratio, turned_fits, read_lt, read_ge, floors_of, quotient_floor, floor_range, whole_back, broken_back}

-- what 64 bits hold of a whole number, of it negated, and of one less than that
record HeldTurned (k : ℤ) : Type 0 where
  plain : held w64 k ≡ k
  turned : held w64 (pos 0 -ℤ held w64 k) ≡ pos 0 -ℤ k
  less_fits : FitsSigned w64 (held w64 (pos 0 -ℤ held w64 k) -ℤ pos 1)
  less : held w64 (held w64 (pos 0 -ℤ held w64 k) -ℤ pos 1) ≡ pos 0 -ℤ k -ℤ pos 1

held_turned : (m : ℕ) (k : ℤ) → IsWithin m k → m < 2 ^ 63 → m + 1 < 2 ^ 63 → HeldTurned k
held_turned m k range lm ln =
    let fits : FitsSigned w64 k = small_fits w64 k m range lm in
    let turned : FitsSigned w64 (pos 0 -ℤ k) = small_fits w64 _ m (within_turned m k range) lm in
    let less : FitsSigned w64 (pos 0 -ℤ k -ℤ pos 1) = small_fits w64 _ (m + 1) (within_difference (pos 0 -ℤ k) (pos 1) m 1 (within_turned m k range) (lit≤ tt)) ln in
    record { plain = simp to_z-of_z; turned = simp to_z-of_z; less_fits = simp to_z-of_z less; less = simp to_z-of_z }

-- the floors of n / d and of -n / d by the first of them, k: h is k as a word of the width w holds it
pub record HeldFloors (w : Width) (m : ℕ) (n d k h : ℤ) : Type 0 where
  pub product : FitsSigned w (h *ℤ held w d)
  pub less : FitsSigned w64 (held w64 (pos 0 -ℤ held w64 k) -ℤ pos 1)
  pub broken : lt_z (held w (h *ℤ held w d)) (held w n) ≡ true → AreFloorsOf m n d (record { ahead = held w64 k; back = held w64 (held w64 (pos 0 -ℤ held w64 k) -ℤ pos 1) })
  pub whole : lt_z (held w (h *ℤ held w d)) (held w n) ≡ false → AreFloorsOf m n d (record { ahead = held w64 k; back = held w64 (pos 0 -ℤ held w64 k) })

held_floors : (w : Width) (m s : ℕ) (n d k h : ℤ) → FitsSigned w n → FitsSigned w d → IsRatioWithin m n d → IsWithin s d → IsFloor n d k → h ≡ k
    → m < 2 ^ 63 → m + 1 < 2 ^ 63 → m * s < 2 ^ hbits w → HeldFloors w m n d k h
held_floors w m s n d k h fn fd near size floor e lm ln ls =
    let range = floor_range m n d near k floor in
    let t = held_turned m k range lm ln in
    let product : FitsSigned w (k *ℤ d) = small_fits w (k *ℤ d) (m * s) (within_product k d m s range size) ls in
    let same : h *ℤ held w d ≡ k *ℤ d = rw (e, to_z-of_z w d fd) in
    let wide : held w (h *ℤ held w d) ≡ k *ℤ d = ap (held w) same ∙ to_z-of_z w _ product in
    record {
      product = subst (FitsSigned w) (sym same) product;
      less = t.less_fits;
      broken = λ lt. rw (t.less, t.plain) (floors_of m n d near k _ floor (broken_back m n d near k floor (read_lt _ _ (rw (wide, to_z-of_z w n fn) at lt))));
      whole = λ le. rw (t.turned, t.plain) (floors_of m n d near k _ floor (whole_back m n d near k floor (read_ge _ _ (rw (wide, to_z-of_z w n fn) at le))));
    }

-- those of a quotient of 64 bits
pub held_quotient : (n d k : ℤ) → FitsSigned w64 n → FitsSigned w64 d → IsRatioWithin (2 ^ 23) n d → IsWithin (2 ^ 38) d → k ≡ int_div_euclid (held w64 n) (held w64 d)
    → HeldFloors w64 (2 ^ 23) n d k (held w64 k)
held_quotient n d k fn fd near size is =
    let e : k ≡ int_div_euclid n d = simp to_z-of_z at is in
    let floor = quotient_floor (2 ^ 23) n d near k e in
    held_floors w64 (2 ^ 23) (2 ^ 38) n d k (held w64 k) fn fd near size floor (to_z-of_z w64 k (small_fits w64 k (2 ^ 23) (floor_range (2 ^ 23) n d near k floor) (lit< tt))) (lit< tt) (lit< tt) (lit< tt)

-- those of a quotient of 128 bits
pub held_wide_quotient : (n d k : ℤ) → FitsSigned w128 n → FitsSigned w128 d → IsRatioWithin (2 ^ 40) n d → IsWithin (2 ^ 77) d → IsFloor (held w128 n) (held w128 d) k
    → HeldFloors w128 (2 ^ 40) n d k (held w128 (held w64 k))
held_wide_quotient n d k fn fd near size is =
    let floor : IsFloor n d k = simp to_z-of_z at is in
    let range = floor_range (2 ^ 40) n d near k floor in
    let short : FitsSigned w64 k = small_fits w64 k (2 ^ 40) range (lit< tt) in
    let long : FitsSigned w128 k = small_fits w128 k (2 ^ 40) range (lit< tt) in
    let same : held w128 (held w64 k) ≡ k = simp to_z-of_z in
    held_floors w128 (2 ^ 40) (2 ^ 77) n d k (held w128 (held w64 k)) fn fd near size floor same (lit< tt) (lit< tt) (lit< tt)

-- a floor of 128 bits that is cast to 64
pub record IsCastFloor (n d k : ℤ) : Type 0 where
  pub fits : FitsSigned w64 (held w128 k)
  pub floor : IsFloor n d (held w64 (held w128 k))
  pub range : IsWithin (2 ^ 40) (held w64 (held w128 k))

pub cast_floor : (n d k : ℤ) → FitsSigned w128 n → FitsSigned w128 d → IsRatioWithin (2 ^ 40) n d → IsFloor (held w128 n) (held w128 d) k → IsCastFloor n d k
cast_floor n d k fn fd near is =
    let floor : IsFloor n d k = simp to_z-of_z at is in
    let range : IsWithin (2 ^ 40) k = floor_range (2 ^ 40) n d near k floor in
    let long : FitsSigned w128 k = small_fits w128 k (2 ^ 40) range (lit< tt) in
    let short : FitsSigned w64 k = small_fits w64 k (2 ^ 40) range (lit< tt) in
    let same : held w64 (held w128 k) ≡ k = simp to_z-of_z in
    record { fits = simp to_z-of_z short; floor = rw same floor; range = rw same range }

-- a quotient turned, as a word of the width w holds it
pub record HeldOpposite (w : Width) (m : ℕ) (n d : ℤ) : Type 0 where
  pub near : IsRatioWithin m (held w (pos 0 -ℤ held w n)) (held w d)
  pub value : held w (pos 0 -ℤ held w n) ≡ neg_ℤ n

pub held_opposite : (w : Width) (m s : ℕ) (n d : ℤ) → FitsSigned w n → FitsSigned w d → IsRatioWithin m n d → IsWithin s d → m * s < 2 ^ hbits w → HeldOpposite w m n d
held_opposite w m s n d fn fd near size ls =
    let fits : FitsSigned w (pos 0 -ℤ n) = turned_fits w m s n d near size ls in
    let value : held w (pos 0 -ℤ held w n) ≡ neg_ℤ n = rw (to_z-of_z w n fn, to_z-of_z w _ fits) (turned n) in
    record { near = rw (value, to_z-of_z w d fd) (turned_ratio m n d near); value = value }

-- both floors lessened, as words hold them
pub held_lessened : (w : Width) (m s : ℕ) (n d : ℤ) (old : Floors) (x y : ℤ) → FitsSigned w n → FitsSigned w d → IsRatioWithin m n d → IsWithin s d → m * s < 2 ^ hbits w → m < 2 ^ 63
    → IsWithin m old.ahead → IsWithin m old.back → IsLesserFloor m (held w n) (held w d) (held w64 old.ahead) x → IsLesserFloor m (held w (pos 0 -ℤ held w n)) (held w d) (held w64 old.back) y
    → AreLessened m n d old (record { ahead = held w64 x; back = held w64 y })
held_lessened w m s n d old x y fn fd near size ls lm a_range b_range first second =
    let opposite = held_opposite w m s n d fn fd near size ls in
    let ahead : IsLesserFloor m n d old.ahead x = rw (to_z-of_z w n fn, to_z-of_z w d fd, to_z-of_z w64 old.ahead (small_fits w64 _ m a_range lm)) at first in
    let back : IsLesserFloor m (neg_ℤ n) d old.back y = rw (opposite.value, to_z-of_z w d fd, to_z-of_z w64 old.back (small_fits w64 _ m b_range lm)) at second in
    rw (to_z-of_z w64 x (small_fits w64 x m ahead.range lm), to_z-of_z w64 y (small_fits w64 y m back.range lm)) (record { ahead = ahead; back = back })

-- the ends of a span as 64 bits hold them, by two least floors
pub record HeldEnds (floors : Floors) : Type 0 where
  pub low : held w64 floors.back ≡ floors.back
  pub next : held w64 (held w64 floors.back +ℤ pos 1) ≡ floors.back +ℤ pos 1
  pub high : held w64 (pos 0 -ℤ held w64 floors.ahead) ≡ neg_ℤ floors.ahead

pub held_ends : (R : Area) (f : LinearForm) (floors : Floors) → AreLeastFloors R f floors → HeldEnds floors
held_ends R f floors least =
    let t = held_turned (2 ^ 40) floors.ahead least.ahead_range (lit< tt) (lit< tt) in
    let low : FitsSigned w64 floors.back = small_fits w64 floors.back (2 ^ 40) least.back_range (lit< tt) in
    let next : FitsSigned w64 (floors.back +ℤ pos 1) = small_fits w64 _ (2 ^ 40 + 1) (within_sum floors.back (pos 1) (2 ^ 40) 1 least.back_range (lit≤ tt)) (lit< tt) in
    record { low = simp to_z-of_z; next = simp to_z-of_z; high = t.turned ∙ turned floors.ahead }
