-- The value of a form at a point whose numbers 64 bits hold, step by step.
use Rattle.std.proofs.Common.{◌≡◌, FitsSigned, w64, ℤ, ◌^◌, ◌*◌, ◌+◌, ◌*ℤ◌, ◌+ℤ◌, lit<}
use Rattle.std.specs.Int.{w128}
use Rattle.std.proofs.lemmas.Int.{to_z-of_z}
use Rattle.srs_num.specs.Points.{Point, LinearForm, IsFormSized, IsWithin, IsPointWithin}
use Rattle.srs_num.proofs.Ranges.{held, small_fits, dot_fits, within_product, within_sum}

-- what 128 bits hold of the product of two numbers that 64 bits hold, before it is cast
abbrev pub long_product : ℤ → ℤ → ℤ
long_product x y = held w128 (held w64 x *ℤ held w64 y)

-- the product of two numbers within 2^38
long_product_is : (x y : ℤ) → IsWithin (2 ^ 38) x → IsWithin (2 ^ 38) y → FitsSigned w128 (x *ℤ y) → long_product x y ≡ x *ℤ y
long_product_is x y hx hy product =
    let x64 : FitsSigned w64 x = small_fits w64 x (2 ^ 38) hx (lit< tt) in
    let y64 : FitsSigned w64 y = small_fits w64 y (2 ^ 38) hy (lit< tt) in
    simp to_z-of_z

-- a sum of three products of such numbers is held by 128 bits
pub record HeldShortDot (a b c p q d : ℤ) : Type 0 where
  pub two : FitsSigned w128 (long_product a p +ℤ long_product b q)
  pub all : FitsSigned w128 (held w128 (long_product a p +ℤ long_product b q) +ℤ long_product c d)
  pub value : held w128 (held w128 (long_product a p +ℤ long_product b q) +ℤ long_product c d) ≡ a *ℤ p +ℤ b *ℤ q +ℤ c *ℤ d

pub held_short_dot : (f : LinearForm) (p q d : ℤ) → IsFormSized f → IsWithin (2 ^ 38) p → IsWithin (2 ^ 38) q → IsWithin (2 ^ 38) d → HeldShortDot f.a f.b f.c p q d
held_short_dot f p q d sized hp hq hd =
    let fits = dot_fits f.a f.b f.c p q d (2 ^ 38) (2 ^ 38) sized.a_range sized.b_range sized.c_range hp hq hd (lit< tt) in
    let x = long_product_is f.a p sized.a_range hp fits.first in
    let y = long_product_is f.b q sized.b_range hq fits.second in
    let z = long_product_is f.c d sized.c_range hd fits.third in
    let same : held w128 (f.a *ℤ p +ℤ f.b *ℤ q) ≡ f.a *ℤ p +ℤ f.b *ℤ q = to_z-of_z w128 _ fits.two in
    record { two = rw (x, y) fits.two; all = rw (x, y, z, same) fits.all; value = rw (x, y, z, same) (to_z-of_z w128 _ fits.all) }

-- the value of a pair at a point, without the constant: all in 64 bits
pub record ShortValue (p q a b : ℤ) : Type 0 where
  pub p64 : FitsSigned w64 p
  pub p128 : FitsSigned w128 p
  pub q64 : FitsSigned w64 q
  pub q128 : FitsSigned w128 q
  pub a64 : FitsSigned w64 a
  pub b64 : FitsSigned w64 b
  pub first : FitsSigned w64 (p *ℤ a)
  pub second : FitsSigned w64 (q *ℤ b)
  pub all : FitsSigned w64 (p *ℤ a +ℤ q *ℤ b)

pub short_value_of : (r : Point) (p q a b : ℤ) → IsPointWithin (2 ^ 38) r → p ≡ r.p → q ≡ r.q → IsWithin (2 ^ 20) a → IsWithin (2 ^ 20) b → ShortValue p q a b
short_value_of r p q a b sized e f ha hb =
    let hp : IsWithin (2 ^ 38) p = rw e sized.p_range in
    let hq : IsWithin (2 ^ 38) q = rw f sized.q_range in
    let x = within_product p a (2 ^ 38) (2 ^ 20) hp ha in
    let y = within_product q b (2 ^ 38) (2 ^ 20) hq hb in
    record {
      p64 = small_fits w64 p (2 ^ 38) hp (lit< tt);
      p128 = small_fits w128 p (2 ^ 38) hp (lit< tt);
      q64 = small_fits w64 q (2 ^ 38) hq (lit< tt);
      q128 = small_fits w128 q (2 ^ 38) hq (lit< tt);
      a64 = small_fits w64 a (2 ^ 20) ha (lit< tt);
      b64 = small_fits w64 b (2 ^ 20) hb (lit< tt);
      first = small_fits w64 _ (2 ^ 38 * 2 ^ 20) x (lit< tt);
      second = small_fits w64 _ (2 ^ 38 * 2 ^ 20) y (lit< tt);
      all = small_fits w64 _ (2 ^ 38 * 2 ^ 20 + 2 ^ 38 * 2 ^ 20) (within_sum (p *ℤ a) (q *ℤ b) _ _ x y) (lit< tt);
    }
