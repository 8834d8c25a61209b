-- Magnitudes of sums, differences and products, and that they fit.
use Rattle.std.proofs.Common.{◌≡◌, ℕ, ◌+◌, ◌-◌, ◌*◌, ◌^◌, ◌<◌, ◌≤◌, ℤ, pos, ◌+ℤ◌, ◌-ℤ◌, ◌*ℤ◌, neg_ℤ, ◌≤ℤ◌, unsigned_abs, FitsSigned, w64, sym, ap, ap₂, ◌∙◌, subst, arith, mul-le-mul, lit<}
use Rattle.std.proofs.lemmas.Int.{ints, unsigned_abs-mul, fits_signed_from_abs, to_z-of_z}
use Rattle.std.specs.Int.{w128, Width}
use Rattle.srs_num.specs.Points.{IsWithin}
use mir.Val.{hbits, to_z, of_z}

-- the number that a word of this width holds of this one
abbrev pub held : Width → ℤ → ℤ
held w z = to_z w (of_z w z)

pub within_product : (a b : ℤ) (m n : ℕ) → IsWithin m a → IsWithin n b → IsWithin (m * n) (a *ℤ b)
within_product a b m n h k = rw (unsigned_abs-mul a b) (mul-le-mul h k)

pub within_sum : (a b : ℤ) (m n : ℕ) → IsWithin m a → IsWithin n b → IsWithin (m + n) (a +ℤ b)
within_sum a b m n h k = omega (arith, ints)

pub within_difference : (a b : ℤ) (m n : ℕ) → IsWithin m a → IsWithin n b → IsWithin (m + n) (a -ℤ b)
within_difference a b m n h k = omega (arith, ints)

pub within_opposite : (a : ℤ) (m : ℕ) → IsWithin m a → IsWithin m (neg_ℤ a)
within_opposite a m h = omega (arith, ints)

-- three products and their sum, in 128 bits
pub record DotFits (a b c p q d : ℤ) : Type 0 where
  pub first : FitsSigned w128 (a *ℤ p)
  pub second : FitsSigned w128 (b *ℤ q)
  pub third : FitsSigned w128 (c *ℤ d)
  pub two : FitsSigned w128 (a *ℤ p +ℤ b *ℤ q)
  pub all : FitsSigned w128 (a *ℤ p +ℤ b *ℤ q +ℤ c *ℤ d)

pub dot_fits : (a b c p q d : ℤ) (m n : ℕ) → IsWithin m a → IsWithin m b → IsWithin m c → IsWithin n p → IsWithin n q → IsWithin n d
    → 3 * (m * n) < 2 ^ 127 → DotFits a b c p q d
dot_fits a b c p q d m n ha hb hc hp hq hd lt =
    let x = within_product a p m n ha hp in
    let y = within_product b q m n hb hq in
    let z = within_product c d m n hc hd in
    let xy = within_sum (a *ℤ p) (b *ℤ q) (m * n) (m * n) x y in
    let xyz = within_sum (a *ℤ p +ℤ b *ℤ q) (c *ℤ d) (m * n + m * n) (m * n) xy z in
    record {
      first = fits_signed_from_abs w128 _ (below (m * n) (m * n) (unsigned_abs (a *ℤ p)) x (omega arith) lt);
      second = fits_signed_from_abs w128 _ (below (m * n) (m * n) (unsigned_abs (b *ℤ q)) y (omega arith) lt);
      third = fits_signed_from_abs w128 _ (below (m * n) (m * n) (unsigned_abs (c *ℤ d)) z (omega arith) lt);
      two = fits_signed_from_abs w128 _ (below (m * n) (m * n + m * n) (unsigned_abs (a *ℤ p +ℤ b *ℤ q)) xy (omega arith) lt);
      all = fits_signed_from_abs w128 _ (below (m * n) (m * n + m * n + m * n) (unsigned_abs (a *ℤ p +ℤ b *ℤ q +ℤ c *ℤ d)) xyz (omega arith) lt);
    }
  where
    below : (k j x : ℕ) → x ≤ j → j ≤ 3 * k → 3 * k < 2 ^ 127 → x < 2 ^ hbits w128
    below k j x h i l = omega arith

pub within_more : (z : ℤ) (m n : ℕ) → IsWithin m z → m ≤ n → IsWithin n z
within_more z m n h k = omega arith

pub small_fits : (w : Width) (z : ℤ) (m : ℕ) → IsWithin m z → m < 2 ^ hbits w → FitsSigned w z
small_fits w z m h k = fits_signed_from_abs w z (omega arith)

-- the value of a form at a point, step by step: the numbers of the form in 64 and in 128 bits, those
-- of the point in 128 bits, and the products and their sum
pub record DotSteps (a b c p q d : ℤ) : Type 0 where
  pub a64 : FitsSigned w64 a
  pub a128 : FitsSigned w128 a
  pub b64 : FitsSigned w64 b
  pub b128 : FitsSigned w128 b
  pub c64 : FitsSigned w64 c
  pub c128 : FitsSigned w128 c
  pub p128 : FitsSigned w128 p
  pub q128 : FitsSigned w128 q
  pub d128 : FitsSigned w128 d
  pub first : FitsSigned w128 (a *ℤ p)
  pub second : FitsSigned w128 (b *ℤ q)
  pub third : FitsSigned w128 (c *ℤ d)
  pub two : FitsSigned w128 (a *ℤ p +ℤ b *ℤ q)
  pub all : FitsSigned w128 (a *ℤ p +ℤ b *ℤ q +ℤ c *ℤ d)

pub dot_steps : (a b c p q d : ℤ) → IsWithin (2 ^ 38) a → IsWithin (2 ^ 38) b → IsWithin (2 ^ 38) c → IsWithin (2 ^ 84 - 1) p → IsWithin (2 ^ 84 - 1) q → IsWithin (2 ^ 84 - 1) d → DotSteps a b c p q d
dot_steps a b c p q d ha hb hc hp hq hd =
    let fits = dot_fits a b c p q d (2 ^ 38) (2 ^ 84 - 1) ha hb hc hp hq hd (lit< tt) in
    record {
      a64 = small_fits w64 a (2 ^ 38) ha (lit< tt);
      a128 = small_fits w128 a (2 ^ 38) ha (lit< tt);
      b64 = small_fits w64 b (2 ^ 38) hb (lit< tt);
      b128 = small_fits w128 b (2 ^ 38) hb (lit< tt);
      c64 = small_fits w64 c (2 ^ 38) hc (lit< tt);
      c128 = small_fits w128 c (2 ^ 38) hc (lit< tt);
      p128 = small_fits w128 p (2 ^ 84 - 1) hp (lit< tt);
      q128 = small_fits w128 q (2 ^ 84 - 1) hq (lit< tt);
      d128 = small_fits w128 d (2 ^ 84 - 1) hd (lit< tt);
      first = fits.first;
      second = fits.second;
      third = fits.third;
      two = fits.two;
      all = fits.all;
    }

-- what a word of the width w holds of two factors and of their product
pub record HeldFactors (w : Width) (x y : ℤ) : Type 0 where
  pub fits : FitsSigned w (held w x *ℤ held w y)
  pub value : held w (held w x *ℤ held w y) ≡ x *ℤ y

pub held_factors : (w : Width) (x y : ℤ) (m n : ℕ) → IsWithin m x → IsWithin n y → m < 2 ^ hbits w → n < 2 ^ hbits w → m * n < 2 ^ hbits w → HeldFactors w x y
held_factors w x y m n hx hy lm ln lt =
    let first : FitsSigned w x = small_fits w x m hx lm in
    let second : FitsSigned w y = small_fits w y n hy ln in
    let product : FitsSigned w (x *ℤ y) = small_fits w (x *ℤ y) (m * n) (within_product x y m n hx hy) lt in
    record { fits = simp to_z-of_z product; value = simp to_z-of_z }

-- what 128 bits hold of the product of two numbers of 64 bits
abbrev pub wide_product : ℤ → ℤ → ℤ
wide_product x y = held w128 (held w128 (held w64 x) *ℤ held w128 (held w64 y))

-- the product of two numbers of a form is held
wide_product_is : (x y : ℤ) → IsWithin (2 ^ 38) x → IsWithin (2 ^ 38) y → wide_product x y ≡ x *ℤ y
wide_product_is x y hx hy =
    rw (to_z-of_z w64 x (small_fits w64 x _ hx (lit< tt)), to_z-of_z w64 y (small_fits w64 y _ hy (lit< tt)))
    (held_factors w128 x y (2 ^ 38) (2 ^ 38) hx hy (lit< tt) (lit< tt) (lit< tt)).value

-- a difference of two products of numbers of a form is held by 128 bits
pub record HeldMinor (a b c d : ℤ) : Type 0 where
  pub fits : FitsSigned w128 (wide_product a d -ℤ wide_product b c)
  pub value : held w128 (wide_product a d -ℤ wide_product b c) ≡ a *ℤ d -ℤ b *ℤ c
  pub size : IsWithin (2 ^ 77) (held w128 (wide_product a d -ℤ wide_product b c))

pub held_minor : (a b c d : ℤ) → IsWithin (2 ^ 38) a → IsWithin (2 ^ 38) b → IsWithin (2 ^ 38) c → IsWithin (2 ^ 38) d → HeldMinor a b c d
held_minor a b c d ha hb hc hd =
    let size : IsWithin (2 ^ 77) (a *ℤ d -ℤ b *ℤ c) =
    within_difference (a *ℤ d) (b *ℤ c) _ _ (within_product a d (2 ^ 38) (2 ^ 38) ha hd) (within_product b c (2 ^ 38) (2 ^ 38) hb hc) in
    let all : FitsSigned w128 (a *ℤ d -ℤ b *ℤ c) = small_fits w128 (a *ℤ d -ℤ b *ℤ c) _ size (lit< tt) in
    let same : wide_product a d -ℤ wide_product b c ≡ a *ℤ d -ℤ b *ℤ c = ap₂ (λ x y. x -ℤ y) (wide_product_is a d ha hd) (wide_product_is b c hb hc) in
    let value : held w128 (wide_product a d -ℤ wide_product b c) ≡ a *ℤ d -ℤ b *ℤ c = ap (held w128) same ∙ to_z-of_z w128 _ all in
    record { fits = subst (FitsSigned w128) (sym same) all; value = value; size = subst (IsWithin (2 ^ 77)) (sym value) size }

pub within_turned : (m : ℕ) (p : ℤ) → IsWithin m p → IsWithin m (pos 0 -ℤ p)
within_turned m p h = omega (arith, ints)

pub within_of : (m : ℕ) (z : ℤ) → neg_ℤ (pos m) ≤ℤ z → z ≤ℤ pos m → IsWithin m z
within_of m z h k = omega (arith, ints)
