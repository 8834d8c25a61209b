-- Points with rational coordinates, and linear forms. Whole numbers have no bound here.
use Rattle.std.specs.Prelude.{ℕ, ◌≤◌, ℤ, pos, neg_ℤ, ◌+ℤ◌, ◌*ℤ◌, ◌≤ℤ◌, unsigned_abs}
use Rattle.srs_num.specs.declared.forms.TheConstants.{MOST_COEFFICIENT}
use Rattle.srs_num.specs.declared.points.TheConstants.{MOST_DENOMINATOR, MOST_NUMERATOR}

-- three numbers that stand for (p / d, q / d)
pub record Point : Type 0 where
  pub p : ℤ
  pub q : ℤ
  pub d : ℤ

-- the denominator is at least 1
abbrev pub IsPoint : Point → Type 0
IsPoint r = pos 1 ≤ℤ r.d

-- the linear form a*x + b*y + c
pub record LinearForm : Type 0 where
  pub a : ℤ
  pub b : ℤ
  pub c : ℤ

-- d times what the form is at (p / d, q / d)
unfoldable pub value : LinearForm → Point → ℤ
value f r = f.a *ℤ r.p +ℤ f.b *ℤ r.q +ℤ f.c *ℤ r.d

-- all three numbers negated
unfoldable pub opposite : LinearForm → LinearForm
opposite f = record { a = neg_ℤ f.a; b = neg_ℤ f.b; c = neg_ℤ f.c }

-- |p / d| <= 4 and |q / d| <= 4
pub record IsNear (r : Point) : Type 0 where
  pub p_low : neg_ℤ (pos 4 *ℤ r.d) ≤ℤ r.p
  pub p_high : r.p ≤ℤ (pos 4 *ℤ r.d)
  pub q_low : neg_ℤ (pos 4 *ℤ r.d) ≤ℤ r.q
  pub q_high : r.q ≤ℤ (pos 4 *ℤ r.d)

-- the magnitude of z is at most m
abbrev pub IsWithin : ℕ → ℤ → Type 0
IsWithin m z = unsigned_abs z ≤ m

-- what a `Form` keeps: its numbers are within the most that they may be
pub record IsFormSized (f : LinearForm) : Type 0 where
  pub a_range : IsWithin MOST_COEFFICIENT f.a
  pub b_range : IsWithin MOST_COEFFICIENT f.b
  pub c_range : IsWithin MOST_COEFFICIENT f.c

-- what a `Pt` keeps: a denominator and numerators that are within the most that they may be
pub record IsPtSized (r : Point) : Type 0 where
  pub is_point : IsPoint r
  pub d_range : IsWithin MOST_DENOMINATOR r.d
  pub p_range : IsWithin MOST_NUMERATOR r.p
  pub q_range : IsWithin MOST_NUMERATOR r.q

-- a point whose three numbers are within m
pub record IsPointWithin (m : ℕ) (r : Point) : Type 0 where
  pub is_point : IsPoint r
  pub d_range : IsWithin m r.d
  pub p_range : IsWithin m r.p
  pub q_range : IsWithin m r.q
