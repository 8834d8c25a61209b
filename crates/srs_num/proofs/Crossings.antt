-- Where two lines cross, by the three numbers of a crossing.
use Rattle.std.proofs.Common.{◌≡◌, ℕ, ◌^◌, ◌≤◌, ℤ, pos, ◌-ℤ◌, ◌*ℤ◌, neg_ℤ, ◌≤ℤ◌, ◌<ℤ◌, inl, inr, FitsSigned, w64, ap, ◌∙◌, arith, lit<, [], ◌∷◌}
use Rattle.std.specs.Int.{w128}
use Rattle.std.proofs.Math.Facts.{to_z-of_z}
use Rattle.srs_num.specs.Points.{LinearForm, Point, value, IsWithin, IsFormSized, IsPointWithin}
use Rattle.srs_num.specs.Lines.{meet, IsCrossing}
use Rattle.srs_num.proofs.Linear.{linear}
use Rattle.srs_num.proofs.Ring.{v, ◌⊗◌, ring}
use Rattle.srs_num.proofs.Ranges.{held, within_more, small_fits}
use Rattle.srs_num.proofs.Identities.{value-meet_first, value-meet_second, meet-d_turned}

-- a coefficient fits its type
pub coefficient_fits : (x : ℤ) → IsWithin (2 ^ 38) x → FitsSigned w64 x
coefficient_fits x h = small_fits w64 x (2 ^ 38) h (lit< tt)

abbrev pub point_at : ℤ → ℤ → ℤ → Point
point_at p q d = record { p = p; q = q; d = d }

-- three numbers, which are those of a crossing
pub record AreMinors (f g : LinearForm) (p q d : ℤ) : Type 0 where
  pub p_is : p ≡ f.b *ℤ g.c -ℤ f.c *ℤ g.b
  pub q_is : q ≡ f.c *ℤ g.a -ℤ f.a *ℤ g.c
  pub d_is : d ≡ f.a *ℤ g.b -ℤ f.b *ℤ g.a
  pub p_size : IsWithin (2 ^ 77) p
  pub q_size : IsWithin (2 ^ 77) q
  pub d_size : IsWithin (2 ^ 77) d

pub turn_is : (f g : LinearForm) (d : ℤ) → d ≡ f.a *ℤ g.b -ℤ f.b *ℤ g.a → d ≡ (meet f g).d
unfolding meet
turn_is f g d e = e

pub crossing_is : (f g : LinearForm) (p q d : ℤ) → AreMinors f g p q d → point_at p q d ≡ meet f g
unfolding meet
crossing_is f g p q d m = same p q d _ _ _ m.p_is m.q_is m.d_is
  where
    same : (p q d x y z : ℤ) → p ≡ x → q ≡ y → d ≡ z → point_at p q d ≡ point_at x y z
    same p q d x y z e f g = cc

pub crossing_sized : (f g : LinearForm) (p q d : ℤ) → AreMinors f g p q d → pos 0 <ℤ (meet f g).d → IsPointWithin (2 ^ 77) (point_at p q d)
crossing_sized f g p q d m up = record {
  is_point = deep d _ (turn_is f g d m.d_is) up;
  d_range = m.d_size;
  p_range = m.p_size;
  q_range = m.q_size;
}
  where
    deep : (a b : ℤ) → a ≡ b → pos 0 <ℤ b → pos 1 ≤ℤ a
    deep a b e h = omega (arith, linear)

-- the three minors, as they are computed of the numbers of the two forms
pub minors_of : (f g : LinearForm) (fa fb fc ga gb gc p q d : ℤ) → IsFormSized f → IsFormSized g
    → fa ≡ f.a → fb ≡ f.b → fc ≡ f.c → ga ≡ g.a → gb ≡ g.b → gc ≡ g.c
    → p ≡ held w64 fb *ℤ held w64 gc -ℤ held w64 fc *ℤ held w64 gb → q ≡ held w64 fc *ℤ held w64 ga -ℤ held w64 fa *ℤ held w64 gc → d ≡ held w64 fa *ℤ held w64 gb -ℤ held w64 fb *ℤ held w64 ga
    → IsWithin (2 ^ 77) p → IsWithin (2 ^ 77) q → IsWithin (2 ^ 77) d → AreMinors f g p q d
minors_of f g fa fb fc ga gb gc p q d sf sg efa efb efc ega egb egc ep eq ed hp hq hd =
    let ha : FitsSigned w64 f.a = coefficient_fits _ sf.a_range in
    let hb : FitsSigned w64 f.b = coefficient_fits _ sf.b_range in
    let hc : FitsSigned w64 f.c = coefficient_fits _ sf.c_range in
    let ka : FitsSigned w64 g.a = coefficient_fits _ sg.a_range in
    let kb : FitsSigned w64 g.b = coefficient_fits _ sg.b_range in
    let kc : FitsSigned w64 g.c = coefficient_fits _ sg.c_range in
    record {
      p_is = simp (efb, efc, egb, egc, to_z-of_z hb, to_z-of_z hc, to_z-of_z kb, to_z-of_z kc) at ep;
      q_is = simp (efa, efc, ega, egc, to_z-of_z ha, to_z-of_z hc, to_z-of_z ka, to_z-of_z kc) at eq;
      d_is = simp (efa, efb, ega, egb, to_z-of_z ha, to_z-of_z hb, to_z-of_z ka, to_z-of_z kb) at ed;
      p_size = hp;
      q_size = hq;
      d_size = hd;
    }

-- the crossing, of the minors as 128 bits hold them
pub record IsCrossingOf (f g : LinearForm) (r : Point) : Type 0 where
  pub value : r ≡ meet f g
  pub sized : IsPointWithin (2 ^ 77) r

pub crossing_held : (f g : LinearForm) (p q d : ℤ) (r : Point) → AreMinors f g p q d → pos 0 <ℤ (meet f g).d
    → r ≡ point_at (held w128 p) (held w128 q) (held w128 d) → IsCrossingOf f g r
crossing_held f g p q d r m up e =
    let hp : FitsSigned w128 p = small_fits w128 p (2 ^ 77) m.p_size (lit< tt) in
    let hq : FitsSigned w128 q = small_fits w128 q (2 ^ 77) m.q_size (lit< tt) in
    let hd : FitsSigned w128 d = small_fits w128 d (2 ^ 77) m.d_size (lit< tt) in
    let k : r ≡ point_at p q d = simp (to_z-of_z hp, to_z-of_z hq, to_z-of_z hd) at e in
    record {
      value = k ∙ crossing_is f g p q d m;
      sized = rw k (crossing_sized f g p q d m up);
    }

pub sized_more : (m n : ℕ) (r : Point) → IsPointWithin m r → m ≤ n → IsPointWithin n r
sized_more m n r h k = record {
  is_point = h.is_point;
  d_range = within_more r.d m n h.d_range k;
  p_range = within_more r.p m n h.p_range k;
  q_range = within_more r.q m n h.q_range k;
}

pub crossing_first : (f g : LinearForm) (c : Point) → c ≡ meet f g → IsPointWithin (2 ^ 77) c → IsCrossing f g c
crossing_first f g c e s = record { first = ap (value f) e ∙ value-meet_first f g; second = ap (value g) e ∙ value-meet_second f g; sized = s; way = inl e }

pub crossing_second : (f g : LinearForm) (c : Point) → c ≡ meet g f → IsPointWithin (2 ^ 77) c → IsCrossing f g c
crossing_second f g c e s = record { first = ap (value f) e ∙ value-meet_second g f; second = ap (value g) e ∙ value-meet_first g f; sized = s; way = inr e }

pub turned_up : (f g : LinearForm) (t : ℤ) → t ≡ (meet f g).d → t <ℤ pos 0 → pos 0 <ℤ (meet g f).d
turned_up f g t e h = up t (meet f g).d (meet g f).d e (meet-d_turned g f) h
  where
    up : (t a b : ℤ) → t ≡ a → b ≡ neg_ℤ a → t <ℤ pos 0 → pos 0 <ℤ b
    up t a b e f h = omega (arith, linear)

-- the lines are parallel exactly where they don't turn
pub parallel : (f g : LinearForm) (t : ℤ) → t ≡ (meet f g).d → t ≡ pos 0 → f.a *ℤ g.b ≡ g.a *ℤ f.b
unfolding meet
parallel f g t e z = even (f.a *ℤ g.b) (f.b *ℤ g.a) (g.a *ℤ f.b) t e z (ring (f.b ∷ g.a ∷ []) (v 0 ⊗ v 1) (v 1 ⊗ v 0) tt)
  where
    even : (x y y' d : ℤ) → d ≡ x -ℤ y → d ≡ pos 0 → y ≡ y' → x ≡ y'
    even x y y' d e z s = omega (arith, linear)

pub not_parallel : (f g : LinearForm) (t : ℤ) → t ≡ (meet f g).d → f.a *ℤ g.b ≡ g.a *ℤ f.b → t ≡ pos 0
unfolding meet
not_parallel f g t e z = even (f.a *ℤ g.b) (f.b *ℤ g.a) (g.a *ℤ f.b) t e z (ring (f.b ∷ g.a ∷ []) (v 0 ⊗ v 1) (v 1 ⊗ v 0) tt)
  where
    even : (x y y' d : ℤ) → d ≡ x -ℤ y → x ≡ y' → y ≡ y' → d ≡ pos 0
    even x y y' d e z s = omega (arith, linear)

pub above_not : (t : ℤ) → pos 0 <ℤ t → t ≡ pos 0 → ⊥
above_not t h e = omega (arith, linear)

pub below_not : (t : ℤ) → t <ℤ pos 0 → t ≡ pos 0 → ⊥
below_not t h e = omega (arith, linear)

pub neither : (t : ℤ) → t ≤ℤ pos 0 → pos 0 ≤ℤ t → t ≡ pos 0
neither t h k = omega (arith, linear)
