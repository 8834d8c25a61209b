-- The floors over some corners, one corner after another.
use Rattle.std.proofs.Common.{◌≡◌, inl, inr, ℕ, ◌+◌, ◌*◌, ◌<◌, List, [], length, take, get_or, ℤ, pos, negsuc, neg_ℤ, ◌+ℤ◌, ◌*ℤ◌, ◌≤ℤ◌, ◌<ℤ◌, All, refl, sym, ◌∙◌, ap, subst, arith}
use Rattle.std.specs.List.{Contains}
use Rattle.std.proofs.lemmas.Int.{ints}
use Rattle.std.proofs.lemmas.List.Elements.{All-nil, All-more, All-take, All-contains}
use Rattle.srs_num.specs.declared.pairs.V2.{V2}
use Rattle.srs_num.specs.Points.{Point, LinearForm, value, opposite, IsPoint, IsNear, IsWithin, IsPointWithin}
use Rattle.srs_num.specs.Floor.{IsFloor}
use Rattle.srs_num.proofs.Linear.{linear, nonneg_of_positive, mul_mono}
use Rattle.srs_num.proofs.Ranges.{within_product, within_sum}
use Rattle.srs_num.proofs.Identities.{value-opposite}
use Rattle.srs_map.proofs.FormStep.{value-flat}
use Rattle.srs_cell.specs.Floors.{form_of, IsFloorBelow, AreFloorsBelow, IsRatioWithin, AreFloorsOf, IsLesserFloor, AreLessened}
use Rattle.srs_cell.specs.declared.floors.Floors.{Floors}

-- the value of a pair with entries within m at a near point
pub value_near : (m : ℕ) (w : V2) (c : Point) → IsPoint c → IsNear c → IsWithin m w.a → IsWithin m w.b → IsRatioWithin (8 * m) (value (form_of w) c) c.d
value_near m w c h near a b =
    let r = by_sign c.p c.q c.d h near.p_low near.p_high near.q_low near.q_high in
    subst (λ n. IsRatioWithin (8 * m) n c.d) (sym (value-flat w.a w.b c)) r
  where
    coordinate : (d : ℕ) (p : ℤ) → neg_ℤ (pos 4 *ℤ pos d) ≤ℤ p → p ≤ℤ (pos 4 *ℤ pos d) → IsWithin (4 * d) p
    coordinate d p low high = omega (arith, ints)

    bounds : (m d : ℕ) (s : ℤ) → IsWithin (4 * d * m + 4 * d * m) s → (neg_ℤ (pos (8 * m) *ℤ pos d) ≤ℤ s) × (s ≤ℤ (pos (8 * m) *ℤ pos d))
    bounds m d s h = (omega (arith, ints), omega (arith, ints))

    by_sign : (p q d : ℤ) → pos 1 ≤ℤ d → neg_ℤ (pos 4 *ℤ d) ≤ℤ p → p ≤ℤ (pos 4 *ℤ d) → neg_ℤ (pos 4 *ℤ d) ≤ℤ q → q ≤ℤ (pos 4 *ℤ d) → IsRatioWithin (8 * m) (p *ℤ w.a +ℤ q *ℤ w.b) d
    by_sign p q (pos d) h p1 p2 q1 q2 =
        let n = 4 * d * m in
        let s : IsWithin (n + n) (p *ℤ w.a +ℤ q *ℤ w.b) =
        within_sum (p *ℤ w.a) (q *ℤ w.b) n n (within_product p w.a (4 * d) m (coordinate d p p1 p2) a) (within_product q w.b (4 * d) m (coordinate d q q1 q2) b) in
        let t = bounds m d (p *ℤ w.a +ℤ q *ℤ w.b) s in
        record { positive = h; low = t.0; high = t.1 }
    by_sign p q (negsuc d) h p1 p2 q1 q2 = absurd (omega (arith, ints))

-- the value of a pair at one of the corners
pub corner_ratio : (m s : ℕ) (cs : List Point) (w : V2) (c : Point) (n d : ℤ) → All IsNear cs → All (IsPointWithin s) cs → IsWithin m w.a → IsWithin m w.b → Contains cs c
    → n ≡ value (form_of w) c → d ≡ c.d → IsRatioWithin (8 * m) n d × IsWithin s d
corner_ratio m s cs w c n d near sized a b among en ed =
    let z = All-contains (IsPointWithin s) cs c sized among in (
      subst (λ x. IsRatioWithin (8 * m) x d) (sym en) (subst (λ x. IsRatioWithin (8 * m) (value (form_of w) c) x) (sym ed) (value_near m w c z.is_point (All-contains IsNear cs c near among) a b)),
      subst (IsWithin s) (sym ed) z.d_range,
    )

through : (a b c : ℤ) → a ≤ℤ b → b ≤ℤ c → a ≤ℤ c
through a b c h k = omega (arith, linear)

module _ (m : ℕ) (f : LinearForm) (cs : List Point) where
  one_floor : (g : LinearForm) (c : Point) (n k : ℤ) → Contains cs c → n ≡ value g c → n <ℤ (k *ℤ c.d +ℤ c.d) → IsFloorBelow g cs [] k
  one_floor g c n k among e h = record {
    bound = All-nil (λ e. (k *ℤ e.d) ≤ℤ value g e);
    taken = (c, among, subst (λ x. x <ℤ (k *ℤ c.d +ℤ c.d)) e h);
  }

  pub floors_begun : (c : Point) (n d : ℤ) (floors : Floors) → Contains cs c → n ≡ value f c → d ≡ c.d → AreFloorsOf m n d floors → AreFloorsBelow m f cs [] floors
  floors_begun c n d floors among en ed h = record {
    ahead = one_floor f c n floors.ahead among en (subst (λ x. n <ℤ (floors.ahead *ℤ x +ℤ x)) ed h.ahead.greatest);
    back = one_floor (opposite f) c (neg_ℤ n) floors.back among (ap neg_ℤ en ∙ sym (value-opposite f c)) (subst (λ x. neg_ℤ n <ℤ (floors.back *ℤ x +ℤ x)) ed h.back.greatest);
    ahead_range = h.ahead_range;
    back_range = h.back_range;
  }

  module _ (M : ℕ) (sized : All (IsPointWithin M) cs) (i : ℕ) (c : Point) (lt : i < length cs) (read : c ≡ get_or cs i c) where
    one_more : (g : LinearForm) (n least k : ℤ) → n ≡ value g c → IsFloorBelow g cs (take i cs) least → IsLesserFloor m n c.d least k → IsFloorBelow g cs (take (i + 1) cs) k
    one_more g n least k e b l = record {
      bound = All-more (λ x. (k *ℤ x.d) ≤ℤ value g x) cs i c lt
          (λ j d jt. through _ _ _ (mul_mono k least (get_or (take i cs) j d).d (nonneg_of_positive _ (All-take (IsPointWithin M) i cs sized j d jt).is_point) l.not_more) (b.bound j d jt))
          (rw (sym read) (subst (λ x. (k *ℤ c.d) ≤ℤ x) e l.not_above));
      taken = elim l.taken [
        | inl s ↦ subst (λ x. (z : Point) × Contains cs z × (value g z <ℤ (x *ℤ z.d +ℤ z.d))) (sym s) b.taken
        | inr t ↦ (c, (i, lt, sym read), subst (λ x. x <ℤ (k *ℤ c.d +ℤ c.d)) e t)
      ];
    }

    pub floors_more : (n d : ℤ) (old new : Floors) → n ≡ value f c → d ≡ c.d → AreFloorsBelow m f cs (take i cs) old → AreLessened m n d old new → AreFloorsBelow m f cs (take (i + 1) cs) new
    floors_more n d old new en ed b l = record {
      ahead = one_more f n old.ahead new.ahead en b.ahead (subst (λ x. IsLesserFloor m n x old.ahead new.ahead) ed l.ahead);
      back = one_more (opposite f) (neg_ℤ n) old.back new.back (ap neg_ℤ en ∙ sym (value-opposite f c)) b.back (subst (λ x. IsLesserFloor m (neg_ℤ n) x old.back new.back) ed l.back);
      ahead_range = l.ahead.range;
      back_range = l.back.range;
    }

-- the floors at the first corner
pub floors_first : (m : ℕ) (f : LinearForm) (cs : List Point) (M : ℕ) → All (IsPointWithin M) cs → (c : Point) → 0 < length cs → c ≡ get_or cs 0 c
    → (n d : ℤ) (floors : Floors) → n ≡ value f c → d ≡ c.d → AreFloorsOf m n d floors → AreFloorsBelow m f cs (take 1 cs) floors
floors_first m f cs M sized c lt read n d floors en ed h =
    floors_more m f cs M sized 0 c lt read n d floors floors en ed (floors_begun m f cs c n d floors (0, lt, sym read) en ed h)
    (record { ahead = same n floors.ahead h.ahead h.ahead_range; back = same (neg_ℤ n) floors.back h.back h.back_range })
  where
    least : (a : ℤ) → a ≤ℤ a
    least a = omega (arith, linear)

    same : (n k : ℤ) → IsFloor n d k → IsWithin m k → IsLesserFloor m n d k k
    same n k f r = record { not_above = f.not_above; not_more = least k; taken = inl refl; range = r }
