-- The corners at which a form is least, and their sum.
use Rattle.std.proofs.Common.{◌≡◌, ℕ, ◌+◌, ◌^◌, ◌<◌, ◌≤◌, List, [], ◌∷◌, length, take, take_all, get_or, ℤ, pos, ◌+ℤ◌, ◌-ℤ◌, ◌*ℤ◌, ◌≤ℤ◌, ◌<ℤ◌, All, Bool, false, IsTrue, refl, sym, ap, ap₂, ◌∙◌, arith, FitsSigned, lit<}
use Rattle.std.specs.Int.{w128}
use Rattle.srs_num.proofs.Ranges.{small_fits}
use Rattle.std.specs.List.{Contains}
use Rattle.std.proofs.lemmas.Int.{by_lt_z}
use Rattle.std.proofs.lemmas.Bool.{false≢true}
use Rattle.std.proofs.lemmas.List.Elements.{All-nil, All-more, All-contains, All-take}
use Rattle.srs_num.specs.Points.{LinearForm, Point, value, IsPointWithin}
use Rattle.srs_num.specs.Lines.{plus}
use Rattle.srs_num.proofs.Linear.{linear, nonneg_of_positive, mul_nonneg, nonneg_from}
use Rattle.srs_num.proofs.Ring.{v, ◌⊕◌, ◌⊖◌, ◌⊗◌, ring}
use Rattle.srs_num.proofs.Identities.{value-plus}
use Rattle.srs_cell.specs.Bounds.{IsLower, IsLeast, IsLeastCorner, IsLeastSum}

not_above : (a b : ℤ) → a <ℤ b → a ≤ℤ b
not_above a b h = omega (arith, linear)

not_less : (a b : ℤ) → (a <ℤ b → ⊥) → b ≤ℤ a
not_less a b n = by_lt_z a b (λ h. absurd (n h)) (λ h. h)

-- a/d <= b/e <= c/g
pub quotient_through : (a d b e c g : ℤ) → pos 1 ≤ℤ d → pos 1 ≤ℤ e → pos 1 ≤ℤ g → (a *ℤ e) ≤ℤ (b *ℤ d) → (b *ℤ g) ≤ℤ (c *ℤ e) → (a *ℤ g) ≤ℤ (c *ℤ d)
quotient_through a d b e c g hd he hg h k =
    let first = mul_nonneg g (b *ℤ d -ℤ a *ℤ e) (nonneg_of_positive g hg) (gap _ _ h) in
    let second = mul_nonneg d (c *ℤ e -ℤ b *ℤ g) (nonneg_of_positive d hd) (gap _ _ k) in
    let sum = ring (a ∷ d ∷ b ∷ e ∷ c ∷ g ∷ []) (v 5 ⊗ (v 2 ⊗ v 1 ⊖ v 0 ⊗ v 3) ⊕ v 1 ⊗ (v 4 ⊗ v 3 ⊖ v 2 ⊗ v 5)) (v 3 ⊗ (v 4 ⊗ v 1 ⊖ v 0 ⊗ v 5)) tt in
    closed _ _ (nonneg_from e _ (above e he) (add _ _ _ sum first second))
  where
    above : (a : ℤ) → pos 1 ≤ℤ a → pos 0 <ℤ a
    above a h = omega (arith, linear)

    gap : (a b : ℤ) → a ≤ℤ b → pos 0 ≤ℤ (b -ℤ a)
    gap a b h = omega (arith, linear)

    add : (a b s : ℤ) → a +ℤ b ≡ s → pos 0 ≤ℤ a → pos 0 ≤ℤ b → pos 0 ≤ℤ s
    add a b s e h k = omega (arith, linear)

    closed : (a b : ℤ) → pos 0 ≤ℤ (b -ℤ a) → a ≤ℤ b
    closed a b h = omega (arith, linear)

module _ (f : LinearForm) (cs : List Point) (sized : All (IsPointWithin (2 ^ 77)) cs) (i : ℕ) (c : Point) (lt : i < length cs) (read : c ≡ get_or cs i c) where
  -- the corner number i
  pub member : Contains cs c
  member = (i, lt, sym read)

  -- the corner number i isn't less
  pub least_stays : (e : Point) → IsLeast f (take i cs) e → (IsLower f c e → ⊥) → IsLeast f (take (i + 1) cs) e
  least_stays e least off =
      All-more (λ x. (value f e *ℤ x.d) ≤ℤ (value f x *ℤ e.d)) cs i c lt least
      (rw (sym read) (not_less _ _ off))

  -- the corner number i is less
  pub least_moves : (e : Point) → Contains cs e → IsLeast f (take i cs) e → IsLower f c e → IsLeast f (take (i + 1) cs) c
  least_moves e e_in least low =
      let c_deep = (All-contains (IsPointWithin (2 ^ 77)) cs c sized member).is_point in
      let e_deep = (All-contains (IsPointWithin (2 ^ 77)) cs e sized e_in).is_point in
      All-more (λ x. (value f c *ℤ x.d) ≤ℤ (value f x *ℤ c.d)) cs i c lt
      (λ j d jt. quotient_through (value f c) c.d (value f e) e.d _ _ c_deep e_deep
      (All-take (IsPointWithin (2 ^ 77)) i cs sized j d jt).is_point (not_above _ _ low) (least j d jt))
      (rw (sym read) (same (value f c *ℤ c.d)))
    where
      same : (a : ℤ) → a ≤ℤ a
      same a = omega (arith, linear)

-- the first corner is the least of itself alone
pub least_first : (f : LinearForm) (cs : List Point) (c : Point) → 0 < length cs → c ≡ get_or cs 0 c → IsLeast f (take 1 cs) c
least_first f cs c lt read =
    let P : Point → Type 0 = λ x. (value f c *ℤ x.d) ≤ℤ (value f x *ℤ c.d) in
    All-more P cs 0 c lt (All-nil P) (rw (sym read) (same (value f c *ℤ c.d)))
  where
    same : (a : ℤ) → a ≤ℤ a
    same a = omega (arith, linear)

pub least_all : (f : LinearForm) (cs : List Point) (i : ℕ) (c : Point) → length cs ≤ i → Contains cs c → IsLeast f (take i cs) c → IsLeastCorner f cs c
least_all f cs i c h among least = record { among = among; least = rw (take_all i cs h) at least }

plus-d : (u w : Point) → (plus u w).d ≡ u.d +ℤ w.d
unfolding plus
plus-d u w = refl

module _ (f : LinearForm) (cs : List Point) (i : ℕ) (c total e : Point) (lt : i < length cs) (read : e ≡ get_or cs i e) (sum : IsLeastSum f cs (take i cs) c total) where
  -- the corner number i is greater
  pub sum_stays : IsLower f c e → IsLeastSum f cs (take (i + 1) cs) c total
  sum_stays low = record {
    same = sum.same;
    is_point = sum.is_point;
    above = sum.above;
    parts = λ k above.
        All-more (λ x. (value f x *ℤ c.d) ≤ℤ (value f c *ℤ x.d) → value k x ≤ℤ value k total) cs i e lt (sum.parts k above)
        (rw (sym read) (λ high. absurd (clash _ _ low high)));
  }
    where
      clash : (a b : ℤ) → a <ℤ b → b ≤ℤ a → ⊥
      clash a b h k = omega (arith, linear)

  -- the corner number i takes the least value too
  pub sum_grows : All (IsPointWithin (2 ^ 77)) cs → IsLeastCorner f cs c → (IsLower f c e → ⊥) → IsLeastSum f cs (take (i + 1) cs) c (plus total e)
  sum_grows sized corner off =
      let e_in : Contains cs e = (i, lt, sym read) in
      record {
        same = both _ _ _ _ _ (value f c) _ (value-plus f total e) (plus-d total e) sum.same (even _ _ (not_less _ _ off) (All-contains (λ x. (value f c *ℤ x.d) ≤ℤ (value f x *ℤ c.d)) cs e corner.least e_in));
        is_point = deeper _ _ _ (plus-d total e) sum.is_point (All-contains (IsPointWithin (2 ^ 77)) cs e sized e_in).is_point;
        above = λ k up. add _ _ _ (value-plus k total e) (sum.above k up) (All-contains (λ x. pos 0 ≤ℤ value k x) cs e up e_in);
        parts = λ k above.
            let total_up = sum.above k above in
            let e_up = All-contains (λ x. pos 0 ≤ℤ value k x) cs e above e_in in
            All-more (λ x. (value f x *ℤ c.d) ≤ℤ (value f c *ℤ x.d) → value k x ≤ℤ value k (plus total e)) cs i e lt
            (λ j d jt h. grown _ _ _ _ (value-plus k total e) (sum.parts k above j d jt h) e_up)
            (rw (sym read) (λ _. first _ _ _ (value-plus k total e) total_up));
      }
    where
      even : (a b : ℤ) → a ≤ℤ b → b ≤ℤ a → a ≡ b
      even a b h k = omega (arith, linear)

      both : (t s u d g w n : ℤ) → s ≡ t +ℤ u → n ≡ d +ℤ g → t *ℤ c.d ≡ w *ℤ d → u *ℤ c.d ≡ w *ℤ g → s *ℤ c.d ≡ w *ℤ n
      both t s u d g w n a b h k =
          ap (λ x. x *ℤ c.d) a ∙ ring (t ∷ u ∷ c.d ∷ []) ((v 0 ⊕ v 1) ⊗ v 2) (v 0 ⊗ v 2 ⊕ v 1 ⊗ v 2) tt ∙ ap₂ ◌+ℤ◌ h k
          ∙ ring (w ∷ d ∷ g ∷ []) (v 0 ⊗ v 1 ⊕ v 0 ⊗ v 2) (v 0 ⊗ (v 1 ⊕ v 2)) tt ∙ ap (λ x. w *ℤ x) (sym b)

      deeper : (r a b : ℤ) → r ≡ a +ℤ b → pos 1 ≤ℤ a → pos 1 ≤ℤ b → pos 1 ≤ℤ r
      deeper r a b e h k = omega (arith, linear)

      add : (r a b : ℤ) → r ≡ a +ℤ b → pos 0 ≤ℤ a → pos 0 ≤ℤ b → pos 0 ≤ℤ r
      add r a b e h k = omega (arith, linear)

      grown : (x t r e : ℤ) → r ≡ t +ℤ e → x ≤ℤ t → pos 0 ≤ℤ e → x ≤ℤ r
      grown x t r e a h k = omega (arith, linear)

      first : (r t e : ℤ) → r ≡ t +ℤ e → pos 0 ≤ℤ t → e ≤ℤ r
      first r t e a h = omega (arith, linear)

pub sized_at : (cs : List Point) (i : ℕ) (c : Point) → i < length cs → c ≡ get_or cs i c → All (IsPointWithin (2 ^ 77)) cs → IsPointWithin (2 ^ 77) c
sized_at cs i c lt read sized = rw read (sized i c lt)

-- a test that came out false
pub no_test : {b : Bool} (P : Type 0) → (P → IsTrue b) → b ≡ false → P → ⊥
no_test P e off p = false≢true (sym off ∙ e p)

pub sized_among : (cs : List Point) (c : Point) → All (IsPointWithin (2 ^ 77)) cs → Contains cs c → IsPointWithin (2 ^ 77) c
sized_among cs c sized among = All-contains (IsPointWithin (2 ^ 77)) cs c sized among

pub denominator_fits : (d : ℤ) (c : Point) → d ≡ c.d → IsPointWithin (2 ^ 77) c → FitsSigned w128 d
denominator_fits d c e sized = rw e (small_fits w128 c.d (2 ^ 77) sized.d_range (lit< tt))

pub not_up_to : (a b : ℤ) → (a ≤ℤ b → ⊥) → b <ℤ a
not_up_to a b n = by_lt_z b a (λ h. h) (λ h. absurd (n h))

-- the values and the depths at two corners, by other names
lt_by : (a b x y : ℤ) → a ≡ x → b ≡ y → a <ℤ b → x <ℤ y
lt_by a b x y e g h = omega (arith, linear)

module _ (f : LinearForm) (c e : Point) (n d m g : ℤ) (value_c : n ≡ value f c) (depth_c : d ≡ c.d) (value_e : m ≡ value f e) (depth_e : g ≡ e.d) where
  pub lower_by : (n *ℤ g) <ℤ (m *ℤ d) → IsLower f c e
  lower_by h = lt_by _ _ _ _ (ap₂ ◌*ℤ◌ value_c depth_e) (ap₂ ◌*ℤ◌ value_e depth_c) h

  pub lower_to : IsLower f c e → (n *ℤ g) <ℤ (m *ℤ d)
  lower_to h = lt_by _ _ _ _ (sym (ap₂ ◌*ℤ◌ value_c depth_e)) (sym (ap₂ ◌*ℤ◌ value_e depth_c)) h

pub deep_by : (a b : ℤ) → a ≡ b → pos 1 ≤ℤ b → pos 1 ≤ℤ a
deep_by a b e h = omega (arith, linear)
