-- What the corners tell of the points: whether there is one, the least value of a form, and whether a point takes it.
use Rattle.std.proofs.Common.{◌≡◌, List, [], ◌∷◌, get_or, ℤ, pos, negsuc, ◌+ℤ◌, ◌-ℤ◌, ◌*ℤ◌, neg_ℤ, ◌≤ℤ◌, ◌<ℤ◌, ◌⊎◌, All, refl, ap, ◌∙◌, arith, ⊎_elim}
use Rattle.std.proofs.lemmas.Int.{by_lt_z}
use Rattle.std.proofs.lemmas.List.Elements.{All-nil, All-cons, All-head, All-tail, All-weaker}
use Rattle.srs_num.specs.Points.{LinearForm, Point, value, opposite}
use Rattle.srs_num.proofs.Combinations.{combine, mix, depth}
use Rattle.srs_cell.specs.Hull.{IsInHalves, IsAbove, IsHull}
use Rattle.srs_num.specs.Lines.{sum_of}
use Rattle.srs_num.proofs.Linear.{linear, mul_zero, mul_one, mul_comm, mul_nonneg}
use Rattle.srs_num.proofs.Ring.{v, lit, ◌⊕◌, ◌⊖◌, ◌⊗◌, minus, ring}
use Rattle.srs_num.proofs.Identities.{value-combine, value-mix, value-depth, value-opposite, value-nothing, value-plus}

pub value-sum : (f : LinearForm) (c : Point) (cs : List Point) → value f (sum_of (c ∷ cs)) ≡ value f c +ℤ value f (sum_of cs)
unfolding sum_of
value-sum f c cs = value-plus f c (sum_of cs)

pub value-sum_none : (f : LinearForm) → value f (sum_of []) ≡ pos 0
unfolding sum_of
value-sum_none f = value-nothing f

-- a sum of numbers that are at least 0
pub sum_above : (f : LinearForm) (cs : List Point) → IsAbove f cs → pos 0 ≤ℤ value f (sum_of cs)
sum_above f [] h = from_zero _ (value-sum_none f)
  where
    from_zero : (a : ℤ) → a ≡ pos 0 → pos 0 ≤ℤ a
    from_zero a e = omega (arith, linear)
sum_above f (c ∷ cs) h =
    add _ _ _ (value-sum f c cs) (All-head (λ c. pos 0 ≤ℤ value f c) c cs h) (sum_above f cs (All-tail (λ c. pos 0 ≤ℤ value f c) c cs h))
  where
    add : (r a b : ℤ) → r ≡ a +ℤ b → pos 0 ≤ℤ a → pos 0 ≤ℤ b → pos 0 ≤ℤ r
    add r a b e h k = omega (arith, linear)

pub each_below : (f : LinearForm) (cs : List Point) → IsAbove f cs → All (λ c. value f c ≤ℤ value f (sum_of cs)) cs
each_below f [] h = All-nil (λ c. value f c ≤ℤ value f (sum_of []))
each_below f (c ∷ cs) h =
    let P : Point → Type 0 = λ c. pos 0 ≤ℤ value f c in
    let head = All-head P c cs h in
    let tail = All-tail P c cs h in
    let rest = sum_above f cs tail in
    let Q : Point → Type 0 = λ x. value f x ≤ℤ value f (sum_of (c ∷ cs)) in
    All-cons Q c cs (first _ _ _ (value-sum f c cs) rest)
    (All-weaker (λ x. value f x ≤ℤ value f (sum_of cs)) Q (λ x k. later _ _ _ _ (value-sum f c cs) head k) cs (each_below f cs tail))
  where
    first : (r a b : ℤ) → r ≡ a +ℤ b → pos 0 ≤ℤ b → a ≤ℤ r
    first r a b e k = omega (arith, linear)

    later : (x r a b : ℤ) → r ≡ a +ℤ b → pos 0 ≤ℤ a → x ≤ℤ b → x ≤ℤ r
    later x r a b e h k = omega (arith, linear)

-- where a point is strictly within a half, so is the sum of all corners
pub sum_strict : (hs : List LinearForm) (cs : List Point) (f : LinearForm) (z : Point) → IsHull hs cs → IsAbove f cs → IsInHalves hs z → pos 0 <ℤ value f z → pos 0 <ℤ value f (sum_of cs)
sum_strict hs cs f z hull above z_in up =
    by_lt_z (pos 0) (value f (sum_of cs)) (λ h. h)
    (λ low.
    let flat = All-weaker (λ c. value f c ≤ℤ value f (sum_of cs)) (λ c. pos 0 ≤ℤ value (opposite f) c) (λ c k. turned _ _ _ (value-opposite f c) k low) cs (each_below f cs above) in
    absurd (clash _ _ (value-opposite f z) (hull.whole (opposite f) flat z z_in) up))
  where
    turned : (r a s : ℤ) → r ≡ neg_ℤ a → a ≤ℤ s → s ≤ℤ pos 0 → pos 0 ≤ℤ r
    turned r a s e h k = omega (arith, linear)

    clash : (r a : ℤ) → r ≡ neg_ℤ a → pos 0 ≤ℤ r → pos 0 <ℤ a → ⊥
    clash r a e h k = omega (arith, linear)

-- num / den is a least value of f / d, where it is one at the corners
pub low_bound : (hs : List LinearForm) (cs : List Point) (f : LinearForm) (num den : ℤ) → IsHull hs cs
    → All (λ c. (num *ℤ c.d) ≤ℤ (den *ℤ value f c)) cs → (z : Point) → IsInHalves hs z → (num *ℤ z.d) ≤ℤ (den *ℤ value f z)
low_bound hs cs f num den hull least z z_in =
    let f' = combine den f (neg_ℤ num) depth in
    back _ _ _ (value_of z) (hull.whole f' (All-weaker (λ c. (num *ℤ c.d) ≤ℤ (den *ℤ value f c)) (λ c. pos 0 ≤ℤ value f' c) (λ c h. forth _ _ _ (value_of c) h) cs least) z z_in)
  where
    value_of : (c : Point) → value (combine den f (neg_ℤ num) depth) c ≡ den *ℤ value f c -ℤ num *ℤ c.d
    value_of c =
        value-combine den (neg_ℤ num) f depth c ∙ ap (λ x. den *ℤ value f c +ℤ neg_ℤ num *ℤ x) (value-depth c)
        ∙ ring (den ∷ value f c ∷ num ∷ c.d ∷ []) (v 0 ⊗ v 1 ⊕ minus (v 2) ⊗ v 3) (v 0 ⊗ v 1 ⊖ v 2 ⊗ v 3) tt

    forth : (r a b : ℤ) → r ≡ a -ℤ b → b ≤ℤ a → pos 0 ≤ℤ r
    forth r a b e h = omega (arith, linear)

    back : (r a b : ℤ) → r ≡ a -ℤ b → pos 0 ≤ℤ r → b ≤ℤ a
    back r a b e h = omega (arith, linear)

-- f is least on some corners, where it is 0, and k has at most s there; a point where f is 0 has k at most 0 if s is at most 0
pub attained_core : (hs : List LinearForm) (cs : List Point) (f k : LinearForm) (s : ℤ) → IsHull hs cs → IsAbove k cs
    → All (λ c. ((value f c ≡ pos 0) × (value k c ≤ℤ s)) ⊎ (pos 0 <ℤ value f c)) cs → s ≤ℤ pos 0
    → (z : Point) → IsInHalves hs z → value f z ≡ pos 0 → value k z ≤ℤ pos 0
attained_core hs cs f k s hull above sides s_low z z_in fz =
    let most = value k (sum_of cs) in
    let f' = combine most f (negsuc 0) k in
    let good : IsAbove f' cs = λ i d lt.
    let c = get_or cs i d in
    ⊎_elim
    (λ side. on_least most _ (value f c) (value k c) s (value-combine most (negsuc 0) f k c) side.0 side.1 s_low)
    (λ side. off_least most _ (value f c) (value k c) (value-combine most (negsuc 0) f k c) side (sum_above k cs above) (each_below k cs above i d lt))
    (sides i d lt) in
    last most _ (value f z) (value k z) (value-combine most (negsuc 0) f k z) (hull.whole f' good z z_in) fz
  where
    on_least : (m r a b s : ℤ) → r ≡ m *ℤ a +ℤ negsuc 0 *ℤ b → a ≡ pos 0 → b ≤ℤ s → s ≤ℤ pos 0 → pos 0 ≤ℤ r
    on_least m r a b s e z h l =
        let t : m *ℤ a ≡ pos 0 = ap (λ x. m *ℤ x) z ∙ mul_comm m (pos 0) ∙ mul_zero m in
        let u = ring (b ∷ []) (lit (negsuc 0) ⊗ v 0) (minus (v 0)) tt in
        omega (arith, linear)

    off_least : (m r a b : ℤ) → r ≡ m *ℤ a +ℤ negsuc 0 *ℤ b → pos 0 <ℤ a → pos 0 ≤ℤ m → b ≤ℤ m → pos 0 ≤ℤ r
    off_least m r a b e h k l =
        let t = mul_nonneg m (a -ℤ pos 1) k (omega (arith, linear)) in
        let w = ring (m ∷ a ∷ []) (v 0 ⊗ (v 1 ⊖ lit (pos 1))) (v 0 ⊗ v 1 ⊖ v 0) tt in
        let u = ring (b ∷ []) (lit (negsuc 0) ⊗ v 0) (minus (v 0)) tt in
        omega (arith, linear)

    last : (m r a b : ℤ) → r ≡ m *ℤ a +ℤ negsuc 0 *ℤ b → pos 0 ≤ℤ r → a ≡ pos 0 → b ≤ℤ pos 0
    last m r a b e h z =
        let t : m *ℤ a ≡ pos 0 = ap (λ x. m *ℤ x) z ∙ mul_comm m (pos 0) ∙ mul_zero m in
        let u = ring (b ∷ []) (lit (negsuc 0) ⊗ v 0) (minus (v 0)) tt in
        omega (arith, linear)

-- near a corner c with f above 0 there is a point, off the sum s of all corners, with f above 0: the weight m for c serves
pub near : (f : LinearForm) (c s : Point) → pos 0 <ℤ value f c → (m : ℤ) × (pos 0 ≤ℤ m) × (pos 0 <ℤ value f (mix m c (pos 1) s))
near f c s up =
    by_lt_z (value f s) (pos 0)
    (λ low. (pos 1 -ℤ value f s, room (value f s) low, enough _ _ _ (value f s) (value-mix (pos 1 -ℤ value f s) (pos 1) f c s) refl up (room (value f s) low)))
    (λ high. (pos 1, omega (arith, linear), both _ (value f c) (value f s) (value-mix (pos 1) (pos 1) f c s) up high))
  where
    room : (a : ℤ) → a <ℤ pos 0 → pos 0 ≤ℤ (pos 1 -ℤ a)
    room a h = omega (arith, linear)

    enough : (r m a b : ℤ) → r ≡ m *ℤ a +ℤ pos 1 *ℤ b → m ≡ pos 1 -ℤ b → pos 0 <ℤ a → pos 0 ≤ℤ m → pos 0 <ℤ r
    enough r m a b e f h k =
        let t = mul_nonneg m (a -ℤ pos 1) k (omega (arith, linear)) in
        let w = ring (m ∷ a ∷ []) (v 0 ⊗ (v 1 ⊖ lit (pos 1))) (v 0 ⊗ v 1 ⊖ v 0) tt in
        let u = mul_one b in
        omega (arith, linear)

    both : (r a b : ℤ) → r ≡ pos 1 *ℤ a +ℤ pos 1 *ℤ b → pos 0 <ℤ a → pos 0 ≤ℤ b → pos 0 <ℤ r
    both r a b e h k = let t = mul_one a in let u = mul_one b in omega (arith, linear)

-- where each corner has g below 0, so has each point
pub all_below : (hs : List LinearForm) (cs : List Point) (g : LinearForm) → IsHull hs cs → All (λ c. value g c <ℤ pos 0) cs → (z : Point) → IsInHalves hs z → value g z <ℤ pos 0
all_below hs cs g hull below z z_in =
    let deep : IsAbove depth cs = λ i d lt. low_depth _ _ (value-depth (get_or cs i d)) (hull.inside i d lt).positive in
    let most = value depth (sum_of cs) in
    let f = combine (neg_ℤ most) g (negsuc 0) depth in
    let good : IsAbove f cs = λ i d lt.
    let c = get_or cs i d in
    off most _ _ _ (value-combine (neg_ℤ most) (negsuc 0) g depth c) (below i d lt) (sum_above depth cs deep) (each_below depth cs deep i d lt) in
    last most _ _ _ _ (value-combine (neg_ℤ most) (negsuc 0) g depth z) (hull.whole f good z z_in) (value-depth z) z_in.positive (sum_above depth cs deep)
  where
    low_depth : (a b : ℤ) → a ≡ b → pos 0 <ℤ b → pos 0 ≤ℤ a
    low_depth a b e h = omega (arith, linear)

    off : (m r a b : ℤ) → r ≡ neg_ℤ m *ℤ a +ℤ negsuc 0 *ℤ b → a <ℤ pos 0 → pos 0 ≤ℤ m → b ≤ℤ m → pos 0 ≤ℤ r
    off m r a b e h k l =
        let t = mul_nonneg m (neg_ℤ a -ℤ pos 1) k (omega (arith, linear)) in
        let w = ring (m ∷ a ∷ []) (v 0 ⊗ (minus (v 1) ⊖ lit (pos 1))) (minus (v 0) ⊗ v 1 ⊖ v 0) tt in
        let u = ring (b ∷ []) (lit (negsuc 0) ⊗ v 0) (minus (v 0)) tt in
        omega (arith, linear)

    last : (m r a b d : ℤ) → r ≡ neg_ℤ m *ℤ a +ℤ negsuc 0 *ℤ b → pos 0 ≤ℤ r → b ≡ d → pos 0 <ℤ d → pos 0 ≤ℤ m → a <ℤ pos 0
    last m r a b d e h f k l =
        by_lt_z a (pos 0) (λ low. low) (λ high.
        let t = mul_nonneg m a l high in
        let w = ring (m ∷ a ∷ []) (minus (v 0) ⊗ v 1) (minus (v 0 ⊗ v 1)) tt in
        let u = ring (b ∷ []) (lit (negsuc 0) ⊗ v 0) (minus (v 0)) tt in
        absurd (no _ _ _ _ _ _ e h f k t w u))
      where
        no : (r p b d y z : ℤ) → r ≡ y +ℤ z → pos 0 ≤ℤ r → b ≡ d → pos 0 <ℤ d → pos 0 ≤ℤ p → y ≡ neg_ℤ p → z ≡ neg_ℤ b → ⊥
        no r p b d y z e h f k t w u = omega (arith, linear)

-- between a point with f below 0 and one with f above 0 there is one with f = 0, and it keeps each value that both have above 0, or at least 0
pub middle : (f : LinearForm) (r s : Point) → value f r <ℤ pos 0 → pos 0 <ℤ value f s → value f (mix (value f s) r (neg_ℤ (value f r)) s) ≡ pos 0
middle f r s low high = value-mix (value f s) (neg_ℤ (value f r)) f r s ∙ ring (value f r ∷ value f s ∷ []) (v 1 ⊗ v 0 ⊕ minus (v 0) ⊗ v 1) (lit (pos 0)) tt
