-- Cutting a list of corners by a form.
use Rattle.std.proofs.Common.{◌≡◌, List, [], ◌∷◌, ℤ, pos, ◌+ℤ◌, ◌-ℤ◌, ◌*ℤ◌, neg_ℤ, ◌≤ℤ◌, ◌<ℤ◌, All, sym, ap, ◌∙◌, arith, get_or}
use Rattle.std.proofs.lemmas.Int.{by_lt_z}
use Rattle.srs_num.specs.Points.{LinearForm, Point, value}
use Rattle.srs_num.specs.Lines.{meet}
use Rattle.srs_num.proofs.Combinations.{combine, mix, depth}
use Rattle.srs_cell.specs.Hull.{IsInHalves, IsAbove, IsHull}
use Rattle.std.proofs.lemmas.List.Elements.{All-nil, All-cons, All-head, All-tail, All-weaker}
use Rattle.srs_num.proofs.Linear.{linear, mul_zero, mul_one, mul_neg, mul_comm, mul_nonneg, mul_pos, nonneg_from, zero_from}
use Rattle.srs_num.proofs.Ring.{v, lit, ◌⊕◌, ◌⊖◌, ◌⊗◌, minus, ring}
use Rattle.srs_num.proofs.Identities.{cramer, value-combine, value-mix, value-depth, value-meet_depth, mix-d}

nonneg_by : (a b : ℤ) → a ≡ b → pos 0 ≤ℤ b → pos 0 ≤ℤ a
nonneg_by a b e h = omega (arith, linear)

-- the line's part between two crossings: x lies on e and y on h, both on g; what is at least 0 at both crossings is at least 0 between them.
-- The amount s is the value of h at x, and of e at y.
pub between : (e h g f : LinearForm) (z : Point) →
    pos 0 <ℤ value h (meet e g) → value g z ≡ pos 0 → pos 0 ≤ℤ value e z → pos 0 ≤ℤ value h z
    → pos 0 ≤ℤ value f (meet e g) → pos 0 ≤ℤ value f (meet g h) → pos 0 ≤ℤ value f z
between e h g f z s on ez hz fx fy =
    let i = cramer h e g f z in
    let p = mul_nonneg (value h z) (value f (meet e g)) hz fx in
    let q = mul_nonneg (value e z) (value f (meet g h)) ez fy in
    let n = vanish (value g z) (value f (meet h e)) on in
    nonneg_from (value h (meet e g)) (value f z) s (omega (arith, linear))
  where
    vanish : (a b : ℤ) → a ≡ pos 0 → a *ℤ b ≡ pos 0
    vanish a b e = ap (λ x. x *ℤ b) e ∙ mul_zero b

-- whether n and each of the points us have a part in common with g = 0 on which f is at least 0
abbrev pub Joined : LinearForm → LinearForm → List Point → Point → Type 0
Joined f g us n = All (λ u. pos 0 ≤ℤ (value g u *ℤ value f n -ℤ value g n *ℤ value f u)) us

-- what is at least 0 on some corners, and on what the others and they have in common with g = 0, stays so after taking off some of g
pub record Lifted (f g : LinearForm) (us ns : List Point) : Type 0 where
  pub k : ℤ
  pub m : ℤ
  pub k_pos : pos 0 <ℤ k
  pub m_low : m ≤ℤ pos 0
  pub firsts : IsAbove (combine k f m g) us
  pub others : IsAbove (combine k f m g) ns

-- one more corner below g
lift_more : (f g : LinearForm) (us : List Point) (n : Point) (ns : List Point) →
    value g n <ℤ pos 0 → All (λ n. value g n <ℤ pos 0) ns → Joined f g us n → Lifted f g us ns → Lifted f g us (n ∷ ns)
lift_more f g us n ns hn hns hj r =
    let f' = combine r.k f r.m g in
    let Good : Point → Type 0 = λ c. pos 0 ≤ℤ value f' c in
    let k' = neg_ℤ (value g n) *ℤ r.k in
    let m' = neg_ℤ (value g n) *ℤ r.m +ℤ (r.k *ℤ value f n +ℤ r.m *ℤ value g n) in
    let f'' = combine k' f m' g in
    let Better : Point → Type 0 = λ c. pos 0 ≤ℤ value f'' c in
    by_lt_z (value f' n) (pos 0)
    (λ low.
    let t : (r.k *ℤ value f n +ℤ r.m *ℤ value g n) <ℤ pos 0 = below_by _ _ (sym (value-combine r.k r.m f g n)) low in
    let opposite = opposite_pos (value g n) hn in
    record {
      k = k';
      m = m';
      k_pos = mul_pos (neg_ℤ (value g n)) r.k opposite r.k_pos;
      m_low = lower (neg_ℤ (value g n)) r.m _ opposite r.m_low t;
      firsts = All-weaker _ Better (λ c h. nonneg_by _ _ (value-combine k' m' f g c) (first_case r.k r.m (value f n) (value g n) (value f c) (value g c) r.k_pos h)) us hj;
      others = All-cons Better n ns
          (nonneg_by _ _ (value-combine k' m' f g n) (this_case r.k r.m (value f n) (value g n)))
          (others_case ns hns r.others t);
    })
    (λ high. record { k = r.k; m = r.m; k_pos = r.k_pos; m_low = r.m_low; firsts = r.firsts; others = All-cons Good n ns high r.others })
  where
    below_by : (a b : ℤ) → a ≡ b → b <ℤ pos 0 → a <ℤ pos 0
    below_by a b e h = omega (arith, linear)

    opposite_pos : (a : ℤ) → a <ℤ pos 0 → pos 0 <ℤ neg_ℤ a
    opposite_pos a h = omega (arith, linear)

    opposite_nonneg : (a : ℤ) → a ≤ℤ pos 0 → pos 0 ≤ℤ neg_ℤ a
    opposite_nonneg a h = omega (arith, linear)

    negative_product : (s m : ℤ) → pos 0 <ℤ s → m ≤ℤ pos 0 → (s *ℤ m) ≤ℤ pos 0
    negative_product s m h k =
        let p = mul_nonneg s (neg_ℤ m) (omega (arith, linear)) (opposite_nonneg m k) in
        let e = mul_neg s m in
        omega (arith, linear)

    lower : (s m t : ℤ) → pos 0 <ℤ s → m ≤ℤ pos 0 → t <ℤ pos 0 → (s *ℤ m +ℤ t) ≤ℤ pos 0
    lower s m t h k l = let p = negative_product s m h k in omega (arith, linear)

    first_case : (k m fn gn fu gu : ℤ) → pos 0 <ℤ k → pos 0 ≤ℤ (gu *ℤ fn -ℤ gn *ℤ fu)
        → pos 0 ≤ℤ ((neg_ℤ gn *ℤ k) *ℤ fu +ℤ (neg_ℤ gn *ℤ m +ℤ (k *ℤ fn +ℤ m *ℤ gn)) *ℤ gu)
    first_case k m fn gn fu gu h p =
        let K = v 0 in let M = v 1 in let FN = v 2 in let GN = v 3 in let FU = v 4 in let GU = v 5 in
        let e = ring (k ∷ m ∷ fn ∷ gn ∷ fu ∷ gu ∷ [])
        ((minus GN ⊗ K) ⊗ FU ⊕ (minus GN ⊗ M ⊕ (K ⊗ FN ⊕ M ⊗ GN)) ⊗ GU)
        (K ⊗ (GU ⊗ FN ⊖ GN ⊗ FU)) tt in
        nonneg_by _ _ e (mul_nonneg k (gu *ℤ fn -ℤ gn *ℤ fu) (omega (arith, linear)) p)

    this_case : (k m fn gn : ℤ) → pos 0 ≤ℤ ((neg_ℤ gn *ℤ k) *ℤ fn +ℤ (neg_ℤ gn *ℤ m +ℤ (k *ℤ fn +ℤ m *ℤ gn)) *ℤ gn)
    this_case k m fn gn =
        let K = v 0 in let M = v 1 in let FN = v 2 in let GN = v 3 in
        let e = ring (k ∷ m ∷ fn ∷ gn ∷ [])
        ((minus GN ⊗ K) ⊗ FN ⊕ (minus GN ⊗ M ⊕ (K ⊗ FN ⊕ M ⊗ GN)) ⊗ GN)
        (lit (pos 0)) tt in
        nonneg_by _ _ e (omega (arith, linear))

    other_case : (k m t gn fo go : ℤ) → gn <ℤ pos 0 → t <ℤ pos 0 → go <ℤ pos 0 → pos 0 ≤ℤ (k *ℤ fo +ℤ m *ℤ go)
        → pos 0 ≤ℤ ((neg_ℤ gn *ℤ k) *ℤ fo +ℤ (neg_ℤ gn *ℤ m +ℤ t) *ℤ go)
    other_case k m t gn fo go hn ht ho hf =
        let K = v 0 in let M = v 1 in let T' = v 2 in let GN = v 3 in let FO = v 4 in let GO = v 5 in
        let e = ring (k ∷ m ∷ t ∷ gn ∷ fo ∷ go ∷ [])
        ((minus GN ⊗ K) ⊗ FO ⊕ (minus GN ⊗ M ⊕ T') ⊗ GO)
        (minus GN ⊗ (K ⊗ FO ⊕ M ⊗ GO) ⊕ minus T' ⊗ minus GO) tt in
        let p = mul_nonneg (neg_ℤ gn) (k *ℤ fo +ℤ m *ℤ go) (omega (arith, linear)) hf in
        let q = mul_nonneg (neg_ℤ t) (neg_ℤ go) (omega (arith, linear)) (omega (arith, linear)) in
        nonneg_by _ _ e (omega (arith, linear))

    others_case : (os : List Point) → All (λ n. value g n <ℤ pos 0) os → IsAbove (combine r.k f r.m g) os → (r.k *ℤ value f n +ℤ r.m *ℤ value g n) <ℤ pos 0
        → IsAbove (combine (neg_ℤ (value g n) *ℤ r.k) f (neg_ℤ (value g n) *ℤ r.m +ℤ (r.k *ℤ value f n +ℤ r.m *ℤ value g n)) g) os
    others_case os below good t i d lt =
        let c = get_or os i d in
        let h = nonneg_by _ _ (sym (value-combine r.k r.m f g c)) (good i d lt) in
        nonneg_by _ _ (value-combine (neg_ℤ (value g n) *ℤ r.k) (neg_ℤ (value g n) *ℤ r.m +ℤ (r.k *ℤ value f n +ℤ r.m *ℤ value g n)) f g c)
        (other_case r.k r.m (r.k *ℤ value f n +ℤ r.m *ℤ value g n) (value g n) (value f c) (value g c) hn t (below i d lt) h)

pub lift : (f g : LinearForm) (us ns : List Point) →
    IsAbove g us → All (λ n. value g n <ℤ pos 0) ns → IsAbove f us → All (Joined f g us) ns → Lifted f g us ns
lift f g us [] gu gn fu j = record {
  k = pos 1;
  m = pos 0;
  k_pos = omega (arith, linear);
  m_low = omega (arith, linear);
  firsts = All-weaker (λ c. pos 0 ≤ℤ value f c) (λ c. pos 0 ≤ℤ value (combine (pos 1) f (pos 0) g) c) (λ c h. nonneg_by _ _ (value-combine (pos 1) (pos 0) f g c) (plain (value f c) (value g c) h)) us fu;
  others = All-nil (λ c. pos 0 ≤ℤ value (combine (pos 1) f (pos 0) g) c);
}
  where
    plain : (a b : ℤ) → pos 0 ≤ℤ a → pos 0 ≤ℤ (pos 1 *ℤ a +ℤ pos 0 *ℤ b)
    plain a b h = let e = mul_one a in let z = mul_zero b in omega (arith, linear)
lift f g us (n ∷ ns) gu gn fu j =
    let Below : Point → Type 0 = λ n. value g n <ℤ pos 0 in
    let hn = All-head Below n ns gn in
    let hns = All-tail Below n ns gn in
    let r = lift f g us ns gu hns fu (All-tail (Joined f g us) n ns j) in
    lift_more f g us n ns hn hns (All-head (Joined f g us) n ns j) r

-- so on the side of g where it is at least 0 the corners speak for each point
lifted_speaks : (hs : List LinearForm) (cs us ns : List Point) (f g : LinearForm) → IsHull hs cs → ((f : LinearForm) → IsAbove f us → IsAbove f ns → IsAbove f cs)
    → Lifted f g us ns → (z : Point) → IsInHalves hs z → pos 0 ≤ℤ value g z → pos 0 ≤ℤ value f z
lifted_speaks hs cs us ns f g hull cover r z z_in gz =
    let good = hull.whole (combine r.k f r.m g) (cover (combine r.k f r.m g) r.firsts r.others) z z_in in
    nonneg_from r.k (value f z) r.k_pos (left_over (r.k *ℤ value f z) r.m (value g z) _ (value-combine r.k r.m f g z) good r.m_low gz)
  where
    left_over : (a m g s : ℤ) → s ≡ a +ℤ m *ℤ g → pos 0 ≤ℤ s → m ≤ℤ pos 0 → pos 0 ≤ℤ g → pos 0 ≤ℤ a
    left_over a m g s q h k l =
        let p = mul_nonneg (neg_ℤ m) g (omega (arith, linear)) l in
        let e = mul_comm (neg_ℤ m) g ∙ mul_neg g m in
        let c = mul_comm g m in
        omega (arith, linear)

-- two crossings at one place: x is the only point of e, h and g = 0
pub at_one : (e h g f : LinearForm) (z : Point) →
    value h (meet e g) ≡ pos 0 → pos 0 <ℤ (meet e g).d → pos 0 <ℤ (meet g h).d
    → value g z ≡ pos 0 → pos 0 ≤ℤ value e z → pos 0 ≤ℤ value h z → pos 0 <ℤ z.d → pos 0 ≤ℤ value f (meet e g) → pos 0 ≤ℤ value f z
at_one e h g f z s xd yd on ez hz zd fx =
    let e_zero = only (value h (meet e g)) (value depth z) (value h z) (value depth (meet e g)) (value e z) (value depth (meet g h)) (value g z) (value depth (meet h e))
    s (cramer h e g depth z) on hz ez (more _ _ (value-depth (meet e g)) xd) (more _ _ (value-depth (meet g h)) yd) in
    let i = cramer e g depth f z in
    let j = scaled (value e (meet g depth)) (value f z) (value e z) (value f (meet g depth)) (value g z) (value f (meet depth e)) (value depth z) (value f (meet e g)) i e_zero on in
    let p = mul_nonneg (value depth z) (value f (meet e g)) (less _ (more _ _ (value-depth z) zd)) fx in
    nonneg_from (value e (meet g depth)) (value f z) (more _ _ (value-meet_depth e g) xd) (nonneg_by _ _ j p)
  where
    more : (a b : ℤ) → a ≡ b → pos 0 <ℤ b → pos 0 <ℤ a
    more a b e h = omega (arith, linear)

    less : (a : ℤ) → pos 0 <ℤ a → pos 0 ≤ℤ a
    less a h = omega (arith, linear)

    only : (s dz hz xd ez yd gz o : ℤ) → s ≡ pos 0 → s *ℤ dz ≡ hz *ℤ xd +ℤ ez *ℤ yd +ℤ gz *ℤ o → gz ≡ pos 0
        → pos 0 ≤ℤ hz → pos 0 ≤ℤ ez → pos 0 <ℤ xd → pos 0 <ℤ yd → ez ≡ pos 0
    only s dz hz xd ez yd gz o es i eg h k x y =
        let z1 : s *ℤ dz ≡ pos 0 = ap (λ a. a *ℤ dz) es ∙ mul_zero dz in
        let z2 : gz *ℤ o ≡ pos 0 = ap (λ a. a *ℤ o) eg ∙ mul_zero o in
        let p = mul_nonneg hz xd h (omega (arith, linear)) in
        let q = mul_nonneg ez yd k (omega (arith, linear)) in
        let r : yd *ℤ ez ≡ pos 0 = mul_comm yd ez ∙ omega (arith, linear) in
        zero_from yd ez y r

    scaled : (t fz ez a gz b dz fx : ℤ) → t *ℤ fz ≡ ez *ℤ a +ℤ gz *ℤ b +ℤ dz *ℤ fx → ez ≡ pos 0 → gz ≡ pos 0 → t *ℤ fz ≡ dz *ℤ fx
    scaled t fz ez a gz b dz fx i ee eg =
        let z1 : ez *ℤ a ≡ pos 0 = ap (λ x. x *ℤ a) ee ∙ mul_zero a in
        let z2 : gz *ℤ b ≡ pos 0 = ap (λ x. x *ℤ b) eg ∙ mul_zero b in
        omega (arith, linear)

-- a point of one side and one of the other have a point of the line between them
pub part_in_common : (g : LinearForm) (hs : List LinearForm) (u n : Point) → pos 0 ≤ℤ value g u → value g n <ℤ pos 0 → IsInHalves hs u → IsInHalves hs n
    → (value g (mix (value g u) n (neg_ℤ (value g n)) u) ≡ pos 0) × IsInHalves hs (mix (value g u) n (neg_ℤ (value g n)) u)
part_in_common g hs u n gu gn iu in' = (
  value-mix (value g u) (neg_ℤ (value g n)) g n u ∙ cancel (value g u) (value g n),
  record {
    positive = deep_by (value g u) (value g n) n.d u.d _ (mix-d (value g u) (neg_ℤ (value g n)) n u) gu gn in'.positive iu.positive;
    each = λ k h lt.
        let f = get_or hs k h in
        nonneg_by _ _ (value-mix (value g u) (neg_ℤ (value g n)) f n u) (sum_nonneg (value g u) (value g n) (value f n) (value f u) gu gn (in'.each k h lt) (iu.each k h lt));
  },
)
  where
    cancel : (a b : ℤ) → a *ℤ b +ℤ neg_ℤ b *ℤ a ≡ pos 0
    cancel a b = ring (a ∷ b ∷ []) (v 0 ⊗ v 1 ⊕ minus (v 1) ⊗ v 0) (lit (pos 0)) tt

    sum_nonneg : (a b x y : ℤ) → pos 0 ≤ℤ a → b <ℤ pos 0 → pos 0 ≤ℤ x → pos 0 ≤ℤ y → pos 0 ≤ℤ (a *ℤ x +ℤ neg_ℤ b *ℤ y)
    sum_nonneg a b x y ha hb hx hy =
        let p = mul_nonneg a x ha hx in
        let q = mul_nonneg (neg_ℤ b) y (omega (arith, linear)) hy in
        omega (arith, linear)

    deep_by : (a b x y d : ℤ) → d ≡ a *ℤ x +ℤ neg_ℤ b *ℤ y → pos 0 ≤ℤ a → b <ℤ pos 0 → pos 0 <ℤ x → pos 0 <ℤ y → pos 0 <ℤ d
    deep_by a b x y d e ha hb hx hy =
        let p = mul_nonneg a x ha (omega (arith, linear)) in
        let q = mul_pos (neg_ℤ b) y (omega (arith, linear)) hy in
        omega (arith, linear)

-- the step of a cut: us are the corners with g >= 0, ns those with g < 0, and x and y the ends of the line's part within the halves
pub clip_whole : (hs : List LinearForm) (cs us ns : List Point) (e h g : LinearForm) → IsHull hs cs
    → ((f : LinearForm) → IsAbove f us → IsAbove f ns → IsAbove f cs)
    → All (IsInHalves hs) us → All (IsInHalves hs) ns → IsAbove g us → All (λ n. value g n <ℤ pos 0) ns
    → ((z : Point) → IsInHalves hs z → pos 0 ≤ℤ value e z) → ((z : Point) → IsInHalves hs z → pos 0 ≤ℤ value h z)
    → pos 0 <ℤ (meet e g).d → pos 0 <ℤ (meet g h).d → pos 0 ≤ℤ value h (meet e g)
    → (f : LinearForm) → IsAbove f us → pos 0 ≤ℤ value f (meet e g) → pos 0 ≤ℤ value f (meet g h)
    → (z : Point) → IsInHalves hs z → pos 0 ≤ℤ value g z → pos 0 ≤ℤ value f z
clip_whole hs cs us ns e h g hull cover us_in ns_in gu gn e_good h_good xd yd s f fu fx fy z z_in gz =
    let joined : (n : Point) → value g n <ℤ pos 0 → IsInHalves hs n → Joined f g us n = λ n below in'. λ i d lt.
    let u = get_or us i d in
    let w = mix (value g u) n (neg_ℤ (value g n)) u in
    let c = part_in_common g hs u n (gu i d lt) below (us_in i d lt) in' in
    let fw : pos 0 ≤ℤ value f w =
    by_lt_z (pos 0) (value h (meet e g))
    (λ s_pos. between e h g f w s_pos c.0 (e_good w c.1) (h_good w c.1) fx fy)
    (λ s_low. at_one e h g f w (both _ s s_low) xd yd c.0 (e_good w c.1) (h_good w c.1) c.1.positive fx) in
    nonneg_by _ _ (turned (value g u) (value f n) (value g n) (value f u) _ (value-mix (value g u) (neg_ℤ (value g n)) f n u)) fw in
    lifted_speaks hs cs us ns f g hull cover (lift f g us ns gu gn fu (λ i d lt. joined (get_or ns i d) (gn i d lt) (ns_in i d lt))) z z_in gz
  where
    both : (a : ℤ) → pos 0 ≤ℤ a → a ≤ℤ pos 0 → a ≡ pos 0
    both a h k = omega (arith, linear)

    turned : (a x b y r : ℤ) → r ≡ a *ℤ x +ℤ neg_ℤ b *ℤ y → a *ℤ x -ℤ b *ℤ y ≡ r
    turned a x b y r e = ring (a ∷ x ∷ b ∷ y ∷ []) (v 0 ⊗ v 1 ⊖ v 2 ⊗ v 3) (v 0 ⊗ v 1 ⊕ minus (v 2) ⊗ v 3) tt ∙ sym e
