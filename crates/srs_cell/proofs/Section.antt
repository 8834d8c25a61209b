-- The part of a line within some halves: its two ends, found one half at a time.
use Rattle.std.proofs.Common.{◌≡◌, ◌^◌, List, [], ◌∷◌, ◌++◌, get_or, ℤ, pos, ◌+ℤ◌, ◌-ℤ◌, ◌*ℤ◌, neg_ℤ, ◌≤ℤ◌, ◌<ℤ◌, All, Option, Some, None, refl, sym, ap, ◌∙◌, arith}
use Rattle.std.proofs.lemmas.Int.{by_lt_z}
use Rattle.std.proofs.lemmas.List.Elements.{All-cons, All-head, All-tail, All-weaker, All-push, All-pop}
use Rattle.srs_num.specs.Points.{LinearForm, Point, value, opposite, IsPointWithin}
use Rattle.srs_num.specs.Lines.{meet}
use Rattle.srs_num.proofs.Combinations.{mix, depth}
use Rattle.srs_cell.specs.Hull.{IsInHalves, IsAbove, IsHull}
use Rattle.srs_cell.specs.Cutting.{IsEnd, IsEndAt, IsFirstEnd}
use Rattle.srs_num.proofs.Linear.{linear, mul_zero, mul_comm, mul_nonneg, nonneg_from}
use Rattle.srs_num.proofs.Identities.{value-meet_first, value-meet_second, cramer, along, value-depth, value-meet_turned, meet-d_turned, value-opposite, value-meet_parallel, value-meet_opposite, meet-d_opposite}
use Rattle.srs_cell.proofs.Clip.{clip_whole, part_in_common}

-- a point of the halves and one more
pub in_more : (hs : List LinearForm) (h : LinearForm) (z : Point) → IsInHalves hs z → pos 0 ≤ℤ value h z → IsInHalves (hs ++ h ∷ []) z
in_more hs h z i k = record { positive = i.positive; each = All-push (λ h. pos 0 ≤ℤ value h z) hs h i.each k }

pub in_front : (hs : List LinearForm) (h : LinearForm) (z : Point) → IsInHalves (hs ++ h ∷ []) z → IsInHalves hs z
in_front hs h z i = record { positive = i.positive; each = (All-pop (λ h. pos 0 ≤ℤ value h z) (hs ++ h ∷ []) hs (Some h) refl i.each).0 }

pub in_last : (hs : List LinearForm) (h : LinearForm) (z : Point) → IsInHalves (hs ++ h ∷ []) z → pos 0 ≤ℤ value h z
in_last hs h z i = (All-pop (λ h. pos 0 ≤ℤ value h z) (hs ++ h ∷ []) hs (Some h) refl i.each).1

-- the end so far stays
pub end_keep : (g : LinearForm) (hs : List LinearForm) (e h : LinearForm) → IsEnd g hs e → (pos 0 <ℤ (meet h g).d → pos 0 ≤ℤ value h (meet e g)) → IsEnd g (hs ++ h ∷ []) e
end_keep g hs e h i k = record {
  turns = i.turns;
  nearest = All-push (λ h. pos 0 <ℤ (meet h g).d → pos 0 ≤ℤ value h (meet e g)) hs h i.nearest k;
  holds = λ z z_in. i.holds z (in_front hs h z z_in);
}

-- where it bounds the line that way, j isn't below 0 at the end of e
abbrev IsUncut : LinearForm → LinearForm → LinearForm → Type 0
IsUncut g e j = pos 0 <ℤ (meet j g).d → pos 0 ≤ℤ value j (meet e g)

-- a new half is the end, where each of the others that bounds the line that way has it
end_added : (g : LinearForm) (hs : List LinearForm) (h : LinearForm) → pos 0 <ℤ (meet h g).d → All (IsUncut g h) hs → IsEnd g (hs ++ h ∷ []) h
end_added g hs h k nearest = record {
  turns = k;
  nearest = All-push (IsUncut g h) hs h nearest (λ _. zero_good _ (value-meet_first h g));
  holds = in_last hs h;
}
  where
    zero_good : (a : ℤ) → a ≡ pos 0 → pos 0 ≤ℤ a
    zero_good a e = omega (arith, linear)

-- a half that cuts the end off has the new one
pub end_swap : (g : LinearForm) (hs : List LinearForm) (e h : LinearForm) → IsEnd g hs e → pos 0 <ℤ (meet h g).d → value h (meet e g) <ℤ pos 0 → IsEnd g (hs ++ h ∷ []) h
end_swap g hs e h i k low =
    end_added g hs h k
    (All-weaker (IsUncut g e) (IsUncut g h) (λ j old dj.
    nonneg_from (meet e g).d (value j (meet h g)) i.turns
    (sum_by (meet j g).d (value e (meet h g)) (meet h g).d (value j (meet e g)) _ (along j e h g) dj
    (turned_up _ _ (value-meet_turned e h g) low) k (old dj))) hs i.nearest)
  where
    turned_up : (a b : ℤ) → a ≡ neg_ℤ b → b <ℤ pos 0 → pos 0 ≤ℤ a
    turned_up a b e h = omega (arith, linear)

    sum_by : (a x b y r : ℤ) → a *ℤ x +ℤ b *ℤ y ≡ r → pos 0 <ℤ a → pos 0 ≤ℤ x → pos 0 <ℤ b → pos 0 ≤ℤ y → pos 0 ≤ℤ r
    sum_by a x b y r e ha hx hb hy =
        let p = mul_nonneg a x (omega (arith, linear)) hx in
        let q = mul_nonneg b y (omega (arith, linear)) hy in
        omega (arith, linear)

-- the first half that bounds the line that way
pub end_first : (g : LinearForm) (hs : List LinearForm) (h : LinearForm) → All (λ h. (meet h g).d ≤ℤ pos 0) hs → pos 0 <ℤ (meet h g).d → IsEnd g (hs ++ h ∷ []) h
end_first g hs h none k = end_added g hs h k (All-weaker (λ h. (meet h g).d ≤ℤ pos 0) (IsUncut g h) (λ j low up. absurd (clash _ low up)) hs none)
  where
    clash : (a : ℤ) → a ≤ℤ pos 0 → pos 0 <ℤ a → ⊥
    clash a h k = omega (arith, linear)

-- with a point w of the halves on the line, the end is in each half
pub end_inside : (g : LinearForm) (hs : List LinearForm) (e : LinearForm) (w : Point) → IsEnd g hs e → IsInHalves hs w → value g w ≡ pos 0 → IsInHalves hs (meet e g)
end_inside g hs e w i iw on = let ew = i.holds w iw in record {
  positive = i.turns;
  each = λ n d lt.
      let h = get_or hs n d in
      by_lt_z (pos 0) (meet h g).d
      (λ up. i.nearest n d lt up)
      (λ down. by_lt_z (meet h g).d (pos 0)
      (λ below. other_way h (iw.each n d lt) below)
      (λ at_zero. level h (iw.each n d lt) (both _ down at_zero)));
}
  where
    both : (a : ℤ) → a ≤ℤ pos 0 → pos 0 ≤ℤ a → a ≡ pos 0
    both a h k = omega (arith, linear)

    deep_by : (a b : ℤ) → a ≡ b → pos 0 <ℤ b → pos 0 <ℤ a
    deep_by a b e h = omega (arith, linear)

    turned_deep : (a b c : ℤ) → a ≡ b → b ≡ neg_ℤ c → c <ℤ pos 0 → pos 0 <ℤ a
    turned_deep a b c e f h = omega (arith, linear)

    -- h bounds the line the other way
    other_way : (h : LinearForm) → pos 0 ≤ℤ value h w → (meet h g).d <ℤ pos 0 → pos 0 ≤ℤ value h (meet e g)
    other_way h hw below =
        let c = cramer h e g depth w in
        nonneg_from (value depth w) (value h (meet e g)) (deep_by _ _ (value-depth w) iw.positive)
        (from_cramer (value h (meet e g)) (value depth w) (value h w) (value depth (meet e g)) (value e w) (value depth (meet g h)) (value g w) (value depth (meet h e)) c
        on hw (i.holds w iw) (deep_by _ _ (value-depth (meet e g)) i.turns) (turned_deep _ _ _ (value-depth (meet g h)) (meet-d_turned g h) below))
      where
        from_cramer : (s dw hw xd ew yd gw o : ℤ) → s *ℤ dw ≡ hw *ℤ xd +ℤ ew *ℤ yd +ℤ gw *ℤ o → gw ≡ pos 0
            → pos 0 ≤ℤ hw → pos 0 ≤ℤ ew → pos 0 <ℤ xd → pos 0 <ℤ yd → pos 0 ≤ℤ (dw *ℤ s)
        from_cramer s dw hw xd ew yd gw o c z h k x y =
            let p = mul_nonneg hw xd h (omega (arith, linear)) in
            let q = mul_nonneg ew yd k (omega (arith, linear)) in
            let r : gw *ℤ o ≡ pos 0 = ap (λ a. a *ℤ o) z ∙ mul_zero o in
            let t = mul_comm dw s in
            omega (arith, linear)

    -- h runs along the line
    level : (h : LinearForm) → pos 0 ≤ℤ value h w → (meet h g).d ≡ pos 0 → pos 0 ≤ℤ value h (meet e g)
    level h hw flat =
        nonneg_from w.d (value h (meet e g)) iw.positive
        (from_parallel w.d (value h (meet e g)) (meet e g).d (value h w) (value e w) (meet h g).d (value g w) _ (value-meet_parallel e g h w) on flat hw i.turns)
      where
        from_parallel : (dw hx xd hw ew f gw o : ℤ) → dw *ℤ hx ≡ xd *ℤ hw -ℤ ew *ℤ f +ℤ gw *ℤ o → gw ≡ pos 0 → f ≡ pos 0 → pos 0 ≤ℤ hw → pos 0 <ℤ xd → pos 0 ≤ℤ (dw *ℤ hx)
        from_parallel dw hx xd hw ew f gw o e z y h k =
            let p = mul_nonneg xd hw (omega (arith, linear)) h in
            let r : gw *ℤ o ≡ pos 0 = ap (λ a. a *ℤ o) z ∙ mul_zero o in
            let s : ew *ℤ f ≡ pos 0 = ap (λ a. ew *ℤ a) y ∙ mul_comm ew (pos 0) ∙ mul_zero ew in
            omega (arith, linear)

-- the corners after a cut by g: those with g >= 0, and the two ends of the line's part
pub clip_is_hull : (hs : List LinearForm) (cs us ns : List Point) (e h g : LinearForm) (u n : Point) → IsHull hs cs
    → ((f : LinearForm) → IsAbove f us → IsAbove f ns → IsAbove f cs)
    → All (IsInHalves hs) us → All (IsInHalves hs) ns → IsAbove g us → All (λ n. value g n <ℤ pos 0) ns
    → pos 0 ≤ℤ value g u → IsInHalves hs u → value g n <ℤ pos 0 → IsInHalves hs n
    → IsEnd g hs e → IsEnd (opposite g) hs h
    → IsHull (g ∷ hs) (meet e g ∷ meet h (opposite g) ∷ us)
clip_is_hull hs cs us ns e h g u n hull cover us_in ns_in gu gn u_up u_in n_low n_in e_end h_end =
    let x = meet e g in
    let y = meet h (opposite g) in
    let c = part_in_common g hs u n u_up n_low u_in n_in in
    let w = mix (value g u) n (neg_ℤ (value g n)) u in
    let x_in = end_inside g hs e w e_end c.1 c.0 in
    let y_in = end_inside (opposite g) hs h w h_end c.1 (turned_zero _ _ (value-opposite g w) c.0) in
    record {
      inside =
          All-cons (IsInHalves (g ∷ hs)) x (y ∷ us) (with_line x x_in (nonneg_by_zero _ (value-meet_second e g)))
          (All-cons (IsInHalves (g ∷ hs)) y us (with_line y y_in (nonneg_by_zero _ (value-meet_opposite g h g ∙ value-meet_first g h)))
          (λ i d lt. with_line (get_or us i d) (us_in i d lt) (gu i d lt)));
      whole = λ f above z z_in.
          let old : IsInHalves hs z = record { positive = z_in.positive; each = All-tail (λ h. pos 0 ≤ℤ value h z) g hs z_in.each } in
          let rest = All-tail (λ c. pos 0 ≤ℤ value f c) x (y ∷ us) above in
          clip_whole hs cs us ns e h g hull cover us_in ns_in gu gn e_end.holds h_end.holds e_end.turns (deep_by _ _ (sym (meet-d_opposite h g)) h_end.turns)
          (h_end.holds x x_in)
          f (All-tail (λ c. pos 0 ≤ℤ value f c) y us rest)
          (All-head (λ c. pos 0 ≤ℤ value f c) x (y ∷ us) above)
          (nonneg_same _ _ (sym (value-meet_opposite f h g)) (All-head (λ c. pos 0 ≤ℤ value f c) y us rest))
          z old (All-head (λ h. pos 0 ≤ℤ value h z) g hs z_in.each);
    }
  where
    with_line : (z : Point) → IsInHalves hs z → pos 0 ≤ℤ value g z → IsInHalves (g ∷ hs) z
    with_line z i k = record { positive = i.positive; each = All-cons (λ h. pos 0 ≤ℤ value h z) g hs k i.each }

    nonneg_by_zero : (a : ℤ) → a ≡ pos 0 → pos 0 ≤ℤ a
    nonneg_by_zero a e = omega (arith, linear)

    nonneg_same : (a b : ℤ) → a ≡ b → pos 0 ≤ℤ b → pos 0 ≤ℤ a
    nonneg_same a b e h = omega (arith, linear)

    turned_zero : (a b : ℤ) → a ≡ neg_ℤ b → b ≡ pos 0 → a ≡ pos 0
    turned_zero a b e z = omega (arith, linear)

    deep_by : (a b : ℤ) → a ≡ b → pos 0 <ℤ b → pos 0 <ℤ a
    deep_by a b e h = omega (arith, linear)

-- one more half that does not bound the line that way
pub none_more : (g : LinearForm) (hs : List LinearForm) (h : LinearForm) → All (λ h. (meet h g).d ≤ℤ pos 0) hs → (meet h g).d ≤ℤ pos 0 → All (λ h. (meet h g).d ≤ℤ pos 0) (hs ++ h ∷ [])
none_more g hs h a k = All-push (λ h. (meet h g).d ≤ℤ pos 0) hs h a k

-- ---- the search with one more half
below_not : (a : ℤ) → a ≤ℤ pos 0 → pos 0 <ℤ a → ⊥
below_not a h k = omega (arith, linear)

stays : (g : LinearForm) (hs : List LinearForm) (h : LinearForm) (c : Point) → (pos 0 <ℤ (meet h g).d → pos 0 ≤ℤ value h c) → IsEndAt g hs c → IsEndAt g (hs ++ h ∷ []) c
stays g hs h c k s = record {
  half = s.half;
  is_end = end_keep g hs s.half h s.is_end (λ up. let r : pos 0 ≤ℤ value h (meet s.half g) = rw (← s.crossing) (k up) in r);
  crossing = s.crossing;
  sized = s.sized;
}

-- it doesn't bound the line this way
pub end_passed : (g : LinearForm) (hs : List LinearForm) (h : LinearForm) (end : Option Point) → (meet h g).d ≤ℤ pos 0 → IsFirstEnd g hs end → IsFirstEnd g (hs ++ h ∷ []) end
end_passed g hs h None low s = none_more g hs h s low
end_passed g hs h (Some c) low s = stays g hs h c (λ up. absurd (below_not _ low up)) s

-- the end is in it
pub end_kept : (g : LinearForm) (hs : List LinearForm) (h : LinearForm) (end : Option Point) (c : Point) → end ≡ Some c → pos 0 ≤ℤ value h c → IsFirstEnd g hs end → IsEndAt g (hs ++ h ∷ []) c
end_kept g hs h end c is high s = stays g hs h c (λ up. high) (rw is at s)

-- it is the first that bounds the line this way
pub end_begun : (g : LinearForm) (hs : List LinearForm) (h : LinearForm) (end : Option Point) (x : Point) → end ≡ None
    → pos 0 <ℤ (meet h g).d → x ≡ meet h g → IsPointWithin (2 ^ 77) x → IsFirstEnd g hs end → IsEndAt g (hs ++ h ∷ []) x
end_begun g hs h None x is up crossing sized s = record { half = h; is_end = end_first g hs h s up; crossing = crossing; sized = sized }
end_begun g hs h (Some c) x is up crossing sized s = cc

-- it cuts the end off
pub end_moved : (g : LinearForm) (hs : List LinearForm) (h : LinearForm) (end : Option Point) (c x : Point) → end ≡ Some c → value h c <ℤ pos 0
    → pos 0 <ℤ (meet h g).d → x ≡ meet h g → IsPointWithin (2 ^ 77) x → IsFirstEnd g hs end → IsEndAt g (hs ++ h ∷ []) x
end_moved g hs h end c x is low up crossing sized s =
    let old : IsEndAt g hs c = rw is at s in
    let lower : value h (meet old.half g) <ℤ pos 0 = rw (← old.crossing) low in
    record { half = h; is_end = end_swap g hs old.half h old.is_end up lower; crossing = crossing; sized = sized }
