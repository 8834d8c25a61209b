-- The halves of a region as forms, one half at a time, and its points.
use Rattle.std.proofs.Common.{◌≡◌, ℕ, ◌+◌, ◌^◌, ◌<◌, ◌≤◌, List, [], ◌∷◌, ◌++◌, map, length, length-append, take, take_all, get_or, slice_get, ℤ, pos, negsuc, ◌+ℤ◌, ◌≤ℤ◌, ◌<ℤ◌, All, Some, ap, ◌∙◌, arith}
use Rattle.std.specs.List.{AllByRecursion}
use Rattle.std.proofs.lemmas.Option.{get_or_from_slice_get}
use Rattle.std.proofs.lemmas.List.{take_more, map-append}
use Rattle.std.proofs.lemmas.List.Elements.{All-nil, All-cons, All-head, All-tail, All-push, All-append, All-map, All-take, All-weaker, All-from_recursion}
use Rattle.srs_num.specs.Points.{LinearForm, Point, value, IsNear, IsPointWithin}
use Rattle.srs_num.specs.Lines.{sum_of}
use Rattle.srs_num.proofs.Linear.{linear}
use Rattle.srs_plane.specs.declared.halves.Half.{Half}
use Rattle.srs_plane.specs.declared.halves.Kind.{Kind}
use Rattle.srs_plane.specs.declared.halves.Kind.TheVariants.{Ge, Gt}
use Rattle.srs_plane.specs.Regions.{Area, Asks, IsInHalf, IsIn, HasPoint}
use Rattle.srs_cell.specs.Hull.{IsInHalves, IsAbove, IsBelow}
use Rattle.srs_cell.specs.Corners.{side, box, boxed, AreCorners}
use Rattle.srs_cell.specs.Cutting.{IsPart}
use Rattle.srs_num.proofs.Combinations.{depth}
use Rattle.srs_num.proofs.Identities.{value-depth}
use Rattle.srs_cell.proofs.BoxHull.{AreBoxCorners, near_in_box, box_hull}
use Rattle.srs_cell.proofs.Cuts.{whole_left, nothing_left}
use Rattle.srs_cell.proofs.Extremes.{sum_strict, sum_above, value-sum}

-- ---- one more member of a list
pub take_next : {X : Type 0} (xs : List X) (i : ℕ) (x : X) → i < length xs → slice_get xs i ≡ Some x → take (i + 1) xs ≡ take i xs ++ x ∷ []
take_next xs i x h e = take_more xs i x h ∙ ap (λ y. take i xs ++ y ∷ []) (get_or_from_slice_get xs i x x e)

pub all_next : {X : Type 0} (P : X → Type 0) (xs : List X) (i : ℕ) (x : X) → i < length xs → slice_get xs i ≡ Some x → All P (take i xs) → P x → All P (take (i + 1) xs)
all_next P xs i x h e a k = rw (take_next xs i x h e) (All-push P (take i xs) x a k)

pub all_by_recursion : {X : Type 0} (P : X → Type 0) (xs : List X) → All P xs → AllByRecursion P xs
all_by_recursion P [] a = tt
all_by_recursion P (x ∷ xs) a = (All-head P x xs a, all_by_recursion P xs (All-tail P x xs a))

-- ---- the halves of a region as forms
pub boxed-push : (S : Area) (h : Half) → boxed (S ++ h ∷ []) ≡ boxed S ++ h.form ∷ []
boxed-push S h = ap (λ fs. box ++ fs) (map-append (λ h. h.form) S (h ∷ []))

pub boxed_more : (R : Area) (i : ℕ) (h : Half) → i < length R → slice_get R i ≡ Some h → boxed (take (i + 1) R) ≡ boxed (take i R) ++ h.form ∷ []
boxed_more R i h lt e = ap boxed (take_next R i h lt e) ∙ boxed-push (take i R) h

-- what holds of each form of the box and of the halves
pub boxed_all : (P : LinearForm → Type 0) (R : Area) → All P box → All (λ h. P h.form) R → All P (boxed R)
boxed_all P R a b = All-append P box (map (λ h. h.form) R) a (All-map P (λ h. h.form) R b)

of_map : {X Y : Type 0} (P : X → Type 0) (f : Y → X) (ys : List Y) → All P (map f ys) → All (λ y. P (f y)) ys
of_map P f [] a = All-nil (λ y. P (f y))
of_map P f (y ∷ ys) a = All-cons (λ y. P (f y)) y ys (All-head P (f y) (map f ys) a) (of_map P f ys (All-tail P (f y) (map f ys) a))

pub boxed_halves : (P : LinearForm → Type 0) (R : Area) → All P (boxed R) → All (λ h. P h.form) R
boxed_halves P R a =
    let r = side (pos 1) (pos 0) in
    let t = side (pos 0) (pos 1) in
    let l = side (negsuc 0) (pos 0) in
    let b = side (pos 0) (negsuc 0) in
    let fs = map (λ h. h.form) R in
    of_map P (λ h. h.form) R (All-tail P b fs (All-tail P l (b ∷ fs) (All-tail P t (l ∷ b ∷ fs) (All-tail P r (t ∷ l ∷ b ∷ fs) a))))

pub boxed_box : (P : LinearForm → Type 0) (R : Area) → All P (boxed R) → All P box
boxed_box P R a =
    let r = side (pos 1) (pos 0) in
    let t = side (pos 0) (pos 1) in
    let l = side (negsuc 0) (pos 0) in
    let b = side (pos 0) (negsuc 0) in
    let fs = map (λ h. h.form) R in
    let a1 = All-tail P r (t ∷ l ∷ b ∷ fs) a in
    let a2 = All-tail P t (l ∷ b ∷ fs) a1 in
    let a3 = All-tail P l (b ∷ fs) a2 in
    All-cons P r (t ∷ l ∷ b ∷ []) (All-head P r (t ∷ l ∷ b ∷ fs) a)
    (All-cons P t (l ∷ b ∷ []) (All-head P t (l ∷ b ∷ fs) a1)
    (All-cons P l (b ∷ []) (All-head P l (b ∷ fs) a2)
    (All-cons P b [] (All-head P b fs a3) (All-nil P))))

-- a point of all the halves is one of the first of them
pub in_first : (R : Area) (i : ℕ) (z : Point) → IsInHalves (boxed R) z → IsInHalves (boxed (take i R)) z
in_first R i z z_in =
    let P : LinearForm → Type 0 = λ h. pos 0 ≤ℤ value h z in
    record {
      positive = z_in.positive;
      each = boxed_all P (take i R) (boxed_box P R z_in.each) (All-take (λ h. P h.form) i R (boxed_halves P R z_in.each));
    }

-- ---- points of the region
pub asked : (k : Kind) (v : ℤ) → Asks k v → pos 0 ≤ℤ v
asked Ge v h = h
asked Gt v h = above v h
  where
    above : (v : ℤ) → pos 0 <ℤ v → pos 0 ≤ℤ v
    above v h = omega (arith, linear)

pub in_boxed : (R : Area) (z : Point) → IsIn R z → IsNear z → IsInHalves (boxed R) z
in_boxed R z i n =
    let P : LinearForm → Type 0 = λ h. pos 0 ≤ℤ value h z in
    let Q : Half → Type 0 = λ h. IsInHalf h z in
    record {
      positive = deeper z.d i.is_point;
      each = boxed_all P R (near_in_box z n) (All-weaker Q (λ h. P h.form) (λ h k. asked h.kind (value h.form z) k) R (All-from_recursion Q R i.halves));
    }
  where
    deeper : (d : ℤ) → pos 1 ≤ℤ d → pos 0 <ℤ d
    deeper d h = omega (arith, linear)

-- ---- the sum of all corners
pub sum_in_halves : (hs : List LinearForm) (cs : List Point) → All (IsInHalves hs) cs → 1 ≤ length cs → IsInHalves hs (sum_of cs)
sum_in_halves hs [] a some = absurd (omega arith)
sum_in_halves hs (c ∷ cs) a some =
    let c_in = All-head (IsInHalves hs) c cs a in
    let rest = All-tail (IsInHalves hs) c cs a in
    record {
      positive = deeper _ _ _ _ (value-sum depth c cs) (value-depth c) (value-depth (sum_of (c ∷ cs))) c_in.positive (sum_above depth cs (λ j d lt. above_depth (get_or cs j d) (rest j d lt)));
      each = λ i d lt. sum_above (get_or hs i d) (c ∷ cs) (λ j e lt'. (a j e lt').each i d lt);
    }
  where
    above_depth : (c : Point) → IsInHalves hs c → pos 0 ≤ℤ value depth c
    above_depth c i = from_deep _ c.d (value-depth c) i.positive
      where
        from_deep : (a b : ℤ) → a ≡ b → pos 0 <ℤ b → pos 0 ≤ℤ a
        from_deep a b e h = omega (arith, linear)

    deeper : (s a r d : ℤ) {e : ℤ} → s ≡ a +ℤ r → a ≡ d → s ≡ e → pos 0 <ℤ d → pos 0 ≤ℤ r → pos 0 <ℤ e
    deeper s a r d e f g h k = omega (arith, linear)

asks_by : (k : Kind) (v w : ℤ) → pos 0 ≤ℤ v → (pos 0 <ℤ w → pos 0 <ℤ v) → Asks k w → Asks k v
asks_by Ge v w h f a = h
asks_by Gt v w h f a = f a

-- where the region has a point, the sum of all corners is in each half
pub sum_in_each : (R : Area) (cs : List Point) (z : Point) → AreCorners R cs → IsIn R z → IsNear z → All (λ h. IsInHalf h (sum_of cs)) R
sum_in_each R cs z k z_in near =
    let hs = boxed R in
    let s = sum_of cs in
    let At : Point → LinearForm → Type 0 = λ c h. pos 0 ≤ℤ value h c in
    let z_boxed = in_boxed R z z_in near in
    let s_boxed = sum_in_halves hs cs k.hull.inside k.some in
    let s_each = boxed_halves (At s) R s_boxed.each in
    let z_each = All-from_recursion (λ h. IsInHalf h z) R z_in.halves in
    λ i d lt.
    let h = get_or R i d in
    asks_by h.kind (value h.form s) (value h.form z) (s_each i d lt)
    (λ up. sum_strict hs cs h.form z k.hull (λ j e lt'. boxed_halves (At (get_or cs j e)) R (k.hull.inside j e lt').each i d lt) z_boxed up)
    (z_each i d lt)

-- ---- what is known once all halves have cut the corners
pub sum_inside : (R : Area) (cs : List Point) → AreCorners R cs → All (λ h. IsInHalf h (sum_of cs)) R → IsIn R (sum_of cs)
sum_inside R cs k a = record {
  is_point = point_of _ (sum_in_halves (boxed R) cs k.hull.inside k.some).positive;
  halves = all_by_recursion (λ h. IsInHalf h (sum_of cs)) R a;
}
  where
    point_of : (d : ℤ) → pos 0 <ℤ d → pos 1 ≤ℤ d
    point_of d h = omega (arith, linear)

pub no_point : (R : Area) (cs : List Point) → AreCorners R cs → ((r : Point) → IsIn R r → IsNear r) → (All (λ h. IsInHalf h (sum_of cs)) R → ⊥) → HasPoint R → ⊥
no_point R cs k near out p = out (sum_in_each R cs p.0 k p.1 (near p.0 p.1))

pub no_corner : (R : Area) → ((z : Point) → IsInHalves (boxed R) z → ⊥) → ((r : Point) → IsIn R r → IsNear r) → HasPoint R → ⊥
no_corner R none near p = none p.0 (in_boxed R p.0 p.1 (near p.0 p.1))

-- ---- one half more
pub whole_more : (R : Area) (h : Half) (cs : List Point) → AreCorners R cs → IsAbove h.form cs → AreCorners (R ++ h ∷ []) cs
whole_more R h cs k up = record {
  hull = rw (boxed-push R h) (whole_left (boxed R) cs h.form k.hull up);
  sized = k.sized;
  some = k.some;
  few = let old = k.few in omega (arith, length-append R (h ∷ []));
}

pub part_more : (R : Area) (h : Half) (cs us : List Point) → AreCorners R cs → IsPart (boxed R) cs h.form us → AreCorners (R ++ h ∷ []) us
part_more R h cs us k p = record {
  hull = rw (boxed-push R h) p.hull;
  sized = p.sized;
  some = p.some;
  few = let old = k.few in let new = p.few in omega (arith, length-append R (h ∷ []));
}

pub corners_whole : (R : Area) (i : ℕ) (h : Half) (cs : List Point) → i < length R → slice_get R i ≡ Some h
    → AreCorners (take i R) cs → IsAbove h.form cs → AreCorners (take (i + 1) R) cs
corners_whole R i h cs lt e k up = rw (take_next R i h lt e) (whole_more (take i R) h cs k up)

pub corners_part : (R : Area) (i : ℕ) (h : Half) (cs us : List Point) → i < length R → slice_get R i ≡ Some h
    → AreCorners (take i R) cs → IsPart (boxed (take i R)) cs h.form us → AreCorners (take (i + 1) R) us
corners_part R i h cs us lt e k p = rw (take_next R i h lt e) (part_more (take i R) h cs us k p)

pub corners_nothing : (R : Area) (i : ℕ) (h : Half) (cs : List Point) → i < length R → slice_get R i ≡ Some h
    → AreCorners (take i R) cs → IsBelow h.form cs → (z : Point) → IsInHalves (boxed R) z → ⊥
corners_nothing R i h cs lt e k low z z_in =
    nothing_left (boxed (take i R)) cs h.form k.hull low z (rw (boxed_more R i h lt e) at (in_first R (i + 1) z z_in))

-- the corners of the box alone
pub box_start : (w x y z : Point) → AreBoxCorners w x y z → IsPointWithin (2 ^ 77) w → IsPointWithin (2 ^ 77) x → IsPointWithin (2 ^ 77) y → IsPointWithin (2 ^ 77) z
    → AreCorners [] (w ∷ x ∷ y ∷ z ∷ [])
box_start w x y z k ws xs ys zs =
    let W : Point → Type 0 = IsPointWithin (2 ^ 77) in
    record {
      hull = box_hull w x y z k;
      sized = All-cons W w (x ∷ y ∷ z ∷ []) ws (All-cons W x (y ∷ z ∷ []) xs (All-cons W y (z ∷ []) ys (All-cons W z [] zs (All-nil W))));
      some = omega arith;
      few = omega arith;
    }

pub corners_done : (R : Area) (i : ℕ) (cs : List Point) → length R ≤ i → AreCorners (take i R) cs → AreCorners R cs
corners_done R i cs h k = rw (take_all i R h) at k
