-- Corners sorted by a line, one at a time.
use Rattle.std.proofs.Common.{◌≡◌, List, [], ◌∷◌, ◌++◌, pos, ◌≤ℤ◌, ◌<ℤ◌, All, Some, refl, arith, length-append}
use Rattle.std.proofs.lemmas.List.Elements.{All-push, All-pop}
use Rattle.srs_num.specs.Points.{LinearForm, Point, value, IsPointWithin}
use Rattle.srs_cell.specs.Hull.{IsInHalves}
use Rattle.srs_cell.specs.Cutting.{IsKept}

front : {X : Type 0} (P : X → Type 0) (xs : List X) (x : X) → All P (xs ++ x ∷ []) → All P xs
front P xs x h = (All-pop P (xs ++ x ∷ []) xs (Some x) refl h).0

last : {X : Type 0} (P : X → Type 0) (xs : List X) (x : X) → All P (xs ++ x ∷ []) → P x
last P xs x h = (All-pop P (xs ++ x ∷ []) xs (Some x) refl h).1

not_empty : {X : Type 0} (xs : List X) (x : X) → xs ++ x ∷ [] ≡ [] → ⊥
not_empty [] x e = cc
not_empty (y ∷ ys) x e = cc

pub kept_push : (g : LinearForm) (cs us : List Point) (c : Point) → pos 0 ≤ℤ value g c → IsKept g cs us → IsKept g (cs ++ c ∷ []) (us ++ c ∷ [])
kept_push g cs us c h k = record {
  below = k.below;
  above_line = All-push (λ c. pos 0 ≤ℤ value g c) us c k.above_line h;
  below_line = k.below_line;
  cover = λ f a b. let P : Point → Type 0 = λ c. pos 0 ≤ℤ value f c in All-push P cs c (k.cover f (front P us c a) b) (last P us c a);
  us_inside = λ hs a. All-push (IsInHalves hs) us c (k.us_inside hs (front (IsInHalves hs) cs c a)) (last (IsInHalves hs) cs c a);
  below_inside = λ hs a. k.below_inside hs (front (IsInHalves hs) cs c a);
  all_below = λ e. absurd (not_empty us c e);
  sized = λ m a. All-push (IsPointWithin m) us c (k.sized m (front (IsPointWithin m) cs c a)) (last (IsPointWithin m) cs c a);
  fewer = let old = k.fewer in omega (arith, length-append us (c ∷ []), length-append cs (c ∷ []));
}

pub kept_skip : (g : LinearForm) (cs us : List Point) (c : Point) → value g c <ℤ pos 0 → IsKept g cs us → IsKept g (cs ++ c ∷ []) us
kept_skip g cs us c h k = record {
  below = k.below ++ c ∷ [];
  above_line = k.above_line;
  below_line = All-push (λ c. value g c <ℤ pos 0) k.below c k.below_line h;
  cover = λ f a b. let P : Point → Type 0 = λ c. pos 0 ≤ℤ value f c in All-push P cs c (k.cover f a (front P k.below c b)) (last P k.below c b);
  us_inside = λ hs a. k.us_inside hs (front (IsInHalves hs) cs c a);
  below_inside = λ hs a. All-push (IsInHalves hs) k.below c (k.below_inside hs (front (IsInHalves hs) cs c a)) (last (IsInHalves hs) cs c a);
  all_below = λ e. All-push (λ c. value g c <ℤ pos 0) cs c (k.all_below e) h;
  sized = λ m a. k.sized m (front (IsPointWithin m) cs c a);
  fewer = let old = k.fewer in omega (arith, length-append k.below (c ∷ []), length-append cs (c ∷ []));
}
