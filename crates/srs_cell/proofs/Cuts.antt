-- The ways in which a cut ends.
use Rattle.std.proofs.Common.{◌≡◌, ◌+◌, ◌^◌, ◌≤◌, List, [], ◌∷◌, ◌++◌, map, length, length-append, get_or, pos, ◌≤ℤ◌, ◌<ℤ◌, All, Some, refl, arith}
use Rattle.std.proofs.lemmas.List.Elements.{All-nil, All-cons, All-push, All-pop, All-head, All-tail}
use Rattle.srs_num.specs.Points.{LinearForm, Point, value, opposite, IsPointWithin}
use Rattle.srs_num.specs.Lines.{meet}
use Rattle.srs_cell.specs.Hull.{IsInHalves, IsAbove, IsBelow, IsHull}
use Rattle.srs_cell.specs.Cutting.{IsEndAt, IsKept, IsPart}
use Rattle.srs_cell.proofs.Section.{in_more, in_front, in_last, clip_is_hull}
use Rattle.srs_cell.proofs.Signs.{both_signs}
use Rattle.srs_cell.proofs.Extremes.{all_below}
use Rattle.srs_cell.proofs.Boxed.{IsBoxed, box-IsBoxed, boxed_end, boxed_end_opposite}
use Rattle.srs_plane.specs.Regions.{Area}
use Rattle.srs_cell.specs.Corners.{boxed, AreCorners}
use Rattle.srs_cell.specs.Tallies.{IsTally}
use Rattle.srs_cell.specs.declared.tallies.Tally.{Tally}
use Rattle.srs_cell.proofs.Counting.{some_below, not_all_below}

in_turned : (hs : List LinearForm) (g : LinearForm) (z : Point) → IsInHalves (g ∷ hs) z → IsInHalves (hs ++ g ∷ []) z
in_turned hs g z i =
    let P : LinearForm → Type 0 = λ h. pos 0 ≤ℤ value h z in
    in_more hs g z (record { positive = i.positive; each = All-tail P g hs i.each }) (All-head P g hs i.each)

-- all corners are kept
pub whole_left : (hs : List LinearForm) (cs : List Point) (g : LinearForm) → IsHull hs cs → IsAbove g cs → IsHull (hs ++ g ∷ []) cs
whole_left hs cs g hull up = record {
  inside = λ i d lt. in_more hs g (get_or cs i d) (hull.inside i d lt) (up i d lt);
  whole = λ f above z z_in. hull.whole f above z (in_front hs g z z_in);
}

-- no corner is kept
pub nothing_left : (hs : List LinearForm) (cs : List Point) (g : LinearForm) → IsHull hs cs → IsBelow g cs → (z : Point) → IsInHalves (hs ++ g ∷ []) z → ⊥
nothing_left hs cs g hull low z i = both_signs _ (in_last hs g z i) (all_below hs cs g hull low z (in_front hs g z i))

reordered : (hs : List LinearForm) (g : LinearForm) (us : List Point) (x y : Point) → IsHull (g ∷ hs) (x ∷ y ∷ us) → IsHull (hs ++ g ∷ []) ((us ++ x ∷ []) ++ y ∷ [])
reordered hs g us x y hull = record {
  inside =
      let Q : Point → Type 0 = IsInHalves (hs ++ g ∷ []) in
      let i : All Q (x ∷ y ∷ us) = λ k d lt. in_turned hs g (get_or (x ∷ y ∷ us) k d) (hull.inside k d lt) in
      let j = All-tail Q x (y ∷ us) i in
      All-push Q (us ++ x ∷ []) y (All-push Q us x (All-tail Q y us j) (All-head Q x (y ∷ us) i)) (All-head Q y us j);
  whole = λ f above z z_in.
      let P : Point → Type 0 = λ c. pos 0 ≤ℤ value f c in
      let a = All-pop P ((us ++ x ∷ []) ++ y ∷ []) (us ++ x ∷ []) (Some y) refl above in
      let b = All-pop P (us ++ x ∷ []) us (Some x) refl a.0 in
      hull.whole f (All-cons P x (y ∷ us) b.1 (All-cons P y us a.1 b.0)) z
      (record { positive = z_in.positive; each = All-cons (λ h. pos 0 ≤ℤ value h z) g hs (in_last hs g z z_in) (in_front hs g z z_in).each });
}

-- some corners are kept, and some are not
pub record IsCut (hs : List LinearForm) (cs : List Point) (g : LinearForm) (us : List Point) : Type 0 where
  pub first : (All (λ h. (meet h g).d ≤ℤ pos 0) hs) → ⊥
  pub second : (All (λ h. (meet h (opposite g)).d ≤ℤ pos 0) hs) → ⊥
  pub ends : (x y : Point) → IsEndAt g hs x → IsEndAt (opposite g) hs y → IsPart hs cs g ((us ++ x ∷ []) ++ y ∷ [])

clip_part : (hs : List LinearForm) (cs us ns : List Point) (g : LinearForm) → IsHull hs cs → ((f : LinearForm) → IsAbove f us → IsAbove f ns → IsAbove f cs)
    → All (IsInHalves hs) us → All (IsInHalves hs) ns → IsAbove g us → IsBelow g ns → IsBoxed hs
    → All (IsPointWithin (2 ^ 77)) us → length us + length ns ≤ length cs
    → (us ≡ [] → ⊥) → (ns ≡ [] → ⊥) → IsCut hs cs g us
clip_part hs cs [] ns g hull cover ui ni gu gn box sized few no_u no_n = absurd (no_u refl)
clip_part hs cs (u ∷ us) [] g hull cover ui ni gu gn box sized few no_u no_n = absurd (no_n refl)
clip_part hs cs (u ∷ us) (n ∷ ns) g hull cover ui ni gu gn box sized few no_u no_n =
    let P : Point → Type 0 = λ c. pos 0 ≤ℤ value g c in
    let N : Point → Type 0 = λ c. value g c <ℤ pos 0 in
    let W : Point → Type 0 = IsPointWithin (2 ^ 77) in
    let u_up = All-head P u us gu in
    let n_low = All-head N n ns gn in
    let u_in = All-head (IsInHalves hs) u us ui in
    let n_in = All-head (IsInHalves hs) n ns ni in
    record {
      first = boxed_end hs g u n box u_up n_low u_in.positive n_in.positive;
      second = boxed_end_opposite hs g u n box u_up n_low u_in.positive n_in.positive;
      ends = λ x y x_end y_end.
          let joined : IsHull (hs ++ g ∷ []) (((u ∷ us) ++ meet x_end.half g ∷ []) ++ meet y_end.half (opposite g) ∷ []) =
          reordered hs g (u ∷ us) _ _
          (clip_is_hull hs cs (u ∷ us) (n ∷ ns) x_end.half y_end.half g u n hull cover ui ni gu gn u_up u_in n_low n_in x_end.is_end y_end.is_end) in
          record {
            hull = rw (x_end.crossing, y_end.crossing) joined;
            sized = All-push W ((u ∷ us) ++ x ∷ []) y (All-push W (u ∷ us) x sized x_end.sized) y_end.sized;
            some = omega (arith, length-append ((u ∷ us) ++ x ∷ []) (y ∷ []), length-append (u ∷ us) (x ∷ []));
            few = omega (arith, length-append ((u ∷ us) ++ x ∷ []) (y ∷ []), length-append (u ∷ us) (x ∷ []));
          };
    }

pub cut_of : (hs : List LinearForm) (cs us : List Point) (g : LinearForm) → IsHull hs cs → All (IsPointWithin (2 ^ 77)) cs → IsBoxed hs → IsKept g cs us
    → (IsAbove g cs → ⊥) → (IsBelow g cs → ⊥) → IsCut hs cs g us
cut_of hs cs us g hull sized box k not_all some =
    clip_part hs cs us k.below g hull k.cover (k.us_inside hs hull.inside) (k.below_inside hs hull.inside) k.above_line k.below_line box (k.sized (2 ^ 77) sized) k.fewer
    (λ e. some (k.all_below e))
    (λ e. not_all (k.cover g k.above_line (none_there k.below e)))
  where
    none_there : (ns : List Point) → ns ≡ [] → IsAbove g ns
    none_there [] e = All-nil (λ c. pos 0 ≤ℤ value g c)
    none_there (n ∷ ns) e = cc

-- the same of the corners of a region, by their tally
pub region_cut : (R : Area) (cs us : List Point) (g : LinearForm) (t : Tally) → AreCorners R cs → IsKept g cs us → IsTally g cs t → 1 ≤ t.above + t.on → 1 ≤ t.below → IsCut (boxed R) cs g us
region_cut R cs us g t corners kept tally some below =
    cut_of (boxed R) cs us g corners.hull corners.sized (box-IsBoxed (map (λ h. h.form) R)) kept (some_below g cs t tally below) (not_all_below g cs t tally some)
