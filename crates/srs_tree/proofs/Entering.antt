-- One entry more, from the open cell to the snapshot.
use Rattle.std.proofs.Common.{◌≡◌, inl, ℕ, zero, suc, ◌+◌, ◌≤◌, ◌<◌, ◌^◌, List, [], ◌∷◌, ◌++◌, length, slice_get, refl, sym, ap, ap₂, subst, ◌∙◌, arith, Some, None}
use Rattle.std.specs.Prelude.{slice_set, OnOk, Ok, Err}
use Rattle.std.specs.declared.result.Result.{Result}
use Rattle.std.specs.declared.option.Option.{Option}
use Rattle.std.specs.FinMap as finite
use Rattle.std.specs.Cmp.Lexicographic.{slice_cmp}
use Rattle.std.proofs.lemmas.Option.{none-some, same_Some}
use Rattle.srs_plane.specs.Regions.{Area, HasPoint}
use Rattle.srs_path.specs.declared.paths.Side.{Side}
use Rattle.srs_path.specs.Views.{Found}
use Rattle.srs_path.specs.Soundness.{IsSound}
use Rattle.srs_path.specs.declared.outcomes.Outcome.{Outcome}
use Rattle.srs_path.specs.declared.outcomes.Outcome.TheVariants.{Cut}
use Rattle.srs_tree.specs.declared.refusals.TreeErr.{TreeErr}
use Rattle.srs_tree.specs.declared.refusals.TreeErr.TheVariants.{NotThere, Done, OtherCell, NoMemory}
use Rattle.srs_tree.specs.Tree.{IsCellOf, region_at}
use Rattle.srs_tree.specs.Growth.{IsProvedOf, IsShortCut, IsOpenIn, MayEnter, IsTreeErr, SaysDone, SaysOther}
use Rattle.srs_tree.specs.Snapshots.{side_cmp, Snapshot, tree_of, with_entry}
use Rattle.srs_tree.specs.Nodes.{Spot, entries_of, root_of, snapshot_of, spots_tree, IsSpotOf, AreSpots, IsPlaceOf, parts_from, spot_with, grown, IsReadyFor, MaySettle, IsOpenAt, IsCounted, HasGrown}
use Rattle.srs_tree.specs.Nodes.{open_cells, spot_of, waiting_of}
use Rattle.std.proofs.Common.{map}
use Rattle.srs_tree.specs.Rounds.{parts_by}
use Rattle.srs_tree.specs.Queue.{WaitingCell, without, cell_in}
use Rattle.srs_tree.specs.Ahead.{cells_made}
use Rattle.srs_tree.proofs.OpenCells.{open_after}
use Rattle.srs_tree.proofs.Opened.{parts_came, spots_again, cells_again}
use Rattle.srs_tree.proofs.Places.{set_left}
use Rattle.srs_tree.proofs.Growing.{are_spots, snapshot_after, len_after, entries_fewer}
use Rattle.srs_tree.proofs.Spots.{tree_there}
use Rattle.srs_tree.proofs.Descent.{read_spot, spots_closed}
use Rattle.srs_tree.proofs.Regions.{proved_of, may_enter, is_open, spot_region}

module _ (xs : List Spot) (p : List Side) (f : Found) (i : ℕ) (tree : AreSpots xs) (at : IsOpenAt xs p f.region i) where
  -- the spot that was read
  pub is_spot : (x : Spot) → slice_get xs i ≡ Some x → at.spot ≡ x
  is_spot x e = same_Some at.spot x (sym at.is ∙ e)

  -- where the path has at most 48 sides, the finding may come to the spot
  pub ready : length p ≤ 48 → IsShortCut p f.outcome → (x : Spot) → slice_get xs i ≡ Some x → IsReadyFor x f
  ready short room x e = subst (λ (y : Spot). IsReadyFor y f) (is_spot x e) (record {
    fresh = at.fresh;
    same = at.region;
    room = subst (λ (q : List Side). IsShortCut q f.outcome) (sym at.at_path) room;
    few = few (tree.each i at.spot at.is).few (ap length at.at_path);
  })
    where
      few : length at.spot.region ≤ 16 + length at.spot.path → length at.spot.path ≡ length p → length at.spot.region < 80
      few a b = omega (arith, a, b, short)

  pub has_grown : (ys : List Spot) → length xs ≤ 2 ^ 48 → IsSound f.region f.w f.outcome → ((x : Spot) → slice_get xs i ≡ Some x → ys ≡ grown xs i x f.outcome) → HasGrown xs ys p f
  has_grown ys most sound is =
      let proved : IsProvedOf at.spot.region f.outcome = subst (λ (R : Area). IsProvedOf R f.outcome) (sym at.region) (proved_of f.region f.w f.outcome sound) in
      let same : ys ≡ grown xs i at.spot f.outcome = is at.spot at.is in
      record {
        may = may_enter xs tree i at.spot p f at.is at.at_path at.fresh at.region;
        spots = subst AreSpots (sym same) (are_spots xs i at.spot f.outcome tree at.is at.fresh proved);
        snapshot = ap snapshot_of same ∙ snapshot_after xs i at.spot f.outcome tree at.is at.fresh proved ∙ ap (λ (q : List Side). with_entry (snapshot_of xs) q f.outcome) at.at_path;
        count = ap (λ (zs : List Spot). finite.len (entries_of zs)) same ∙ len_after xs i at.spot f.outcome tree at.is at.fresh proved;
        waiting = ap open_cells same ∙ open_after xs i at.spot f.outcome tree.once at.is at.fresh
            ∙ ap₂ (λ (q : List Side) (ws : List WaitingCell). without q (open_cells xs) ++ ws) at.at_path (parts_came xs ys p f i tree at sound same);
        few = let less = entries_fewer xs i at.spot at.is at.fresh in omega (arith, less, most);
      }

  -- the same, where the finding came
  pub grown_ok : {A E : Type 0} (ys : List Spot) (r : Result A E) → OnOk r ((x : Spot) → slice_get xs i ≡ Some x → ys ≡ grown xs i x f.outcome) → OnOk r (length xs ≤ 2 ^ 48)
      → OnOk r (IsSound f.region f.w f.outcome) → OnOk r (HasGrown xs ys p f)
  grown_ok ys (Ok a) is most sound = has_grown ys most sound is
  grown_ok ys (Err e) is most sound = is

-- the parts that were made before a finding comes
module _ (xs : List Spot) (p : List Side) (f : Found) (i : ℕ) (tree : AreSpots xs) (at : IsOpenAt xs p f.region i) (most : length xs ≤ 2 ^ 48) (sound : IsSound f.region f.w f.outcome) where
  abbrev next : List Spot
  next = grown xs i at.spot f.outcome

  next_is : HasGrown xs next p f
  next_is = has_grown xs p f i tree at next most sound (λ x e. ap (λ (y : Spot). grown xs i y f.outcome) (is_spot xs p f i tree at x e))

  abbrev coming : List WaitingCell
  coming = map (cell_in (with_entry (snapshot_of xs) p f.outcome)) (parts_by p f.outcome)

  coming_is : map waiting_of (parts_from at.spot f.outcome) ≡ coming
  coming_is = parts_came xs next p f i tree at sound refl ∙ ap (λ (v : Snapshot). map (cell_in v) (parts_by p f.outcome)) next_is.snapshot

  pub parts_before : (x : Spot) → slice_get xs i ≡ Some x → map waiting_of (parts_from x f.outcome) ≡ coming
  parts_before x e = ap (λ (y : Spot). map waiting_of (parts_from y f.outcome)) (sym (is_spot xs p f i tree at x e)) ∙ coming_is

  -- the same, by the cells that the outcome makes of the cell at the path
  pub made_before : cells_made (record { path = p; region = f.region }) f.outcome ≡ coming
  made_before =
      ap₂ (λ (q : List Side) (R : Area). cells_made (record { path = q; region = R }) f.outcome) (sym at.at_path) (sym at.region)
      ∙ sym (cells_again at.spot f.outcome) ∙ coming_is

  -- the same parts, entered
  pub grown_parts : (ys parts : List Spot) (cells : List WaitingCell) (o : Outcome) → parts ≡ map spot_of cells → cells ≡ coming → o ≡ f.outcome
      → ((x : Spot) → slice_get xs i ≡ Some x → parts ≡ parts_from x o → ys ≡ grown xs i x o) → HasGrown xs ys p f
  grown_parts ys parts cells o parts_are cells_are same is =
      has_grown xs p f i tree at ys most sound (λ x e.
      let there : parts ≡ parts_from x f.outcome = parts_are ∙ ap (map spot_of) (cells_are ∙ sym (parts_before x e)) ∙ spots_again x f.outcome in
      is x e (there ∙ ap (parts_from x) (sym same)) ∙ ap (grown xs i x) same)

-- a finding that may come is proved
pub may_settle : (x : Spot) (f : Found) → IsReadyFor x f → IsSound f.region f.w f.outcome → MaySettle x f.outcome
may_settle x f r s = record {
  fresh = r.fresh;
  proved = subst (λ (R : Area). IsProvedOf R f.outcome) (sym r.same) (proved_of f.region f.w f.outcome s);
  room = r.room;
  few = r.few;
}

-- what the refusals say of the tree
pub done_err : (v : Snapshot) (p : List Side) (f : Found) (o : Outcome) (e : TreeErr) → IsCellOf (tree_of v) p → tree_of v p ≡ Some o → SaysDone o f e → IsTreeErr v p f e
done_err v p f o (NotThere q) c h s = absurd s
done_err v p f o (Done given) c h s = (c, h ∙ ap Some (sym s))
done_err v p f o (OtherCell d) c h s = absurd s
done_err v p f o (NoMemory g) c h s = s

pub other_err : (v : Snapshot) (p : List Side) (f : Found) (R : Area) (e : TreeErr) → IsOpenIn (tree_of v) p → R ≡ region_at v.region (tree_of v) p → (R ≡ f.region → ⊥) → SaysOther R f e → IsTreeErr v p f e
other_err v p f R (NotThere q) c h n s = absurd s
other_err v p f R (Done given) c h n s = absurd s
other_err v p f R (OtherCell d) c h n s = (c, s ∙ h, λ q. n (sym (q ∙ s)))
other_err v p f R (NoMemory g) c h n s = s

-- the answers at a place, by the spot x that was read there
module _ (xs : List Spot) (p : List Side) (i : ℕ) (x : Spot) (tree : AreSpots xs) (at : IsPlaceOf xs p i) (read : slice_get xs i ≡ Some x) where
  here : (slice_get xs i ≡ Some x) × (x.path ≡ p)
  here = read_spot xs p i x at read

  cell : IsCellOf (spots_tree xs) p
  cell = subst (IsCellOf (spots_tree xs)) here.1 (tree.each i x here.0).cell

  pub has_outcome : spots_tree xs p ≡ x.outcome
  has_outcome = ap (spots_tree xs) (sym here.1) ∙ tree_there xs tree.once i x here.0

  pub place_done : (f : Found) (o : Outcome) (e : TreeErr) → x.outcome ≡ Some o → SaysDone o f e → IsTreeErr (snapshot_of xs) p f e
  place_done f o e q says = done_err (snapshot_of xs) p f o e cell (has_outcome ∙ q) says

  pub place_other : (f : Found) (e : TreeErr) → x.outcome ≡ None → (x.region ≡ f.region → ⊥) → SaysOther x.region f e → IsTreeErr (snapshot_of xs) p f e
  place_other f e fresh apart says =
      other_err (snapshot_of xs) p f x.region e (subst (IsOpenIn (spots_tree xs)) here.1 (is_open xs tree i x here.0 fresh))
      (spot_region xs tree i x here.0 ∙ ap (region_at (root_of xs) (spots_tree xs)) here.1) apart says

  pub place_open : (f : Found) → x.outcome ≡ None → x.region ≡ f.region → IsOpenAt xs p f.region i
  place_open f fresh same = record { spot = x; is = here.0; at_path = here.1; fresh = fresh; region = same }

-- the spot of a cell at which a finding may be entered is open, and of its region
pub open_at : (xs : List Spot) (p : List Side) (i : ℕ) (f : Found) → AreSpots xs → IsPlaceOf xs p i → MayEnter (snapshot_of xs) p f → IsOpenAt xs p f.region i
open_at xs p i f tree at may =
    place_open xs p i at.spot tree at at.is f (sym (has_outcome xs p i at.spot tree at at.is) ∙ may.is_open.open_yet)
    (spot_region xs tree i at.spot at.is ∙ ap (region_at (root_of xs) (spots_tree xs)) at.path ∙ sym may.same)

-- where the path is no cell, it has nothing
pub no_outcome : (xs : List Spot) (p : List Side) → AreSpots xs → (IsCellOf (spots_tree xs) p → ⊥) → spots_tree xs p ≡ None
no_outcome xs p tree none = by_tree (spots_tree xs p) refl
  where
    by_tree : (u : Option Outcome) → spots_tree xs p ≡ u → spots_tree xs p ≡ None
    by_tree None e = e
    by_tree (Some o) e = absurd (none (spots_closed xs tree p o e))

-- the spot of a cell alone
pub one_spot : (R : Area) → HasPoint R → length R ≤ 16 → AreSpots (record { path = []; region = R; outcome = None; parts = 0 } ∷ [])
one_spot R some few = record {
  first = root;
  is_first = refl;
  root = refl;
  has_point = some;
  once = λ i j d l m. absurd (omega (arith, l, m));
  each = each;
}
  where
    root : Spot
    root = record { path = []; region = R; outcome = None; parts = 0 }

    each : (i : ℕ) (x : Spot) → slice_get (root ∷ []) i ≡ Some x → IsSpotOf (root ∷ []) x
    each zero x e = subst (IsSpotOf (root ∷ [])) (same_Some root x e) (record {
      cell = inl refl;
      few = omega (arith, few);
      proved = λ o q. absurd (none-some o q);
      parts = λ h q s. absurd (none-some (Cut h) q);
    })
    each (suc i) x e = absurd (none-some x e)

-- the spots after the parts came and the outcome was written
pub grown_by : (xs zs ys ps : List Spot) (i n : ℕ) (r w x : Spot) (o : Outcome) → i < length xs → slice_get xs i ≡ Some r → n ≡ length xs → w ≡ spot_with r o n → zs ≡ xs ++ ps → ys ≡ slice_set zs i w
    → slice_get xs i ≡ Some x → ps ≡ parts_from x o → ys ≡ grown xs i x o
grown_by xs zs ys ps i n r w x o l read len is more set e parts =
    let same : r ≡ x = same_Some r x (sym read ∙ e) in
    let to : w ≡ spot_with x o (length xs) = is ∙ ap₂ (λ (y : Spot) (m : ℕ). spot_with y o m) same len in
    set ∙ ap (λ (u : List Spot). slice_set u i w) more ∙ set_left xs ps i w l
    ∙ ap₂ (λ (z : Spot) (zs : List Spot). slice_set xs i z ++ zs) to parts

-- the same, by the spot that was read
pub grown_for : (xs ys ps : List Spot) (i : ℕ) (o u : Outcome) (r x : Spot) → o ≡ u → slice_get xs i ≡ Some r → ps ≡ parts_from r u
    → ((y : Spot) → slice_get xs i ≡ Some y → ps ≡ parts_from y o → ys ≡ grown xs i y o) → slice_get xs i ≡ Some x → ys ≡ grown xs i x u
grown_for xs ys ps i o u r x q read parts is e =
    let same : r ≡ x = same_Some r x (sym read ∙ e) in
    let made : ps ≡ parts_from x o = parts ∙ ap₂ parts_from same (sym q) in
    is x e made ∙ ap (grown xs i x) q

-- the first version
pub started : (xs : List Spot) (R : Area) → HasPoint R → length R ≤ 16 → xs ≡ record { path = []; region = R; outcome = None; parts = 0 } ∷ [] → IsCounted xs 0
started xs R some few is = subst (λ (ys : List Spot). IsCounted ys 0) (sym is) (record {
  spots = one_spot R some few;
  count = sym (finite.len-empty (slice_cmp side_cmp) Outcome);
})
