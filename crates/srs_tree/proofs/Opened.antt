-- The parts that come to a tree are cells of it.
use Rattle.std.proofs.Common.{◌≡◌, ℕ, ◌+◌, List, [], ◌∷◌, ◌++◌, map, length, slice_get, refl, sym, ap, ap₂, subst, ◌∙◌, Some, None}
use Rattle.std.specs.Prelude.{slice_set, OnOk, IfOk, Ok, Err}
use Rattle.std.specs.declared.result.Result.{Result}
use Rattle.srs_num.specs.Points.{LinearForm}
use Rattle.srs_plane.specs.Regions.{Area}
use Rattle.srs_path.specs.declared.paths.Side.{Side}
use Rattle.srs_path.specs.declared.paths.Side.TheVariants.{Ge, Lt}
use Rattle.srs_path.specs.declared.outcomes.Outcome.{Outcome}
use Rattle.srs_path.specs.declared.outcomes.Outcome.TheVariants.{Inside, Outside, Cut, Left}
use Rattle.srs_path.specs.Views.{Found}
use Rattle.srs_path.specs.Soundness.{IsSound}
use Rattle.srs_tree.specs.Rounds.{parts_by}
use Rattle.srs_tree.specs.Growth.{IsProvedOf}
use Rattle.srs_tree.specs.Queue.{WaitingCell, cell_in}
use Rattle.srs_tree.specs.Ahead.{cells_made}
use Rattle.srs_tree.specs.Nodes.{Spot, snapshot_of, AreSpots, part_of, parts_from, spot_of, waiting_of, grown, IsOpenAt}
use Rattle.srs_tree.proofs.Places.{get_right}
use Rattle.srs_tree.proofs.Growing.{settled, are_spots}
use Rattle.srs_tree.proofs.Regions.{proved_of, spot_region}

module _ (xs : List Spot) (i : ℕ) (x : Spot) (o : Outcome) (tree : AreSpots xs) (there : slice_get xs i ≡ Some x) (fresh : x.outcome ≡ None) (proved : IsProvedOf x.region o) where
  abbrev after : List Spot
  after = grown xs i x o

  abbrev front : List Spot
  front = slice_set xs i (settled xs x o)

  part_is : (h : LinearForm) (s : Side) (m : ℕ) → o ≡ Cut h → slice_get (parts_from x (Cut h)) m ≡ Some (part_of x s h) → waiting_of (part_of x s h) ≡ cell_in (snapshot_of after) (x.path ++ s ∷ [])
  part_is h s m q e =
      let at : slice_get after (length front + m) ≡ Some (part_of x s h)
      = subst (λ (u : Outcome). slice_get (front ++ parts_from x u) (length front + m) ≡ Some (part_of x s h)) (sym q) (get_right front (parts_from x (Cut h)) m (part_of x s h) e) in
      ap (λ (R : Area). let w : WaitingCell = record { path = x.path ++ s ∷ []; region = R } in w)
      (spot_region after (are_spots xs i x o tree there fresh proved) (length front + m) (part_of x s h) at)

  -- the parts that an outcome makes are cells of the tree with it
  pub parts_are : (u : Outcome) → o ≡ u → map waiting_of (parts_from x u) ≡ map (cell_in (snapshot_of after)) (parts_by x.path u)
  parts_are (Inside ranks) q = refl
  parts_are (Outside cycle) q = refl
  parts_are (Cut h) q = ap₂ (λ (a b : WaitingCell). a ∷ b ∷ []) (part_is h Ge 0 q refl) (part_is h Lt 1 q refl)
  parts_are (Left cause) q = refl

-- the same, for an open cell to which a finding came
pub parts_came : (xs ys : List Spot) (p : List Side) (f : Found) (i : ℕ) → AreSpots xs → (at : IsOpenAt xs p f.region i) → IsSound f.region f.w f.outcome → ys ≡ grown xs i at.spot f.outcome → map waiting_of (parts_from at.spot f.outcome) ≡ map (cell_in (snapshot_of ys)) (parts_by p f.outcome)
parts_came xs ys p f i tree at sound same =
    let proved : IsProvedOf at.spot.region f.outcome = subst (λ (R : Area). IsProvedOf R f.outcome) (sym at.region) (proved_of f.region f.w f.outcome sound) in
    parts_are xs i at.spot f.outcome tree at.is at.fresh proved f.outcome refl
    ∙ ap₂ (λ (zs : List Spot) (q : List Side). map (cell_in (snapshot_of zs)) (parts_by q f.outcome)) (sym same) at.at_path

-- the same, where the finding came
pub parts_ok : {A E : Type 0} (cells : A → List WaitingCell) (xs ys : List Spot) (p : List Side) (f : Found) (i : ℕ) → AreSpots xs → IsOpenAt xs p f.region i → (r : Result A E)
    → OnOk r ((x : Spot) → slice_get xs i ≡ Some x → ys ≡ grown xs i x f.outcome) → OnOk r (IsSound f.region f.w f.outcome)
    → IfOk r (λ a. (x : Spot) → slice_get xs i ≡ Some x → cells a ≡ map waiting_of (parts_from x f.outcome)) → IfOk r (λ a. cells a ≡ map (cell_in (snapshot_of ys)) (parts_by p f.outcome))
parts_ok cells xs ys p f i tree at (Ok a) is sound made = made at.spot at.is ∙ parts_came xs ys p f i tree at sound (is at.spot at.is)
parts_ok cells xs ys p f i tree at (Err e) is sound made = made

-- the cells of the parts that an outcome makes, as spots
pub spots_again : (x : Spot) (o : Outcome) → map spot_of (map waiting_of (parts_from x o)) ≡ parts_from x o
spots_again x (Inside ranks) = refl
spots_again x (Outside cycle) = refl
spots_again x (Cut h) = refl
spots_again x (Left cause) = refl

-- the parts that an outcome makes of a spot, as cells
pub cells_again : (x : Spot) (o : Outcome) → map waiting_of (parts_from x o) ≡ cells_made (waiting_of x) o
cells_again x (Inside ranks) = refl
cells_again x (Outside cycle) = refl
cells_again x (Cut h) = refl
cells_again x (Left cause) = refl
