-- What a version keeps of its tree: one spot for each cell, in the order in which the cells were made.
use Rattle.std.specs.Prelude.{◌≡◌, ◌≢◌, ℕ, ◌+◌, ◌<◌, ◌≤◌, ◌^◌, List, [], ◌∷◌, ◌++◌, AllPairs, length, map, slice_get, slice_set, Some, None}
use Rattle.std.specs.declared.option.Option.{Option}
use Rattle.std.specs.FinMap as finite
use Rattle.srs_num.specs.Points.{Point, LinearForm}
use Rattle.srs_plane.specs.Regions.{Area, IsIn, IsInHalf, HasPoint}
use Rattle.srs_path.specs.declared.paths.Side.{Side}
use Rattle.srs_path.specs.declared.paths.Side.TheVariants.{Ge, Lt}
use Rattle.srs_path.specs.declared.outcomes.Outcome.{Outcome}
use Rattle.srs_path.specs.declared.outcomes.Outcome.TheVariants.{Inside, Outside, Cut, Left}
use Rattle.srs_path.specs.Views.{Found}
use Rattle.srs_tree.specs.Tree.{Tree, IsCellOf, HoldsAt, half_on}
use Rattle.srs_tree.specs.Snapshots.{Entries, Snapshot, tree_of, with_entry}
use Rattle.srs_tree.specs.Rounds.{parts_by}
use Rattle.srs_tree.specs.Queue.{WaitingCell, cell_in, without}
use Rattle.srs_tree.specs.Growth.{IsProvedOf, IsShortCut, MayEnter}

-- a cell's path, its region, its outcome if it has one, and for a cut the place of its Ge part, after which the Lt part stands
pub record Spot : Type 0 where
  pub path : List Side
  pub region : Area
  pub outcome : Option Outcome
  pub parts : ℕ

-- the entries with what a path has
abbrev pub entered : Entries → List Side → Option Outcome → Entries
entered m path None = m
entered m path (Some o) = finite.insert m path o

abbrev pub entries_of : List Spot → Entries
entries_of [] = finite.empty
entries_of (x ∷ xs) = entered (entries_of xs) x.path x.outcome

-- the region of the first spot
abbrev pub root_of : List Spot → Area
root_of [] = []
root_of (x ∷ xs) = x.region

abbrev pub snapshot_of : List Spot → Snapshot
snapshot_of xs = record { region = root_of xs; entries = entries_of xs }

abbrev pub spots_tree : List Spot → Tree
spots_tree xs = tree_of (snapshot_of xs)

-- the place of one part of a cut, from the place of its Ge part
abbrev pub part_place : ℕ → Side → ℕ
part_place parts Ge = parts
part_place parts Lt = parts + 1

-- the spot at the place i is the part on the side s of a cut of x by h
pub record IsPartAt (xs : List Spot) (i : ℕ) (x : Spot) (s : Side) (h : LinearForm) : Type 0 where
  pub spot : Spot
  pub is : slice_get xs i ≡ Some spot
  pub path : spot.path ≡ x.path ++ s ∷ []
  pub region : spot.region ≡ x.region ++ half_on s h ∷ []

-- what is kept of each spot: its path is a cell, its region has at most 16 halves and one for each side of the path, its
-- outcome is proved there, and the parts of its cut stand where it says
pub record IsSpotOf (xs : List Spot) (x : Spot) : Type 0 where
  pub cell : IsCellOf (spots_tree xs) x.path
  pub few : length x.region ≤ 16 + length x.path
  pub proved : (o : Outcome) → x.outcome ≡ Some o → IsProvedOf x.region o
  pub parts : (h : LinearForm) → x.outcome ≡ Some (Cut h) → (s : Side) → IsPartAt xs (part_place x.parts s) x s h

-- the spots of a tree: the root first, and no path twice
pub record AreSpots (xs : List Spot) : Type 0 where
  pub first : Spot
  pub is_first : slice_get xs 0 ≡ Some first
  pub root : first.path ≡ []
  pub has_point : HasPoint first.region
  pub once : AllPairs ◌≢◌ (map (λ x. x.path) xs)
  pub each : (i : ℕ) (x : Spot) → slice_get xs i ≡ Some x → IsSpotOf xs x

-- the part of x on the side s of the form h
abbrev pub part_of : Spot → Side → LinearForm → Spot
part_of x s h = record { path = x.path ++ s ∷ []; region = x.region ++ half_on s h ∷ []; outcome = None; parts = 0 }

-- the parts that an outcome makes of x
abbrev pub parts_from : Spot → Outcome → List Spot
parts_from x (Inside ranks) = []
parts_from x (Outside cycle) = []
parts_from x (Cut h) = part_of x Ge h ∷ part_of x Lt h ∷ []
parts_from x (Left cause) = []

-- the spot x with this outcome, whose parts stand from the place n on
abbrev pub spot_with : Spot → Outcome → ℕ → Spot
spot_with x o n = record { path = x.path; region = x.region; outcome = Some o; parts = n }

-- the spots after the outcome came to the spot x at the place i
abbrev pub grown : List Spot → ℕ → Spot → Outcome → List Spot
grown xs i x o = slice_set xs i (spot_with x o (length xs)) ++ parts_from x o

-- the spot as a cell that waits
abbrev pub waiting_of : Spot → WaitingCell
waiting_of x = record { path = x.path; region = x.region }

-- the cell as a spot without an outcome
abbrev pub spot_of : WaitingCell → Spot
spot_of c = record { path = c.path; region = c.region; outcome = None; parts = 0 }

-- the spot alone, if it has no outcome
abbrev pub if_open : Spot → Option Outcome → List WaitingCell
if_open x None = waiting_of x ∷ []
if_open x (Some o) = []

-- the spots without an outcome, in order
abbrev pub open_cells : List Spot → List WaitingCell
open_cells [] = []
open_cells (x ∷ xs) = if_open x x.outcome ++ open_cells xs

-- the spot at the place i has this path
pub record IsPlaceOf (xs : List Spot) (p : List Side) (i : ℕ) : Type 0 where
  pub spot : Spot
  pub is : slice_get xs i ≡ Some spot
  pub path : spot.path ≡ p

-- two spots or none, as a list
abbrev pub spots_from : Option (Spot × Spot) → List Spot
spots_from None = []
spots_from (Some p) = p.0 ∷ p.1 ∷ []

-- an outcome may come to the spot x: it has none, the outcome is proved of its region, and the paths and the halves of
-- its parts aren't too many
pub record MaySettle (x : Spot) (o : Outcome) : Type 0 where
  pub fresh : x.outcome ≡ None
  pub proved : IsProvedOf x.region o
  pub room : IsShortCut x.path o
  pub few : length x.region < 80

-- the finding may come to the spot x: it has no outcome and the finding's region, and the paths and the halves of its
-- parts aren't too many
pub record IsReadyFor (x : Spot) (f : Found) : Type 0 where
  pub fresh : x.outcome ≡ None
  pub same : x.region ≡ f.region
  pub room : IsShortCut x.path f.outcome
  pub few : length x.region < 80

-- the spot at the place i is an open cell at the path p with this region
pub record IsOpenAt (xs : List Spot) (p : List Side) (R : Area) (i : ℕ) : Type 0 where
  pub spot : Spot
  pub is : slice_get xs i ≡ Some spot
  pub at_path : spot.path ≡ p
  pub fresh : spot.outcome ≡ None
  pub region : spot.region ≡ R

-- the spots of a tree, and how many of them have an outcome
pub record IsCounted (xs : List Spot) (n : ℕ) : Type 0 where
  pub spots : AreSpots xs
  pub count : n ≡ finite.len (entries_of xs)

-- the spots ys are those of xs after the finding came to the path
pub record HasGrown (xs ys : List Spot) (p : List Side) (f : Found) : Type 0 where
  pub may : MayEnter (snapshot_of xs) p f
  pub spots : AreSpots ys
  pub snapshot : snapshot_of ys ≡ with_entry (snapshot_of xs) p f.outcome
  pub count : finite.len (entries_of ys) ≡ finite.len (entries_of xs) + 1
  pub few : finite.len (entries_of xs) < 2 ^ 48
  pub waiting : open_cells ys ≡ without p (open_cells xs) ++ map (cell_in (snapshot_of ys)) (parts_by p f.outcome)

-- the spot at the place i holds each point of the region
abbrev pub HoldsAll : List Spot → ℕ → Area → Type 0
HoldsAll xs i R = (x : Spot) → slice_get xs i ≡ Some x → (r : Point) → IsIn R r → IsIn x.region r

-- the spot y is the leaf that holds r, and has its outcome
pub record IsLeafFor (xs : List Spot) (r : Point) (y : Spot) : Type 0 where
  pub holds : HoldsAt (root_of xs) (spots_tree xs) r y.path
  pub outcome : spots_tree xs y.path ≡ y.outcome

-- the place i is that of the part of x that is on r's side of its cut
pub record IsPartWith (x : Spot) (r : Point) (i : ℕ) : Type 0 where
  pub form : LinearForm
  pub side : Side
  pub cut : x.outcome ≡ Some (Cut form)
  pub place : i ≡ part_place x.parts side
  pub inside : IsInHalf (half_on side form) r
