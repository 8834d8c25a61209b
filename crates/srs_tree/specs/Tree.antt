-- The tree of a history: its cells, its leaves, and their regions.
use Rattle.std.specs.Prelude.{◌≡◌, ◌≢◌, ◌⊎◌, Bool, true, false, cond, List, [], ◌∷◌, ◌++◌, ◌&&◌, Some, None}
use Rattle.std.specs.declared.option.Option.{Option}
use Rattle.srs_num.specs.Points.{Point, LinearForm}
use Rattle.srs_plane.specs.declared.halves.Half.{Half}
use Rattle.srs_plane.specs.Regions.{Area, IsIn, HasPoint, ge_side, lt_side}
use Rattle.srs_path.specs.declared.paths.Side.{Side}
use Rattle.srs_path.specs.declared.paths.Side.TheVariants.{Ge, Lt}
use Rattle.srs_path.specs.declared.outcomes.Outcome.{Outcome}
use Rattle.srs_path.specs.declared.outcomes.Outcome.TheVariants.{Inside, Outside, Cut, Left}
use Rattle.srs_path.specs.Views.{Entry}

-- events in the order in which they came
abbrev pub History : Type 0
History = List Entry

-- what each path has in a tree of cuts
abbrev pub Tree : Type 0
Tree = List Side → Option Outcome

abbrev pub side_eq : Side → Side → Bool
side_eq Ge Ge = true
side_eq Ge Lt = false
side_eq Lt Ge = false
side_eq Lt Lt = true

-- whether two paths are equal
abbrev pub path_eq : List Side → List Side → Bool
path_eq [] [] = true
path_eq [] (t ∷ q) = false
path_eq (s ∷ p) [] = false
path_eq (s ∷ p) (t ∷ q) = side_eq s t && path_eq p q

-- the tree of H: the outcome that each path has. It is meant for histories in which no path has two events
abbrev pub outcome_at : History → Tree
outcome_at [] p = None
outcome_at (e ∷ H) p = cond (path_eq e.path p) (Some e.outcome) (outcome_at H p)

-- the path is a side of a cut of T
pub record IsPartOf (T : Tree) (path : List Side) : Type 0 where
  pub parent : List Side
  pub side : Side
  pub form : LinearForm
  pub is : path ≡ parent ++ side ∷ []
  pub cut : T parent ≡ Some (Cut form)

-- a cell of T: the root, or a path whose parent has a cut
abbrev pub IsCellOf : Tree → List Side → Type 0
IsCellOf T path = (path ≡ []) ⊎ IsPartOf T path

-- a cell that has no cut
pub record IsLeafOf (T : Tree) (path : List Side) : Type 0 where
  pub cell : IsCellOf T path
  pub no_cut : (h : LinearForm) → T path ≢ Some (Cut h)

-- the half that a side of a cut adds
abbrev pub half_on : Side → LinearForm → Half
half_on Ge h = ge_side h
half_on Lt h = lt_side h

-- the half that a side of what a path has adds: only a cut has sides
abbrev pub cut_half : Option Outcome → Side → List Half
cut_half None s = []
cut_half (Some (Inside ranks)) s = []
cut_half (Some (Outside cycle)) s = []
cut_half (Some (Cut h)) s = half_on s h ∷ []
cut_half (Some (Left cause)) s = []

-- for each proper prefix of the path in order, from the prefix `above` on, the side of that prefix's cut
abbrev pub halves_along : Tree → List Side → List Side → List Half
halves_along T above [] = []
halves_along T above (s ∷ rest) = cut_half (T above) s ++ halves_along T (above ++ s ∷ []) rest

-- the root region with these halves appended
abbrev pub region_at : Area → Tree → List Side → Area
region_at Root T path = Root ++ halves_along T [] path

-- the leaf at the path holds the point r
pub record HoldsAt (Root : Area) (T : Tree) (r : Point) (path : List Side) : Type 0 where
  pub leaf : IsLeafOf T path
  pub point : IsIn (region_at Root T path) r

-- each point of Root is in exactly one leaf, and each leaf has a point, and none outside Root
pub record IsPartition (Root : Area) (T : Tree) : Type 0 where
  pub covered : (r : Point) → IsIn Root r → (path : List Side) × HoldsAt Root T r path
  pub once : (r : Point) (p q : List Side) → HoldsAt Root T r p → HoldsAt Root T r q → p ≡ q
  pub pointed : (path : List Side) → IsLeafOf T path → HasPoint (region_at Root T path)
  pub within : (r : Point) (path : List Side) → HoldsAt Root T r path → IsIn Root r
