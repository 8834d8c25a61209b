-- What a version is seen as, and which histories it stands for. This file names no version.
use Rattle.std.specs.Prelude.{◌≡◌, ℕ, List, [], ◌∷◌, ◌++◌, length, refl, None}
use Rattle.std.specs.Coded.{Coded, code_by, coded×, coded_list}
use Rattle.std.specs.FinMap as map
use Rattle.std.specs.FinMap.{FinMap}
use Rattle.std.specs.declared.cmp.Ordering.{Ordering}
use Rattle.std.specs.declared.cmp.Ordering.TheVariants.{Less, Equal, Greater}
use Rattle.std.specs.Cmp.Lexicographic.{slice_cmp}
use Rattle.srs_plane.specs.contracts.halves.Half as half
use Rattle.srs_plane.specs.Regions.{Area}
use Rattle.srs_path.specs.contracts.paths.Side as side
use Rattle.srs_path.specs.contracts.outcomes.Outcome as outcome
use Rattle.srs_path.specs.declared.paths.Side.{Side}
use Rattle.srs_path.specs.declared.paths.Side.TheVariants.{Ge, Lt}
use Rattle.srs_path.specs.declared.outcomes.Outcome.{Outcome}
use Rattle.srs_path.specs.Views.{Entry}
use Rattle.srs_tree.specs.Tree.{History, Tree, outcome_at}
use Rattle.srs_tree.specs.Legality.{IsLegal}

-- Ge before Lt
abbrev pub side_cmp : Side → Side → Ordering
side_cmp Ge Ge = Equal
side_cmp Ge Lt = Less
side_cmp Lt Ge = Greater
side_cmp Lt Lt = Equal

-- outcomes by their paths
abbrev pub Entries : Type 0
Entries = FinMap (slice_cmp side_cmp) Outcome

-- a region, and a finite map from paths to outcomes
pub record Snapshot : Type 0 where
  pub region : Area
  pub entries : Entries

-- a snapshot is stored as the pair of its fields
abbrev pub snapshot_code : Coded Snapshot
snapshot_code =
    code_by (Area × Entries)
    (coded× (coded_list half.the_row.coded) (map.code (coded_list side.the_row.coded) outcome.the_row.coded))
    (λ s. (s.region, s.entries)) (λ p. record { region = p.0; entries = p.1 }) (λ _. refl)

-- what each path has
abbrev pub tree_of : Snapshot → Tree
tree_of v = map.get v.entries

-- the snapshot with one entry more
abbrev pub with_entry : Snapshot → List Side → Outcome → Snapshot
with_entry v path o = record { region = v.region; entries = map.insert v.entries path o }

-- v has the region Root and exactly the entries of H
pub record StandsFor (Root : Area) (H : History) (v : Snapshot) : Type 0 where
  pub region : v.region ≡ Root
  pub entries : (path : List Side) → tree_of v path ≡ outcome_at H path
  pub count : map.len v.entries ≡ length H

-- the statement that exactly one snapshot stands for a legal history
abbrev pub SnapshotsStand : Type 0
SnapshotsStand =
    (Root : Area) (W : ℕ) (H : History) → IsLegal Root W H
    → (v : Snapshot) × StandsFor Root H v × ((w : Snapshot) → StandsFor Root H w → w ≡ v)

-- the statement that the snapshot with one entry more stands for the history with one event more
abbrev pub SnapshotsGrow : Type 0
SnapshotsGrow =
    (Root : Area) (H : History) (v : Snapshot) (e : Entry) → StandsFor Root H v → outcome_at H e.path ≡ None
    → StandsFor Root (H ++ e ∷ []) (with_entry v e.path e.outcome)
