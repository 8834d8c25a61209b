-- The entries of a version in preorder.
use Rattle.std.specs.Prelude.{Bool, true, false, ◌&&◌, List, [], ◌∷◌, map}
use Rattle.std.specs.List.{filter}
use Rattle.std.specs.FinMap as finite
use Rattle.srs_path.specs.declared.paths.Side.{Side}
use Rattle.srs_path.specs.declared.outcomes.Outcome.{Outcome}
use Rattle.srs_path.specs.Views.{Entry}
use Rattle.srs_tree.specs.Tree.{History, side_eq}
use Rattle.srs_tree.specs.Snapshots.{Entries, Snapshot}

-- an entry as an event
abbrev pub event_of : List Side × Outcome → Entry
event_of e = record { path = e.0; outcome = e.1 }

-- the entries by their paths, rising: a path stands before what it begins, and Ge before Lt. So the entry of a cell is
-- followed by those below its Ge part, and then by those below its Lt part
abbrev pub preorder_of : Snapshot → History
preorder_of v = map event_of (finite.entries v.entries)

-- whether the path p begins the path q
abbrev pub begins : List Side → List Side → Bool
begins [] q = true
begins (s ∷ p) [] = false
begins (s ∷ p) (t ∷ q) = side_eq s t && begins p q

-- the part of the preorder that is at or below the path p
abbrev pub preorder_below : Entries → List Side → History
preorder_below m p = map event_of (filter (λ e. begins p e.0) (finite.entries m))
