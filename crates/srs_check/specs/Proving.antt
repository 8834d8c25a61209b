-- When the node of a certificate proves itself.
use Rattle.std.specs.Prelude.{◌≡◌, ⊤, ℕ, List, length, slice_get, Some}
use Rattle.srs_plane.specs.Polygons.{region_of}
use Rattle.srs_plane.specs.Regions.{Area, Divides}
use Rattle.srs_path.specs.declared.paths.Side.{Side}
use Rattle.srs_path.specs.declared.outcomes.Cause.TheVariants.{Depth, Cells, Thin, Memory}
use Rattle.srs_path.specs.declared.outcomes.Outcome.{Outcome}
use Rattle.srs_path.specs.declared.outcomes.Outcome.TheVariants.{Inside, Outside, Cut, Left}
use Rattle.srs_path.specs.Cutout.{Covers}
use Rattle.srs_path.specs.GridLine.{HasNoGridLine}
use Rattle.srs_path.specs.Views.{Budget, Entry}
use Rattle.srs_tree.specs.Tree.{History, outcome_at, region_at}
use Rattle.srs_cert.specs.Certificates.{CertView}
use Rattle.srs_check.specs.Listed.{ProvesInside}
use Rattle.srs_check.specs.Budgets.{SpendsCells}

-- what a node at the depth k with the region R demands, in the history H of limits L: inside, that its list shows each
-- point finite; outside, that its cycle covers R; a cut, that its form divides R; left, that the budget is spent, or that
-- there is no grid line. Of the words that say why a cell stays open, and of want of memory, nothing is demanded
abbrev pub Proves : Area → Budget → History → ℕ → Outcome → Type 0
Proves R L H k (Inside entries) = ProvesInside R entries
Proves R L H k (Outside cycle) = Covers R cycle
Proves R L H k (Cut h) = Divides R h
Proves R L H k (Left (Depth why)) = k ≡ L.depth
Proves R L H k (Left (Cells why)) = SpendsCells L H k
Proves R L H k (Left Thin) = HasNoGridLine R
Proves R L H k (Left Memory) = ⊤

-- the region of the cell at the path
abbrev pub node_region : CertView → List Side → Area
node_region c path = region_at (region_of c.vertices) (outcome_at c.events) path

-- the node of the entry e meets what it demands
abbrev pub ProvesItself : CertView → Entry → Type 0
ProvesItself c e = Proves (node_region c e.path) c.limits c.events (length e.path) e.outcome

-- each node proves itself
abbrev pub IsProved : CertView → Type 0
IsProved c = (i : ℕ) (e : Entry) → slice_get c.events i ≡ Some e → ProvesItself c e
