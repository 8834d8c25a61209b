-- A walk over the nodes of a certificate, one by one in preorder.
use Rattle.std.specs.Prelude.{◌≡◌, ◌⊎◌, ℕ, ◌<◌, ◌≤◌, List, [], ◌∷◌, map, length, slice_get, slice_set, slice_index, Some, None}
use Rattle.std.specs.declared.option.Option.{Option}
use Rattle.srs_plane.specs.Regions.{Area}
use Rattle.srs_path.specs.declared.paths.Side.{Side}
use Rattle.srs_path.specs.declared.outcomes.Outcome.{Outcome}
use Rattle.srs_path.specs.Views.{Budget, Entry}
use Rattle.srs_tree.specs.Tree.{History}
use Rattle.srs_tree.specs.Growth.{IsProvedOf}
use Rattle.srs_cert.specs.Certificates.{CertView, IsCertificate, line_of_node}
use Rattle.srs_cert.specs.Preorders.{IsWalked}
use Rattle.srs_check.specs.declared.faults.Fault.{Fault}
use Rattle.srs_check.specs.declared.walk.Walk.{Walk}
use Rattle.srs_check.specs.Budgets.{SpendsCells}
use Rattle.srs_check.specs.Proving.{ProvesItself, node_region}
use Rattle.srs_check.specs.Faults.{Fails}
use Rattle.srs_check.specs.Tested.{IsForCells}
use Rattle.srs_check.specs.Tallies.{IsNode, IsTallied}

-- behind each path that waits there wait at most as many as it has sides
abbrev pub IsStacked : List (List Side) → Type 0
IsStacked [] = Unit {0}
IsStacked (path ∷ paths) = (length paths ≤ length path) × IsStacked paths

-- the cells that wait before node i: those of the nodes to come, as far as their paths are known
pub record Awaits (c : CertView) (i : ℕ) (cells : List Area) : Type 0 where
  pub waiting : List (List Side)
  pub walked : IsWalked c.events i waiting
  pub cells_are : cells ≡ map (node_region c) waiting
  pub stacked : IsStacked waiting

-- the node proves itself, and what it claims is sound
pub record IsGood (c : CertView) (e : Entry) : Type 0 where
  pub proves : ProvesItself c e
  pub sound : IsProvedOf (node_region c e.path) e.outcome

-- each node before node i is good, or is left for the number of cells
abbrev pub AreGoodYet : CertView → ℕ → Type 0
AreGoodYet c i = (k : ℕ) (e : Entry) → k < i → slice_get c.events k ≡ Some e → IsGood c e ⊎ IsForCells e.outcome

-- the line is that of a node before node i, of the depth k, which is left for the number of cells
pub record IsNoted (c : CertView) (i k line : ℕ) : Type 0 where
  pub node : ℕ
  pub entry : Entry
  pub early : node < i
  pub there : slice_get c.events node ≡ Some entry
  pub for_cells : IsForCells entry.outcome
  pub depth_is : length entry.path ≡ k
  pub line_is : line ≡ line_of_node c node

-- for each depth from 0 to 48 the line of the first of the nodes before node i that are left for the number of cells, or 0
pub record NotesFirst (c : CertView) (i : ℕ) (left : List ℕ) : Type 0 where
  pub size : length left ≡ 49
  pub noted : (k : ℕ) → k < 49 → 0 < slice_index left k → IsNoted c i k (slice_index left k)
  pub first : (node : ℕ) (e : Entry) → node < i → slice_get c.events node ≡ Some e → IsForCells e.outcome
      → (0 < slice_index left (length e.path)) × (slice_index left (length e.path) ≤ line_of_node c node)

-- the line stands for the depth, if none did
abbrev pub Notes : List ℕ → ℕ → ℕ → List ℕ → Type 0
Notes old depth line new =
    ((0 < slice_index old depth) × (new ≡ old)) ⊎ ((slice_index old depth ≡ 0) × (new ≡ slice_set old depth line))

-- the node i failed its test, and begins on this line
pub record IsFailure (c : CertView) (i line : ℕ) (fault : Fault) : Type 0 where
  pub entry : Entry
  pub there : slice_get c.events i ≡ Some entry
  pub line_is : line ≡ line_of_node c i
  pub wrong : Fails (node_region c entry.path) c.limits c.events (length entry.path) entry.outcome fault

-- all nodes before node i passed their tests, and then these cells wait; or node `tested`, before node i, is the first that failed
abbrev pub Stands : CertView → ℕ → ℕ → List Area → Option (ℕ × Fault) → Type 0
Stands c i tested cells None = (tested ≡ i) × Awaits c i cells
Stands c i tested cells (Some (line, fault)) = (tested < i) × IsFailure c tested line fault

-- the walk has come to node i
pub record HasCome (c : CertView) (i : ℕ) (w : Walk) : Type 0 where
  pub tallied : IsTallied c.events i w.tally
  pub tested : ℕ
  pub good : AreGoodYet c tested
  pub left : NotesFirst c tested w.left
  pub stands : Stands c i tested w.waiting w.failed

-- the walk has come to node i of a certificate with these limits, which has this depth and outcome and begins on this line
pub record Come (c : CertView) (i : ℕ) (L : Budget) (line depth : ℕ) (o : Outcome) (w : Walk) : Type 0 where
  pub certificate : IsCertificate c
  pub limits_are : c.limits ≡ L
  pub line_is : line ≡ line_of_node c i
  pub node : IsNode c.events i depth o
  pub come : HasCome c i w

-- a line stands for the depth k, at which the number of cells isn't spent
pub record IsUnspent (L : Budget) (H : History) (left : List ℕ) (k : ℕ) : Type 0 where
  pub noted : 0 < slice_index left k
  pub unspent : SpendsCells L H k → ⊥

-- of the lines that stand for depths below n at which the number of cells isn't spent the least, if any
abbrev pub IsFirstUnspent : Budget → History → List ℕ → ℕ → Option ℕ → Type 0
IsFirstUnspent L H left n None = (k : ℕ) → k < n → 0 < slice_index left k → SpendsCells L H k
IsFirstUnspent L H left n (Some line) =
    ((k : ℕ) × (k < n) × (slice_index left k ≡ line) × IsUnspent L H left k)
    × ((k : ℕ) → k < n → 0 < slice_index left k → slice_index left k < line → SpendsCells L H k)

-- the lesser of the two lines
abbrev pub IsSooner : Option ℕ → ℕ → ℕ → Type 0
IsSooner None line least = least ≡ line
IsSooner (Some other) line least = (least ≤ line) × (least ≤ other) × ((least ≡ line) ⊎ (least ≡ other))
