-- The first fault of a certificate, and what a check answers.
use Rattle.std.specs.Prelude.{◌≡◌, ◌≢◌, ℕ, ◌<◌, ℤ, Bool, true, false, List, length, count_by, slice_get, Some}
use Rattle.srs_plane.specs.Regions.{Area, Divides}
use Rattle.srs_path.specs.declared.outcomes.Cause.TheVariants.{Depth, Cells, Thin, Memory}
use Rattle.srs_path.specs.declared.outcomes.Outcome.{Outcome}
use Rattle.srs_path.specs.declared.outcomes.Outcome.TheVariants.{Inside, Outside, Cut, Left}
use Rattle.srs_path.specs.GridLine.{HasNoGridLine}
use Rattle.srs_path.specs.Views.{Budget, Entry}
use Rattle.srs_cut.specs.Judgement.{IsFirstBreak}
use Rattle.srs_tree.specs.Tree.{History}
use Rattle.srs_cert.specs.Certificates.{CertView, line_of_node}
use Rattle.srs_check.specs.declared.faults.Fault.{Fault}
use Rattle.srs_check.specs.declared.faults.Fault.TheVariants.{NotCycle, NotProper, NoBudget}
use Rattle.srs_check.specs.declared.faults.Counts.{Counts}
use Rattle.srs_check.specs.declared.faults.Checked.{Checked}
use Rattle.srs_check.specs.declared.faults.Checked.TheVariants.{Valid, Bad}
use Rattle.srs_check.specs.Listed.{IsInsideFault}
use Rattle.srs_check.specs.Budgets.{SpendsCells}
use Rattle.srs_check.specs.Proving.{ProvesItself, IsProved, node_region}

-- a point of R breaks the cycle, first at its place i
abbrev pub IsCycleFault : Area → List ℤ → Fault → Type 0
IsCycleFault R cycle fault = (i : ℕ) × (fault ≡ NotCycle i) × IsFirstBreak R cycle i

-- what is first found wrong with a node at the depth k with the region R
abbrev pub Fails : Area → Budget → History → ℕ → Outcome → Fault → Type 0
Fails R L H k (Inside entries) fault = IsInsideFault R entries fault
Fails R L H k (Outside cycle) fault = IsCycleFault R cycle fault
Fails R L H k (Cut h) fault = (fault ≡ NotProper) × (Divides R h → ⊥)
Fails R L H k (Left (Depth why)) fault = (fault ≡ NoBudget) × (k ≢ L.depth)
Fails R L H k (Left (Cells why)) fault = (fault ≡ NoBudget) × (SpendsCells L H k → ⊥)
Fails R L H k (Left Thin) fault = (fault ≡ NoBudget) × (HasNoGridLine R → ⊥)
Fails R L H k (Left Memory) fault = ⊥

-- the fault is that of this node, and each node before proves itself
pub record IsFaultOf (c : CertView) (node : ℕ) (fault : Fault) : Type 0 where
  pub entry : Entry
  pub is : slice_get c.events node ≡ Some entry
  pub wrong : Fails (node_region c entry.path) c.limits c.events (length entry.path) entry.outcome fault
  pub before : (k : ℕ) (e : Entry) → k < node → slice_get c.events k ≡ Some e → ProvesItself c e

-- the fault is that of the first node that doesn't prove itself, and the line is where this node begins
pub record IsFirstFault (c : CertView) (line : ℕ) (fault : Fault) : Type 0 where
  pub node : ℕ
  pub line_is : line ≡ line_of_node c node
  pub fault_is : IsFaultOf c node fault

-- whether the cell was found finite
abbrev pub is_inside : Outcome → Bool
is_inside (Inside ranks) = true
is_inside (Outside cycle) = false
is_inside (Cut h) = false
is_inside (Left cause) = false

-- whether a cycle was found of it
abbrev pub is_outside : Outcome → Bool
is_outside (Inside ranks) = false
is_outside (Outside cycle) = true
is_outside (Cut h) = false
is_outside (Left cause) = false

-- whether it was cut
abbrev pub is_cut : Outcome → Bool
is_cut (Inside ranks) = false
is_cut (Outside cycle) = false
is_cut (Cut h) = true
is_cut (Left cause) = false

-- whether it was left
abbrev pub is_left : Outcome → Bool
is_left (Inside ranks) = false
is_left (Outside cycle) = false
is_left (Cut h) = false
is_left (Left cause) = true

-- how many nodes there are, and how many of each kind
abbrev pub counts_of : History → Counts
counts_of H = record {
  cells = length H;
  inside = count_by (λ e. is_inside e.outcome) H;
  outside = count_by (λ e. is_outside e.outcome) H;
  cut = count_by (λ e. is_cut e.outcome) H;
  left = count_by (λ e. is_left e.outcome) H;
}

-- each node proves itself, and the counts are those of the nodes; or some node doesn't, and the first fault
abbrev pub IsChecked : CertView → Checked → Type 0
IsChecked c (Valid counts) = IsProved c × (counts ≡ counts_of c.events)
IsChecked c (Bad line fault) = IsFirstFault c line fault × (IsProved c → ⊥)
