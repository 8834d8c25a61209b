-- A node with a fault doesn't prove itself.
use Rattle.std.proofs.Common.{◌≡◌, inl, inr, ℕ, List, length, ℤ, pos, ◌≤ℤ◌, ◌<ℤ◌, arith}
use Rattle.std.proofs.lemmas.Int.{ints}
use Rattle.srs_num.specs.declared.pairs.V2.{V2}
use Rattle.srs_num.specs.Points.{value}
use Rattle.srs_map.specs.Step.{pair}
use Rattle.srs_plane.specs.Regions.{Area}
use Rattle.srs_path.specs.declared.outcomes.Cause.TheVariants.{Depth, Cells, Thin, Memory}
use Rattle.srs_path.specs.declared.outcomes.Outcome.{Outcome}
use Rattle.srs_path.specs.declared.outcomes.Outcome.TheVariants.{Inside, Outside, Cut, Left}
use Rattle.srs_path.specs.Cutout.{Covers, lower_form, upper_form}
use Rattle.srs_path.specs.Views.{Budget}
use Rattle.srs_cut.specs.Judgement.{IsFirstBreak}
use Rattle.srs_tree.specs.Tree.{History}
use Rattle.srs_cert.specs.Certificates.{CertView, line_of_node}
use Rattle.srs_check.specs.declared.faults.Fault.{Fault}
use Rattle.srs_check.specs.declared.faults.Fault.TheVariants.{NoUnit, NotClosed, NoFall, NotCycle, NotProper, NoBudget}
use Rattle.srs_check.specs.Listed.{RankList, IsClosedAt, ProvesInside, IsFaultAt, IsInsideFault}
use Rattle.srs_check.specs.Proving.{Proves, IsProved}
use Rattle.srs_check.specs.Faults.{Fails, IsFaultOf, IsFirstFault}
use Rattle.srs_check.proofs.PlaceLemmas.{from_place}

at_entry : (R : Area) (entries : RankList) (e : V2 × ℕ) (fault : Fault) → IsFaultAt R entries e fault → IsClosedAt R entries e → ⊥
at_entry R entries e (NoUnit w) f c = f
at_entry R entries e (NotClosed w j) (is, inl m) c = m.missing (c.ahead (pair e.0.b j) m.next.leads).listed
at_entry R entries e (NotClosed w j) (is, inr m) c = m.first.missing (c.back (pair e.0.b j) m.first.leads)
at_entry R entries e (NoFall w j) (is, next, higher) c =
    omega (arith, higher.not_lower, (c.ahead (pair e.0.b j) next.leads).falls higher.not_zero higher.rank higher.is)
at_entry R entries e (NotCycle i) f c = f
at_entry R entries e NotProper f c = f
at_entry R entries e NoBudget f c = f

inside : (R : Area) (entries : RankList) (fault : Fault) → IsInsideFault R entries fault → ProvesInside R entries → ⊥
inside R entries fault (inl (w, is, u)) p = u.missing (p.units w u.is_unit)
inside R entries fault (inr o) p = at_entry R entries o.entry fault o.wrong (p.closed o.entry (from_place entries o.place o.entry o.is))

both_signs : (x : ℤ) → x <ℤ pos 0 → pos 0 ≤ℤ x → ⊥
both_signs x l m = omega (arith, ints)

outside : (R : Area) (cycle : List ℤ) (i : ℕ) → IsFirstBreak R cycle i → Covers R cycle → ⊥
outside R cycle i f c = let b = f.breaks in elim b.2 [
  | inl l ↦ both_signs (value (lower_form cycle i) b.0) l (c b.0 b.1 i f.there).0
  | inr m ↦ both_signs (value (upper_form cycle i) b.0) (c b.0 b.1 i f.there).1 m
]

-- what fails doesn't prove itself
pub excluded : (R : Area) (L : Budget) (H : History) (k : ℕ) (o : Outcome) (fault : Fault) → Fails R L H k o fault → Proves R L H k o → ⊥
excluded R L H k (Inside entries) fault f p = inside R entries fault f p
excluded R L H k (Outside cycle) fault (i, is, f) p = outside R cycle i f p
excluded R L H k (Cut h) fault (is, f) p = f p
excluded R L H k (Left (Depth why)) fault (is, f) p = f p
excluded R L H k (Left (Cells why)) fault (is, f) p = f p
excluded R L H k (Left Thin) fault (is, f) p = f p
excluded R L H k (Left Memory) fault f p = f

pub not_proved : (c : CertView) (node : ℕ) (fault : Fault) → IsFaultOf c node fault → IsProved c → ⊥
not_proved c node fault f p = excluded _ c.limits c.events (length f.entry.path) f.entry.outcome fault f.wrong (p node f.entry f.is)

-- the fault of a node, with its line
pub first_fault : (c : CertView) (line node : ℕ) (fault : Fault) → line ≡ line_of_node c node → IsFaultOf c node fault → IsFirstFault c line fault × (IsProved c → ⊥)
first_fault c line node fault is f = (record { node = node; line_is = is; fault_is = f }, not_proved c node fault f)
