-- The certificate of a refined polygon.
use Rattle.std.proofs.Common.{◌≡◌, ℕ, List, sym, ap, subst, ◌∙◌}
use Rattle.std.specs.Prelude.{Contains}
use Rattle.srs_plane.specs.declared.polygons.Vertex.{Vertex}
use Rattle.srs_plane.specs.Polygons.{region_of}
use Rattle.srs_plane.specs.Regions.{Area, HasPoint}
use Rattle.srs_path.specs.Views.{Budget, IsBudget, Entry}
use Rattle.srs_path.specs.Soundness.{IsSound}
use Rattle.srs_tree.specs.Tree.{History, outcome_at, region_at}
use Rattle.srs_tree.specs.Legality.{IsLegal}
use Rattle.srs_tree.specs.Rounds.{IsWhole, IsPlan}
use Rattle.srs_tree.specs.Snapshots.{Snapshot}
use Rattle.srs_tree.specs.Preorder.{preorder_of}
use Rattle.srs_tree.specs.WholeTrees.{ListsWholeTree, IsWithin}
use Rattle.srs_tree.proofs.Listed.{listed}
use Rattle.srs_tree.proofs.OnePlanLemmas.{sound_at, one_plan}
use Rattle.srs_tree.proofs.StandsLemmas.{Stands-once}
use Rattle.srs_tree.proofs.PartitionAll.{IsPartition-legal}
use Rattle.srs_tree.proofs.PlannedSteps.{outcome_of_event}
use Rattle.srs_cert.specs.Certificates.{IsTextOf, cert_text}
use Rattle.srs_cert.specs.Lives.{cert_of}
use Rattle.srs_tool.specs.Output.{IsPlanCertificateOf, IsCertificateOf}
use Rattle.srs_tool.specs.Plans.{HasNoMemory, Decides}
use Rattle.srs_rounds.specs.Refined.{IsRefined}

-- in preorder the events list a whole tree within the limits
pub refined_listed : (b : Budget) (R : Area) (v : Snapshot) → IsBudget b → IsRefined R b v → ListsWholeTree (preorder_of v) × IsWithin b (preorder_of v)
refined_listed b R v budget refined = listed R b refined.history v budget refined.whole refined.stands

-- what each event of a legal history claims holds of its cell
pub events_sound : (R : Area) (W : ℕ) (H : History) → IsLegal R W H → (e : Entry) → Contains H e → IsSound (region_at R (outcome_at H) e.path) W e.outcome
events_sound R W H legal e c = sound_at R W H legal e.path e.outcome (outcome_of_event R W H legal e c)

pub whole_decides : (R : Area) (b : Budget) (H : History) → HasPoint R → IsWhole R b H → Decides R b H
whole_decides R b H point whole = record {
  whole = whole;
  partition = IsPartition-legal R b.wits H point whole.legal;
  sound = events_sound R b.wits H whole.legal;
}

-- where no cell was left for want of memory, the history is the plan, and so its certificate is that of the plan
pub planned_text : (vs : List Vertex) (b : Budget) (H : History) (text : List ℕ) → IsWhole (region_of vs) b H → IsTextOf vs b H text → HasNoMemory H → IsPlanCertificateOf vs b text
planned_text vs b H text whole written none = record { history = H; plan = record { whole = whole; no_memory = none }; written = written }

pub certificate_of : (vs : List Vertex) (b : Budget) (v : Snapshot) (text : List ℕ)
    → HasPoint (region_of vs) → IsRefined (region_of vs) b v → text ≡ cert_text (cert_of vs b v)
    → IsCertificateOf vs b text
certificate_of vs b v text point refined written =
    let lists : IsTextOf vs b refined.history text = record { snapshot = v; stands = refined.stands; written = written } in
    record {
      history = refined.history;
      decides = whole_decides (region_of vs) b refined.history point refined.whole;
      written = lists;
      planned = planned_text vs b refined.history text refined.whole lists;
    }

-- the plan of a polygon's region has one certificate
pub one_certificate_of : (vs : List Vertex) (b : Budget) (s t : List ℕ) → IsPlanCertificateOf vs b s → IsPlanCertificateOf vs b t → s ≡ t
one_certificate_of vs b s t c d =
    let same : c.written.snapshot ≡ d.written.snapshot =
    Stands-once (region_of vs) c.history d.history c.written.snapshot d.written.snapshot c.written.stands d.written.stands
    (one_plan (region_of vs) b c.history d.history c.plan d.plan) in
    c.written.written ∙ ap (λ (v : Snapshot). cert_text (cert_of vs b v)) same ∙ sym d.written.written
