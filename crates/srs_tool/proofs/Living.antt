-- The text of a live run.
use Rattle.std.proofs.Common.{◌≡◌, ℕ, List, All, take, drop, refl, sym, ap, subst, ◌∙◌, take-append-drop}
use Rattle.srs_plane.specs.declared.polygons.Vertex.{Vertex}
use Rattle.srs_plane.specs.Polygons.{region_of}
use Rattle.srs_plane.specs.Regions.{Area, HasPoint}
use Rattle.srs_path.specs.Views.{Budget, IsBudget}
use Rattle.srs_tree.specs.declared.queries.Said.{Said}
use Rattle.srs_tree.specs.declared.sessions.Run.{Run}
use Rattle.srs_tree.specs.declared.sessions.Segment.{Segment}
use Rattle.srs_tree.specs.Tree.{History, outcome_at, IsPartition}
use Rattle.srs_tree.specs.Legality.{IsLegal}
use Rattle.srs_tree.specs.Snapshots.{Snapshot, StandsFor}
use Rattle.srs_tree.specs.Preorder.{preorder_of}
use Rattle.srs_tree.specs.Rounds.{IsWhole, IsInRounds}
use Rattle.srs_tree.specs.WholeTrees.{ListsWholeTree, IsWithin}
use Rattle.srs_tree.proofs.Listed.{listed}
use Rattle.srs_tree.proofs.PartitionAll.{IsPartition-first}
use Rattle.srs_cert.specs.Certificates.{CertView, IsCertificate, cert_text}
use Rattle.srs_cert.specs.Sayings.{IsSayable}
use Rattle.srs_cert.specs.Lives.{cert_of, live_text, IsLiveTextOf, LiveTextIsOne}
use Rattle.srs_crew.specs.Runs.{IsRun}
use Rattle.srs_tool.specs.Plans.{HasNoMemory}
use Rattle.srs_tool.specs.Lives.{DecidesInRounds}
use Rattle.srs_tool.specs.Output.{IsPlanCertificateOf, EndsWithCertificate, IsLiveRunOf}
use Rattle.srs_tool.proofs.Certifying.{events_sound, planned_text, one_certificate_of}

-- in preorder the events of a run list a whole tree within the limits
pub run_listed : (b : Budget) (R : Area) (script : List (List Segment)) (run : Run) → IsBudget b → IsRun R b script run → ListsWholeTree (preorder_of run.version) × IsWithin b (preorder_of run.version)
run_listed b R script run budget is = listed R b run.journal run.version budget is.whole is.stands

module _ (vs : List Vertex) (b : Budget) (H : History) (v : Snapshot) (point : HasPoint (region_of vs)) (whole : IsWhole (region_of vs) b H) (stands : StandsFor (region_of vs) H v) where
  abbrev Root : Area
  Root = region_of vs

  partition_at : (k : ℕ) → IsPartition Root (outcome_at (take k H))
  partition_at k = IsPartition-first Root b.wits (take k H) (drop k H) point (subst (IsLegal Root b.wits) (sym (take-append-drop k H)) whole.legal)

  pub decides_in_rounds : IsInRounds H → DecidesInRounds Root b H
  decides_in_rounds rounds = record { whole = whole; in_rounds = rounds; partitions = partition_at; sound = events_sound Root b.wits H whole.legal }

  plan_text : HasNoMemory H → IsPlanCertificateOf vs b (cert_text (cert_of vs b v))
  plan_text = planned_text vs b H (cert_text (cert_of vs b v)) whole (record { snapshot = v; stands = stands; written = refl })

  pub ends_with_certificate : HasNoMemory H → (told : List (List Said)) (text : List ℕ) → text ≡ live_text H told (cert_of vs b v) → EndsWithCertificate vs b H told text
  ends_with_certificate none told text written = record {
    certificate = cert_text (cert_of vs b v);
    is = plan_text none;
    only = λ other is. one_certificate_of vs b other (cert_text (cert_of vs b v)) is (plan_text none);
    written = written;
  }

pub live_run_of : LiveTextIsOne → (vs : List Vertex) (b : Budget) (script : List (List Segment)) (run : Run) (cert : CertView) (text : List ℕ) → HasPoint (region_of vs) → IsRun (region_of vs) b script run
    → cert ≡ cert_of vs b run.version → IsCertificate cert → All (All IsSayable) run.transcripts → text ≡ live_text run.journal run.transcripts cert → IsLiveRunOf vs b script text
live_run_of law vs b script run cert text point is same certificate said printed = record {
  history = run.journal;
  told = run.transcripts;
  decides = decides_in_rounds vs b run.journal run.version point is.whole is.stands is.in_rounds;
  fits = is.fits;
  written = live;
  only = λ ws c G others legal other. law ws vs c b G run.journal others run.transcripts text legal is.whole.legal other live;
  certified = λ none. ends_with_certificate vs b run.journal run.version point is.whole is.stands none run.transcripts text written;
}
  where
    written : text ≡ live_text run.journal run.transcripts (cert_of vs b run.version)
    written = printed ∙ ap (live_text run.journal run.transcripts) same

    live : IsLiveTextOf vs b run.journal run.transcripts text
    live = record { snapshot = run.version; stands = is.stands; certificate = subst IsCertificate same certificate; sayable = said; written = written }
