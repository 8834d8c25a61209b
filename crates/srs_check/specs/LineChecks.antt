-- A certificate that is checked as its lines come.
use Rattle.std.specs.Prelude.{◌≡◌, ◌≢◌, ◌⊎◌, ⊤, ℕ, List, [], ◌∷◌, ◌++◌, length, Some, None}
use Rattle.std.specs.declared.option.Option.{Option}
use Rattle.srs_tree.specs.Tree.{History}
use Rattle.srs_line.specs.declared.slip.Slip.{Slip}
use Rattle.srs_line.specs.declared.slip.Slip.TheVariants.{Missing}
use Rattle.srs_line.specs.declared.slip.FileErr.TheVariants.{At}
use Rattle.srs_line.specs.Machine.{lines_text, Runs}
use Rattle.srs_cert.specs.Certificates.{CertView, IsCertificate}
use Rattle.srs_file.specs.declared.cert_feed.NodeAt.{NodeAt}
use Rattle.srs_file.specs.declared.cert_reader.CertPhase.{CertPhase}
use Rattle.srs_file.specs.declared.cert_reader.CertPhase.TheVariants.{First, Polygon, Nodes, Done}
use Rattle.srs_file.specs.declared.cert_reader.CertReader.{CertReader}
use Rattle.srs_file.specs.Grammar.{SpellsCertificate}
use Rattle.srs_file.specs.CertReading.{CertSteps, cert_start, FirstCertSlip}
use Rattle.srs_file.specs.Feeding.{IsFed, EndsNode}
use Rattle.srs_check.specs.declared.faults.Checked.{Checked}
use Rattle.srs_check.specs.declared.walk.Walk.{Walk}
use Rattle.srs_check.specs.declared.line_check.LineCheck.{LineCheck}
use Rattle.srs_check.specs.Faults.{IsChecked}
use Rattle.srs_check.specs.Certified.{Certifies}
use Rattle.srs_check.specs.Walks.{HasCome}

-- the certificate goes on from what was read
pub record GoesOn (s : CertReader) (c : CertView) : Type 0 where
  pub certificate : IsCertificate c
  pub vertices_are : c.vertices ≡ s.outline.ring.vertices
  pub limits_are : c.limits ≡ s.tree.limits
  pub more : History
  pub events_are : c.events ≡ s.tree.events ++ more

-- the limits were read
abbrev pub IsPlanted : CertPhase → Type 0
IsPlanted First = ⊥
IsPlanted Polygon = ⊥
IsPlanted Nodes = ⊤
IsPlanted Done = ⊤

-- the walk has met the nodes that were read, whatever certificate goes on from them; without a node there is none yet
abbrev pub WalksWith : CertReader → Option Walk → Type 0
WalksWith s None = s.tree.events ≡ []
WalksWith s (Some w) = IsPlanted s.phase × ((c : CertView) → GoesOn s c → HasCome c (length s.tree.events) w)

-- there is a walk, which has come to node i
abbrev pub HasBegun : CertView → ℕ → Option Walk → Type 0
HasBegun c i None = ⊥
HasBegun c i (Some w) = HasCome c i w

-- the lines are good, and the walk has met their nodes
pub record GoodSoFar (check : LineCheck) (lines : List (List ℕ)) : Type 0 where
  pub state : CertReader
  pub fed : IsFed check.feed lines state
  pub walks : WalksWith state check.walk

-- the lines have this first slip, whatever follows
pub record HasSlipped (check : LineCheck) (lines : List (List ℕ)) : Type 0 where
  pub line : ℕ
  pub slip : Slip
  pub first : FirstCertSlip (lines_text lines) line slip
  pub stays : slip ≢ Missing
  pub failed : check.feed.failed ≡ Some (At line slip)

-- these lines were taken
abbrev pub HasTaken : LineCheck → List (List ℕ) → Type 0
HasTaken check lines = GoodSoFar check lines ⊎ HasSlipped check lines

-- The lines and this one are good, and it ended the node, which the walk hasn't met yet.
pub record TakesNode (check : LineCheck) (lines : List (List ℕ)) (line : List ℕ) (node : NodeAt) : Type 0 where
  pub before : CertReader
  pub state : CertReader
  pub runs : Runs CertSteps cert_start lines before
  pub step : CertSteps before line state
  pub fed : IsFed check.feed (lines ++ line ∷ []) state
  pub ends : EndsNode (length lines) before state node
  pub walks : WalksWith before check.walk

-- the text is that of a certificate, and the answer is that of its check
pub record ChecksText (text : List ℕ) (answer : Checked) : Type 0 where
  pub certificate : CertView
  pub spelled : SpellsCertificate text certificate
  pub checked : IsChecked certificate answer
  pub certified : Certifies certificate answer
