-- A certificate that is read as its lines come.
use Rattle.std.specs.Prelude.{◌≡◌, ◌≢◌, ⊤, ℕ, ◌+◌, ◌-◌, List, [], ◌∷◌, ◌++◌, length, None, Some}
use Rattle.std.specs.declared.option.Option.{Option}
use Rattle.srs_path.specs.declared.paths.Side.{Side}
use Rattle.srs_path.specs.Views.{Budget}
use Rattle.srs_line.specs.declared.slip.Slip.{Slip}
use Rattle.srs_line.specs.declared.slip.Slip.TheVariants.{Missing}
use Rattle.srs_line.specs.declared.slip.FileErr.{FileErr}
use Rattle.srs_line.specs.declared.slip.FileErr.TheVariants.{At, NoMemory}
use Rattle.srs_line.specs.declared.slip.LineErr.{LineErr}
use Rattle.srs_line.specs.declared.slip.LineErr.TheVariants as lines
use Rattle.srs_line.specs.Machine.{lines_text, Runs}
use Rattle.srs_cert.specs.Heights.{height}
use Rattle.srs_cert.specs.Texts.{outcome_text}
use Rattle.srs_cert.specs.Certificates.{lf_count}
use Rattle.srs_file.specs.declared.cert_reader.CertReader.{CertReader}
use Rattle.srs_file.specs.declared.tree.Node.{Node}
use Rattle.srs_file.specs.declared.cert_feed.NodeAt.{NodeAt}
use Rattle.srs_file.specs.TreeReading.{at_path}
use Rattle.srs_file.specs.CertReading.{cert_start, CertSteps, limits_in, FirstCertSlip}

-- what a feed is seen as: its reader, which keeps no events, how many lines were fed, and why it failed, if it did
pub record CertFeedView : Type 0 where
  pub reader : CertReader
  pub count : ℕ
  pub failed : Option FileErr

-- a reader without the events that were read
abbrev pub bare : CertReader → CertReader
bare s = record s { tree = record s.tree { events = [] } }

-- The lines were fed, all of them good, and lead to the state.
pub record IsFed (feed : CertFeedView) (lines : List (List ℕ)) (state : CertReader) : Type 0 where
  pub runs : Runs CertSteps cert_start lines state
  pub reader_is : feed.reader ≡ bare state
  pub count_is : feed.count ≡ length lines
  pub works : feed.failed ≡ None

-- The line after so many lines, which leads from one state to another, is the last one of this node.
pub record EndsNode (count : ℕ) (s t : CertReader) (node : NodeAt) : Type 0 where
  pub path : List Side
  pub event : t.tree.events ≡ s.tree.events ++ at_path path node.outcome ∷ []
  pub depth : length path ≡ node.depth
  pub last : node.line + lf_count (outcome_text node.outcome) ≡ count + 2

-- what is told of the line: the node that ended with it, or that none did
abbrev pub Tells : ℕ → CertReader → CertReader → Option NodeAt → Type 0
Tells count s t None = t.tree.events ≡ s.tree.events
Tells count s t (Some node) = EndsNode count s t node

-- The line after these, which led to the state, is good: no slip stands in them, but that a line is wanted.
pub record FeedsLine (lines : List (List ℕ)) (s : CertReader) (line : List ℕ) (node : Option NodeAt) (new : CertFeedView) : Type 0 where
  pub state : CertReader
  pub step : CertSteps s line state
  pub fed : IsFed new (lines ++ line ∷ []) state
  pub clean : (n : ℕ) (slip : Slip) → FirstCertSlip (lines_text (lines ++ line ∷ [])) n slip → slip ≡ Missing
  pub told : Tells (length lines) s state node

-- the first slip of these lines and this one, which is more than that a line is wanted; or want of memory
abbrev pub IsLineRefusal : List (List ℕ) → List ℕ → FileErr → Type 0
IsLineRefusal lines line (At n slip) = FirstCertSlip (lines_text (lines ++ line ∷ [])) n slip × (slip ≢ Missing)
IsLineRefusal lines line NoMemory = ⊤

-- the limits that were fed
abbrev pub fed_limits : CertFeedView → Option Budget
fed_limits feed = limits_in feed.reader.phase feed.reader.tree.limits

-- A line that is refused doesn't count: what was fed before is shown, and no more.
pub record ShowsSame (old new : CertFeedView) : Type 0 where
  pub vertices : new.reader.outline.ring.vertices ≡ old.reader.outline.ring.vertices
  pub limits : fed_limits new ≡ fed_limits old
  pub count : new.count ≡ old.count

-- what is told of the node that ends with the line of this number
abbrev pub IsTold : ℕ → Option Node → Option NodeAt → Type 0
IsTold at None None = ⊤
IsTold at None (Some told) = ⊥
IsTold at (Some node) None = ⊥
IsTold at (Some node) (Some told) = (told.line ≡ at - (height node.outcome - 1)) × (told.depth ≡ length node.path) × (told.outcome ≡ node.outcome)

-- where the slip stands that the line of this number shows
abbrev pub Refuses : ℕ → LineErr → FileErr → Type 0
Refuses at (lines.Slip slip back) error = error ≡ At (at - back) slip
Refuses at lines.NoMemory error = error ≡ NoMemory
