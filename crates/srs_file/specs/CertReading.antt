-- Reading a certificate: its version, its polygon, its limits, its tree, and `end`.
use Rattle.std.specs.Prelude.{◌≡◌, ◌≢◌, ◌⊎◌, ⊤, ℕ, ℤ, pos, List, [], ◌∷◌, None, Some, codes}
use Rattle.std.specs.declared.option.Option.{Option}
use Rattle.srs_path.specs.Views.{Budget, IsBudget}
use Rattle.srs_line.specs.declared.slip.Slip.{Slip}
use Rattle.srs_line.specs.declared.slip.Slip.TheVariants.{Word, Version, Range}
use Rattle.srs_line.specs.declared.slip.FileErr.{FileErr}
use Rattle.srs_line.specs.declared.slip.FileErr.TheVariants.{At, NoMemory}
use Rattle.srs_line.specs.Fields.{Says, IsFieldSlip}
use Rattle.srs_line.specs.Machine.{IsRead, SlipsAt}
use Rattle.srs_line.specs.Refusal.{IsRefused}
use Rattle.srs_file.specs.declared.tree.Node.{Node}
use Rattle.srs_file.specs.declared.tree.Tree.{Tree}
use Rattle.srs_file.specs.declared.cert_reader.CertPhase.{CertPhase}
use Rattle.srs_file.specs.declared.cert_reader.CertPhase.TheVariants.{First, Polygon, Nodes, Done}
use Rattle.srs_file.specs.declared.cert_reader.CertReader.{CertReader}
use Rattle.srs_file.specs.Grammar.{SpellsCertificate}
use Rattle.srs_cert.specs.Certificates.{CertView}
use Rattle.srs_file.specs.declared.outline.Outline.{Outline}
use Rattle.srs_file.specs.Outline.{no_outline, IsWholeOutline, TakesOutline, SlipsOutline}
use Rattle.srs_file.specs.TreeReading.{no_tree, only_root, gathered, TakesLine, SlipsLine}

-- the first line says the version, which is 1
abbrev pub StepsFirst : CertReader → List ℕ → CertReader → Type 0
StepsFirst old line new = Says (codes "srs") (pos 1 ∷ []) line × (new ≡ record old { phase = Polygon })

-- what is wrong with the first line
abbrev pub SlipsFirst : List ℕ → Slip → ℕ → Type 0
SlipsFirst line slip back =
    (IsFieldSlip (codes "srs") 1 line slip ⊎ ((z : ℤ) × Says (codes "srs") (z ∷ []) line × (z ≢ pos 1) × (slip ≡ Version))) × (back ≡ 0)

-- the line says the limits, in their ranges
abbrev pub SaysLimits : Budget → List ℕ → Type 0
SaysLimits b line = Says (codes "limits") (pos b.depth ∷ pos b.cells ∷ pos b.wits ∷ []) line × IsBudget b

-- the three numbers are no limits
abbrev pub AreNoLimits : ℤ → ℤ → ℤ → Type 0
AreNoLimits d c w = (b : Budget) → IsBudget b → d ≡ pos b.depth → c ≡ pos b.cells → w ≡ pos b.wits → ⊥

-- what is wrong with a line that should say the limits
abbrev pub IsLimitsSlip : List ℕ → Slip → Type 0
IsLimitsSlip line slip =
    IsFieldSlip (codes "limits") 3 line slip ⊎ ((d : ℤ) × (c : ℤ) × (w : ℤ) × Says (codes "limits") (d ∷ c ∷ w ∷ []) line × AreNoLimits d c w × (slip ≡ Range))

-- the tree begins with the root
abbrev pub StepsLimits : CertReader → List ℕ → CertReader → Type 0
StepsLimits old line new = (b : Budget) × SaysLimits b line × (new ≡ record old { phase = Nodes; tree = only_root b })

-- a line of the polygon while it isn't whole, and then the limits
abbrev pub StepsInPolygon : CertReader → List ℕ → CertReader → Type 0
StepsInPolygon old line new =
    ((¬ (IsWholeOutline old.outline)) × (outline : Outline) × TakesOutline old.outline line outline × (new ≡ record old { outline = outline }))
    ⊎ (IsWholeOutline old.outline × StepsLimits old line new)

-- what is wrong with a line of the polygon, or with the limits
abbrev pub SlipsInPolygon : CertReader → List ℕ → Slip → ℕ → Type 0
SlipsInPolygon old line slip back =
    ((¬ (IsWholeOutline old.outline)) × SlipsOutline old.outline line slip back)
    ⊎ (IsWholeOutline old.outline × IsLimitsSlip line slip × (back ≡ 0))

-- a line of the tree where a cell waits, and else `end`
abbrev pub StepsNodes : CertReader → List ℕ → CertReader → Type 0
StepsNodes old line new =
    ((old.tree.pending ≢ []) × (tree : Tree) × TakesLine old.tree line tree × (new ≡ record old { tree = tree }))
    ⊎ ((old.tree.pending ≡ []) × (line ≡ codes "end") × (new ≡ record old { phase = Done }))

-- what is wrong with a line of the tree, or with `end`
abbrev pub SlipsNodes : CertReader → List ℕ → Slip → ℕ → Type 0
SlipsNodes old line slip back =
    ((old.tree.pending ≢ []) × SlipsLine old.tree line slip back)
    ⊎ ((old.tree.pending ≡ []) × (line ≢ codes "end") × (slip ≡ Word) × (back ≡ 0))

-- what a good line does in each phase
abbrev pub StepsFrom : CertPhase → CertReader → List ℕ → CertReader → Type 0
StepsFrom First old line new = StepsFirst old line new
StepsFrom Polygon old line new = StepsInPolygon old line new
StepsFrom Nodes old line new = StepsNodes old line new
StepsFrom Done old line new = ⊥

-- what is wrong with a line in each phase
abbrev pub SlipsFrom : CertPhase → CertReader → List ℕ → Slip → ℕ → Type 0
SlipsFrom First old line slip back = SlipsFirst line slip back
SlipsFrom Polygon old line slip back = SlipsInPolygon old line slip back
SlipsFrom Nodes old line slip back = SlipsNodes old line slip back
SlipsFrom Done old line slip back = ⊥

-- what a good line does
abbrev pub CertSteps : CertReader → List ℕ → CertReader → Type 0
CertSteps old line new = StepsFrom old.phase old line new

-- what is wrong with a line
abbrev pub CertSlips : CertReader → List ℕ → Slip → ℕ → Type 0
CertSlips old line slip back = SlipsFrom old.phase old line slip back

-- the line `end` was read
abbrev pub CertEnds : CertReader → Type 0
CertEnds reader = reader.phase ≡ Done

-- a reader before the first line
abbrev pub cert_start : CertReader
cert_start = record { phase = First; outline = no_outline; tree = no_tree }

-- the reader with the event of the node, if one was read
abbrev pub gathers : CertReader → Option Node → CertReader
gathers reader node = record reader { tree = gathered reader.tree node }

-- what a line that is refused leaves as it was: what is waited for, the polygon and the limits
pub record KeepsHead (old new : CertReader) : Type 0 where
  pub phase : new.phase ≡ old.phase
  pub outline : new.outline ≡ old.outline
  pub limits : new.tree.limits ≡ old.tree.limits

-- the limits, once their line was read
abbrev pub limits_in : CertPhase → Budget → Option Budget
limits_in First b = None
limits_in Polygon b = None
limits_in Nodes b = Some b
limits_in Done b = Some b

-- what was read
abbrev pub read_view : CertReader → CertView
read_view reader = record { vertices = reader.outline.ring.vertices; limits = reader.tree.limits; events = reader.tree.events }

-- line by line, the text gives this certificate
abbrev pub ReadsAsCert : List ℕ → CertView → Type 0
ReadsAsCert text c = (last : CertReader) × IsRead CertSteps CertEnds cert_start text last × (read_view last ≡ c)

-- the first slip of the text, and its line
abbrev pub FirstCertSlip : List ℕ → ℕ → Slip → Type 0
FirstCertSlip text line slip = SlipsAt CertSteps CertSlips CertEnds cert_start text line slip

-- the text is that of a certificate, or has a first slip
abbrev pub IsCertOrSlips : List ℕ → Type 0
IsCertOrSlips text = ((c : CertView) × SpellsCertificate text c) ⊎ ((line : ℕ) × (slip : Slip) × FirstCertSlip text line slip)

-- the first slip of the text, or want of memory
abbrev pub IsCertRefusal : List ℕ → FileErr → Type 0
IsCertRefusal text error = IsRefused CertSteps CertSlips CertEnds cert_start text error

-- the text is that of no certificate, unless memory was wanting
abbrev pub IsNoCert : List ℕ → FileErr → Type 0
IsNoCert text (At line slip) = (c : CertView) → SpellsCertificate text c → ⊥
IsNoCert text NoMemory = ⊤
