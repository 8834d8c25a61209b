-- Reading the input of `ask`: a certificate, questions, and `end`.
use Rattle.std.specs.Prelude.{◌≡◌, ◌⊎◌, ⊤, IsTrue, true, false, ℕ, List, codes}
use Rattle.srs_tree.specs.declared.queries.Query.{Query}
use Rattle.srs_line.specs.declared.slip.Slip.{Slip}
use Rattle.srs_line.specs.declared.slip.FileErr.{FileErr}
use Rattle.srs_line.specs.declared.slip.FileErr.TheVariants.{At, NoMemory}
use Rattle.srs_line.specs.Machine.{IsRead, SlipsAt}
use Rattle.srs_line.specs.Refusal.{IsRefused}
use Rattle.srs_file.specs.declared.cert_reader.CertReader.{CertReader}
use Rattle.srs_file.specs.declared.questions.Questions.{Questions}
use Rattle.srs_file.specs.declared.ask_reader.AskReader.{AskReader}
use Rattle.srs_cert.specs.Certificates.{CertView}
use Rattle.srs_file.specs.Grammar.{SpellsAsk}
use Rattle.srs_file.specs.CertReading.{cert_start, CertSteps, CertSlips, CertEnds, read_view}
use Rattle.srs_file.specs.QuestionReading.{no_questions, TakesQuestion, SlipsQuestion}

-- a reader before the first line
abbrev pub ask_start : AskReader
ask_start = record { cert = cert_start; questions = no_questions; ended = false }

-- the line that ends the questions was read
abbrev pub AskEnds : AskReader → Type 0
AskEnds reader = IsTrue reader.ended

-- the line ends the questions: it is `end`, and no vertex is awaited
abbrev pub EndsHere : AskReader → List ℕ → Type 0
EndsHere old line = (old.questions.ring.left ≡ 0) × (line ≡ codes "end")

-- a line of a question, or the one that ends them
abbrev pub StepsAsking : AskReader → List ℕ → AskReader → Type 0
StepsAsking old line new =
    ((questions : Questions) × TakesQuestion old.questions line questions × (new ≡ record old { questions = questions }))
    ⊎ (EndsHere old line × (new ≡ record old { ended = true }))

-- a line of the certificate up to its end, and then of the questions
abbrev pub AskSteps : AskReader → List ℕ → AskReader → Type 0
AskSteps old line new =
    (¬ (AskEnds old))
    × (((¬ (CertEnds old.cert)) × (cert : CertReader) × CertSteps old.cert line cert × (new ≡ record old { cert = cert }))
    ⊎ (CertEnds old.cert × StepsAsking old line new))

-- what is wrong with a line of the certificate, or of the questions
abbrev pub AskSlips : AskReader → List ℕ → Slip → ℕ → Type 0
AskSlips old line slip back =
    ((¬ (CertEnds old.cert)) × CertSlips old.cert line slip back)
    ⊎ (CertEnds old.cert × (¬ (EndsHere old line)) × SlipsQuestion old.questions line slip back)

-- line by line, the text gives this certificate and these questions
abbrev pub ReadsAsAsk : List ℕ → CertView → List Query → Type 0
ReadsAsAsk text c queries = (last : AskReader) × IsRead AskSteps AskEnds ask_start text last × (read_view last.cert ≡ c) × (last.questions.queries ≡ queries)

-- the first slip of the text, and its line
abbrev pub FirstAskSlip : List ℕ → ℕ → Slip → Type 0
FirstAskSlip text line slip = SlipsAt AskSteps AskSlips AskEnds ask_start text line slip

-- the text is a certificate with questions, or has a first slip
abbrev pub IsAskOrSlips : List ℕ → Type 0
IsAskOrSlips text =
    ((c : CertView) × (queries : List Query) × SpellsAsk text c queries) ⊎ ((line : ℕ) × (slip : Slip) × FirstAskSlip text line slip)

-- the first slip of the text, or want of memory
abbrev pub IsAskRefusal : List ℕ → FileErr → Type 0
IsAskRefusal text error = IsRefused AskSteps AskSlips AskEnds ask_start text error

-- the text is no certificate with questions, unless memory was wanting
abbrev pub IsNoAsk : List ℕ → FileErr → Type 0
IsNoAsk text (At line slip) = (c : CertView) (queries : List Query) → SpellsAsk text c queries → ⊥
IsNoAsk text NoMemory = ⊤
