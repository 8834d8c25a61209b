-- What a command reads.
use Rattle.std.specs.Prelude.{◌≡◌, ⊤, ◌^◌, ℕ, List, []}
use Rattle.srs_plane.specs.declared.polygons.Vertex.{Vertex}
use Rattle.srs_tree.specs.declared.queries.Query.{Query}
use Rattle.srs_tree.specs.declared.sessions.Segment.{Segment}
use Rattle.srs_line.specs.declared.slip.Slip.{Slip}
use Rattle.srs_cert.specs.Certificates.{CertView}
use Rattle.srs_file.specs.Grammar.{SpellsPolygon, SpellsLive, SpellsCertificate, SpellsAsk}
use Rattle.srs_file.specs.PolygonReading.{FirstSlip}
use Rattle.srs_file.specs.LiveReading.{FirstLiveSlip}
use Rattle.srs_file.specs.CertReading.{FirstCertSlip}
use Rattle.srs_file.specs.AskReading.{FirstAskSlip}
use Rattle.srs_tool.specs.declared.commands.Command.{Command}
use Rattle.srs_tool.specs.declared.commands.Command.TheVariants.{Certify, Live, Check, Map, Ask, Make, Bench}
use Rattle.srs_tool.specs.declared.commands.Input.{Input}
use Rattle.srs_tool.specs.declared.commands.Input.TheVariants.{Nothing, Polygon, Sessions, Certificate, Questions}

-- what the command reads
abbrev pub input_of : Command → Input
input_of (Certify limits) = Polygon
input_of (Live limits workers) = Sessions
input_of Check = Certificate
input_of (Map columns rows) = Certificate
input_of Ask = Questions
input_of (Make s n) = Nothing
input_of (Bench s n) = Nothing

-- the command reads its input whole before it begins; `check` doesn't, and `live` is none of these
abbrev pub ReadsFirst : Command → Type 0
ReadsFirst (Certify limits) = ⊤
ReadsFirst (Live limits workers) = ⊥
ReadsFirst Check = ⊥
ReadsFirst (Map columns rows) = ⊤
ReadsFirst Ask = ⊤
ReadsFirst (Make s n) = ⊤
ReadsFirst (Bench s n) = ⊤

-- the longest such input that is read, in bytes
abbrev pub longest : Input → ℕ
longest Nothing = 0
longest Polygon = 2 ^ 20
longest Sessions = 2 ^ 20
longest Certificate = 2 ^ 27
longest Questions = 2 ^ 27

-- the text is a certificate and questions
abbrev pub HasQuestions : List ℕ → CertView → Type 0
HasQuestions text c = (queries : List Query) × SpellsAsk text c queries

-- the text is a polygon with these vertices, and sessions
abbrev pub HasSessions : List ℕ → List Vertex → Type 0
HasSessions text vertices = (script : List (List Segment)) × SpellsLive text vertices script

-- the text is such an input
abbrev pub IsInput : Input → List ℕ → Type 0
IsInput Nothing text = text ≡ []
IsInput Polygon text = (vertices : List Vertex) × SpellsPolygon text vertices
IsInput Sessions text = (vertices : List Vertex) × HasSessions text vertices
IsInput Certificate text = (c : CertView) × SpellsCertificate text c
IsInput Questions text = (c : CertView) × HasQuestions text c

-- the first slip of the text, and its line
abbrev pub HasFirstSlip : Input → List ℕ → ℕ → Slip → Type 0
HasFirstSlip Nothing text line slip = ⊥
HasFirstSlip Polygon text line slip = FirstSlip text line slip
HasFirstSlip Sessions text line slip = FirstLiveSlip text line slip
HasFirstSlip Certificate text line slip = FirstCertSlip text line slip
HasFirstSlip Questions text line slip = FirstAskSlip text line slip

-- the text is such an input with this certificate, which is checked
abbrev pub HasCertificate : Input → List ℕ → CertView → Type 0
HasCertificate Nothing text c = ⊥
HasCertificate Polygon text c = ⊥
HasCertificate Sessions text c = ⊥
HasCertificate Certificate text c = SpellsCertificate text c
HasCertificate Questions text c = HasQuestions text c

-- such an input has a certificate
abbrev pub BringsCertificate : Input → Type 0
BringsCertificate Nothing = ⊥
BringsCertificate Polygon = ⊥
BringsCertificate Sessions = ⊥
BringsCertificate Certificate = ⊤
BringsCertificate Questions = ⊤
