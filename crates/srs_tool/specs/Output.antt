-- What the program owes for an input that was read to its end: a status, and what it writes.
use Rattle.std.specs.Prelude.{◌≡◌, ◌⊎◌, ℕ, List, ◌++◌, pos, codes}
use Rattle.std.specs.Fmt.{signed_decimal}
use Rattle.srs_plane.specs.declared.polygons.Vertex.{Vertex}
use Rattle.srs_plane.specs.Polygons.{region_of}
use Rattle.srs_path.specs.Views.{Budget}
use Rattle.srs_tree.specs.declared.queries.Query.{Query}
use Rattle.srs_tree.specs.Tree.{History, outcome_at}
use Rattle.srs_tree.specs.Legality.{IsLegal}
use Rattle.srs_tree.specs.Rounds.{IsPlan}
use Rattle.srs_tree.specs.Fits.{Fits}
use Rattle.srs_tree.specs.declared.queries.Said.{Said}
use Rattle.srs_tree.specs.declared.sessions.Segment.{Segment}
use Rattle.srs_line.specs.declared.slip.Slip.{Slip}
use Rattle.srs_line.specs.Refusal.{slip_word}
use Rattle.srs_cert.specs.Certificates.{CertView, IsTextOf}
use Rattle.srs_cert.specs.Lives.{IsLiveTextOf}
use Rattle.srs_file.specs.Grammar.{SpellsPolygon, SpellsLive, SpellsCertificate, SpellsAsk}
use Rattle.srs_check.specs.declared.faults.Fault.{Fault}
use Rattle.srs_check.specs.Proving.{IsProved}
use Rattle.srs_check.specs.Faults.{counts_of, IsFirstFault}
use Rattle.srs_check.specs.Certified.{IsCertified}
use Rattle.srs_raster.specs.Maps.{IsMapText}
use Rattle.srs_gen.specs.Samples.{made_vertices}
use Rattle.srs_gen.specs.Inputs.{made_script, made_text}
use Rattle.srs_tool.specs.declared.commands.Command.{Command}
use Rattle.srs_tool.specs.declared.commands.Command.TheVariants.{Certify, Live, Check, Map, Ask, Make, Bench}
use Rattle.srs_tool.specs.declared.commands.Input.{Input}
use Rattle.srs_tool.specs.Inputs.{input_of, IsInput, HasFirstSlip, HasCertificate, BringsCertificate}
use Rattle.srs_tool.specs.Lives.{DecidesInRounds, before_certificate}
use Rattle.srs_tool.specs.Replies.{IsReplyText}
use Rattle.srs_tool.specs.Plans.{HasNoMemory, Decides}
use Rattle.srs_tool.specs.Benches.{IsBenchText}
use Rattle.srs_tool.specs.Verdicts.{valid_line, fault_line}
use Rattle.srs_tool.specs.declared.status.Status.{Status}
use Rattle.srs_tool.specs.declared.status.Status.TheVariants.{Done, Bad, Usage, NoMemory, ReadFault, WriteFault, Refused, TooLong}

-- the line of a refusal: the line of the first slip, and the slip
abbrev pub refusal_line : ℕ → Slip → List ℕ
refusal_line line slip = codes "refused line " ++ signed_decimal (pos line) ++ codes " " ++ slip_word slip ++ codes "\n"

-- the line that refuses an input that is too long
abbrev pub refused_long : List ℕ
refused_long = codes "refused long\n"

-- the text is the certificate of the plan of the polygon's region
pub record IsPlanCertificateOf (vertices : List Vertex) (b : Budget) (text : List ℕ) : Type 0 where
  pub history : History
  pub plan : IsPlan (region_of vertices) b history
  pub written : IsTextOf vertices b history text

-- the text is a certificate of the polygon: it lists a history that decides its region, and is the
-- certificate of the plan where no cell was left for want of memory
pub record IsCertificateOf (vertices : List Vertex) (b : Budget) (text : List ℕ) : Type 0 where
  pub history : History
  pub decides : Decides (region_of vertices) b history
  pub written : IsTextOf vertices b history text
  pub planned : HasNoMemory history → IsPlanCertificateOf vertices b text

-- the input is a polygon, and the output is a certificate of it
pub record Certifies (b : Budget) (input output : List ℕ) : Type 0 where
  pub vertices : List Vertex
  pub polygon : SpellsPolygon input vertices
  pub certificate : IsCertificateOf vertices b output

-- the text of a live run ends with the one certificate of the plan of the polygon's region, which
-- `certify` prints where it leaves no cell for want of memory
pub record EndsWithCertificate (vertices : List Vertex) (b : Budget) (H : History)
    (told : List (List Said)) (text : List ℕ) : Type 0 where
  pub certificate : List ℕ
  pub is : IsPlanCertificateOf vertices b certificate
  pub only : (other : List ℕ) → IsPlanCertificateOf vertices b other → other ≡ certificate
  pub written : text ≡ before_certificate H told ++ certificate

-- The text is that of a live run over the polygon, with a history that decides its region round by
-- round, and with what each session of the script was told, which fits that history; it is the text
-- of no other. Its certificate lists the events of the history in preorder, and is that of `certify`
-- where no cell was left for want of memory.
pub record IsLiveRunOf (vertices : List Vertex) (b : Budget) (script : List (List Segment))
    (text : List ℕ) : Type 0 where
  pub history : History
  pub told : List (List Said)
  pub decides : DecidesInRounds (region_of vertices) b history
  pub fits : Fits (region_of vertices) history script told
  pub written : IsLiveTextOf vertices b history told text
  pub only : (ws : List Vertex) (c : Budget) (G : History) (others : List (List Said))
      → IsLegal (region_of ws) c.wits G → IsLiveTextOf ws c G others text
      → (ws ≡ vertices) × (c ≡ b) × (G ≡ history) × (others ≡ told)
  pub certified : HasNoMemory history → EndsWithCertificate vertices b history told text

-- the input is a polygon with sessions, and the output is the text of a live run over it
pub record RunsLive (b : Budget) (input output : List ℕ) : Type 0 where
  pub vertices : List Vertex
  pub script : List (List Segment)
  pub spelled : SpellsLive input vertices script
  pub run : IsLiveRunOf vertices b script output

-- The input is a certificate, each node of which proves itself, and the output says so. So its leaves partition its
-- polygon, each cut divides, and inside each point is finite, outside the printed pair recurs at each point.
pub record Validates (input output : List ℕ) : Type 0 where
  pub certificate : CertView
  pub spelled : SpellsCertificate input certificate
  pub proved : IsProved certificate
  pub certified : IsCertified certificate
  pub written : output ≡ valid_line (counts_of certificate.events)

-- The input is a certificate, each node of which proves itself, and the output is its map: for each point the character of
-- the answer over the certificate's events.
pub record Draws (w h : ℕ) (input output : List ℕ) : Type 0 where
  pub certificate : CertView
  pub spelled : SpellsCertificate input certificate
  pub proved : IsProved certificate
  pub certified : IsCertified certificate
  pub drawn : IsMapText (region_of certificate.vertices) (outcome_at certificate.events) certificate.vertices w h output

-- The input is a certificate, each node of which proves itself, and questions; and the output has a line for each question
pub record Responds (input output : List ℕ) : Type 0 where
  pub certificate : CertView
  pub queries : List Query
  pub spelled : SpellsAsk input certificate queries
  pub proved : IsProved certificate
  pub certified : IsCertified certificate
  pub replies : IsReplyText certificate queries output

-- the text has a certificate, and the output names its first fault
pub record FindsFault (input : Input) (text output : List ℕ) : Type 0 where
  pub certificate : CertView
  pub spelled : HasCertificate input text certificate
  pub line : ℕ
  pub fault : Fault
  pub first : IsFirstFault certificate line fault
  pub written : output ≡ fault_line line fault

-- the text is no such input, and the output says where it slips first
pub record Refuses (input : Input) (text output : List ℕ) : Type 0 where
  pub line : ℕ
  pub slip : Slip
  pub first : HasFirstSlip input text line slip
  pub no_input : IsInput input text → ⊥
  pub written : output ≡ refusal_line line slip

-- the text is the input of `live` that the seed s gives with n points
pub record IsMadeInput (s n : ℕ) (text : List ℕ) : Type 0 where
  pub made : text ≡ made_text s n
  pub spelled : SpellsLive text (made_vertices s) (made_script s n)

-- what is written at Done
abbrev pub OwesDone : Command → List ℕ → List ℕ → Type 0
OwesDone (Certify limits) text output = Certifies limits text output
OwesDone (Live limits workers) text output = RunsLive limits text output
OwesDone Check text output = Validates text output
OwesDone (Map columns rows) text output = Draws columns rows text output
OwesDone Ask text output = Responds text output
OwesDone (Make s n) text output = IsMadeInput s n output
OwesDone (Bench s n) text output = IsBenchText s n output

-- what is written, by the status, for the text that was read
abbrev pub Owes : Command → List ℕ → Status → List ℕ → Type 0
Owes command text Done output = OwesDone command text output
Owes command text Bad output = FindsFault (input_of command) text output
Owes command text Refused output = Refuses (input_of command) text output
Owes command text Usage output = ⊥
Owes command text NoMemory output = ⊥
Owes command text ReadFault output = ⊥
Owes command text WriteFault output = ⊥
Owes command text TooLong output = ⊥

-- how the command ends for an input that it takes, where no end fails
abbrev pub EndsWell : Command → Status → Type 0
EndsWell command status = (status ≡ Done) ⊎ ((status ≡ NoMemory) ⊎ ((status ≡ Bad) × BringsCertificate (input_of command)))
