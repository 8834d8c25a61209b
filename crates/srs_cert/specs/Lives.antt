-- The text of a live run: its journal, what each session was told, and the certificate.
use Rattle.std.specs.Prelude.{◌≡◌, ℕ, List, [], ◌∷◌, ◌++◌, length, pos, codes}
use Rattle.std.specs.List.{All, flat_map, enumerate_from}
use Rattle.srs_plane.specs.declared.polygons.Vertex.{Vertex}
use Rattle.srs_plane.specs.Polygons.{region_of}
use Rattle.srs_path.specs.declared.paths.Side.{Side}
use Rattle.srs_path.specs.declared.paths.Side.TheVariants.{Ge, Lt}
use Rattle.srs_path.specs.declared.outcomes.Outcome.{Outcome}
use Rattle.srs_path.specs.declared.outcomes.Outcome.TheVariants.{Inside, Outside, Cut, Left}
use Rattle.srs_path.specs.Views.{Budget, Entry}
use Rattle.srs_tree.specs.Tree.{History}
use Rattle.srs_tree.specs.Legality.{IsLegal}
use Rattle.srs_tree.specs.Snapshots.{Snapshot, StandsFor}
use Rattle.srs_tree.specs.Preorder.{preorder_of}
use Rattle.srs_tree.specs.declared.queries.Said.{Said}
use Rattle.srs_line.specs.Fields.{line_of}
use Rattle.srs_cert.specs.Texts.{ended, count_text, cause_text}
use Rattle.srs_cert.specs.Certificates.{CertView, IsCertificate, cert_text}
use Rattle.srs_cert.specs.Sayings.{said_text, IsSayable}

abbrev pub side_word : Side → List ℕ
side_word Ge = codes "g"
side_word Lt = codes "l"

-- the sides of a path from the root on; the root is `.`
abbrev pub path_text : List Side → List ℕ
path_text [] = codes "."
path_text (side ∷ sides) = flat_map side_word (side ∷ sides)

-- an outcome on one line: of an inside leaf how many witnesses there are
abbrev pub outcome_line : Outcome → List ℕ
outcome_line (Inside entries) = line_of (codes "in") (pos (length entries) ∷ [])
outcome_line (Outside cycle) = line_of (codes "out") (pos (length cycle) ∷ cycle)
outcome_line (Cut h) = line_of (codes "cut") (h.a ∷ h.b ∷ h.c ∷ [])
outcome_line (Left cause) = codes "left " ++ cause_text cause

-- the line of an event
abbrev pub event_text : Entry → List ℕ
event_text e = ended (codes "e " ++ path_text e.path ++ 32 ∷ outcome_line e.outcome)

-- how many events there are, and a line each
abbrev pub journal_text : History → List ℕ
journal_text H = count_text (codes "journal") (length H) ++ flat_map event_text H

-- what a session was told, behind a line with its number
abbrev pub session_text : ℕ × List Said → List ℕ
session_text session = count_text (codes "session") session.0 ++ flat_map said_text session.1

-- what each session was told; they are counted from 1
abbrev pub sessions_text : List (List Said) → List ℕ
sessions_text told = flat_map session_text (enumerate_from 1 told)

-- the one text of a live run
abbrev pub live_text : History → List (List Said) → CertView → List ℕ
live_text H told c =
    (count_text (codes "live") 1 ++ journal_text H ++ sessions_text told ++ ended (codes "end")) ++ cert_text c

-- the certificate of the run with this snapshot
abbrev pub cert_of : List Vertex → Budget → Snapshot → CertView
cert_of vertices limits snapshot = record { vertices = vertices; limits = limits; events = preorder_of snapshot }

-- the text is that of a run over the polygon with the history H, whose certificate has the events
-- of H in preorder. A number is known by its text as long as it has at most 64 bits.
pub record IsLiveTextOf (vertices : List Vertex) (limits : Budget) (H : History) (told : List (List Said)) (text : List ℕ) : Type 0 where
  pub snapshot : Snapshot
  pub stands : StandsFor (region_of vertices) H snapshot
  pub certificate : IsCertificate (cert_of vertices limits snapshot)
  pub sayable : All (All IsSayable) told
  pub written : text ≡ live_text H told (cert_of vertices limits snapshot)

-- the statement that a text is that of one run: the lines of the journal give the paths in their
-- order, those of the sessions what each was told, and the certificate gives the polygon, the limits
-- and the outcomes
abbrev pub LiveTextIsOne : Type 0
LiveTextIsOne =
    (vs ws : List Vertex) (a b : Budget) (G H : History) (S T : List (List Said)) (text : List ℕ)
    → IsLegal (region_of vs) a.wits G → IsLegal (region_of ws) b.wits H → IsLiveTextOf vs a G S text → IsLiveTextOf ws b H T text
    → (vs ≡ ws) × (a ≡ b) × (G ≡ H) × (S ≡ T)
