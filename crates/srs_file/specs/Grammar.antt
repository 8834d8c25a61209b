-- The grammars, as the texts of their values.
use Rattle.std.specs.Prelude.{◌≡◌, ℕ, ◌≤◌, List, ◌++◌, length, codes}
use Rattle.std.specs.List.{flat_map}
use Rattle.srs_plane.specs.declared.polygons.Vertex.{Vertex}
use Rattle.srs_plane.specs.Polygons.{IsPolygon}
use Rattle.srs_tree.specs.declared.queries.Query.{Query}
use Rattle.srs_tree.specs.declared.sessions.Segment.{Segment}
use Rattle.srs_cert.specs.Texts.{ended, ring_text, polygon_text}
use Rattle.srs_cert.specs.Certificates.{CertView, IsCertificate, cert_text}
use Rattle.srs_file.specs.Questions.{AreQuestions}
use Rattle.srs_file.specs.Scripts.{SpellsAll, SpellsSession}

-- the text is that of the polygon with these vertices: the input of `certify`
pub record SpellsPolygon (text : List ℕ) (vs : List Vertex) : Type 0 where
  pub polygon : IsPolygon vs
  pub spelled : text ≡ polygon_text vs

-- the text is that of the polygon with these vertices, at most eight sessions, and `end`: the
-- input of `live`
pub record SpellsLive (text : List ℕ) (vs : List Vertex) (script : List (List Segment)) : Type 0 where
  pub polygon : IsPolygon vs
  pub few : length script ≤ 8
  pub sessions : List ℕ
  pub of_sessions : SpellsAll SpellsSession sessions script
  pub whole : text ≡ ring_text vs ++ sessions ++ ended (codes "end")

-- the text is that of this certificate
pub record SpellsCertificate (text : List ℕ) (c : CertView) : Type 0 where
  pub certificate : IsCertificate c
  pub spelled : text ≡ cert_text c

-- the text is a certificate, the questions in their order, and `end`: the input of `ask`
pub record SpellsAsk (text : List ℕ) (c : CertView) (queries : List Query) : Type 0 where
  pub certificate : List ℕ
  pub of_certificate : SpellsCertificate certificate c
  pub questions : List (List ℕ)
  pub of_questions : AreQuestions questions queries
  pub whole : text ≡ certificate ++ flat_map (λ question. question) questions ++ ended (codes "end")
