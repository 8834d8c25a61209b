-- What is said to the questions about a certificate.
use Rattle.std.specs.Prelude.{◌≡◌, ⊤, ℕ, List, [], ◌∷◌, ◌++◌, slice_get, Some}
use Rattle.std.specs.List.{flat_map}
use Rattle.srs_map.specs.declared.orbits.OrbitEnd.{OrbitEnd}
use Rattle.srs_map.specs.Orbits.{IsOrbitEnd}
use Rattle.srs_plane.specs.Polygons.{region_of}
use Rattle.srs_tree.specs.declared.answers.Met.{Met}
use Rattle.srs_tree.specs.declared.answers.Reply.{Reply}
use Rattle.srs_tree.specs.declared.queries.Query.{Query}
use Rattle.srs_tree.specs.declared.queries.Query.TheVariants.{Fresh, Count, Point, Polygon, Orbit}
use Rattle.srs_tree.specs.declared.queries.Said.{Said}
use Rattle.srs_tree.specs.declared.queries.Said.TheVariants.{Point as SaysPoint, Polygon as SaysPolygon, Orbit as SaysOrbit}
use Rattle.srs_tree.specs.Tree.{outcome_at}
use Rattle.srs_tree.specs.Answers.{Answers, IsMet}
use Rattle.srs_cert.specs.Certificates.{CertView}
use Rattle.srs_cert.specs.Sayings.{said_text}

-- What is said to the question: the answer at a point over the certificate's events, with the cause of its node; for each
-- kind of answer whether some point of a polygon has it; the end of an orbit
abbrev pub Replies : CertView → Query → Said → Type 0
Replies c (Point r) said = (reply : Reply) × (said ≡ SaysPoint r reply) × Answers (region_of c.vertices) (outcome_at c.events) r reply
Replies c (Polygon q) said = (met : Met) × (said ≡ SaysPolygon met) × IsMet (region_of c.vertices) (outcome_at c.events) q met
Replies c (Orbit r z n) said = (end : OrbitEnd) × (said ≡ SaysOrbit end) × IsOrbitEnd r z n end
Replies c Fresh said = ⊥
Replies c Count said = ⊥

-- what is said to each question, in their order
abbrev pub AreReplies : CertView → List Query → List Said → Type 0
AreReplies c [] [] = ⊤
AreReplies c [] (said ∷ more) = ⊥
AreReplies c (query ∷ queries) [] = ⊥
AreReplies c (query ∷ queries) (said ∷ more) = Replies c query said × AreReplies c queries more

-- the text has a line for each question
pub record IsReplyText (c : CertView) (queries : List Query) (text : List ℕ) : Type 0 where
  pub said : List Said
  pub replies : AreReplies c queries said
  pub is : text ≡ flat_map said_text said

-- the text `after` is `before` with the line of what is said to the question
abbrev pub AddsReply : CertView → Query → List ℕ → List ℕ → Type 0
AddsReply c query before after = (said : Said) × Replies c query said × (after ≡ before ++ said_text said)

-- the question is one about a certificate: not for a newer version, nor for a count
abbrev pub IsAsked : Query → Type 0
IsAsked (Point r) = ⊤
IsAsked (Polygon q) = ⊤
IsAsked (Orbit r z n) = ⊤
IsAsked Fresh = ⊥
IsAsked Count = ⊥

-- such questions
abbrev pub AreAsked : List Query → Type 0
AreAsked queries = (i : ℕ) (query : Query) → slice_get queries i ≡ Some query → IsAsked query
