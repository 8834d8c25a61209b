-- The questions that a text asks of a certificate, and their lines.
use Rattle.std.specs.Prelude.{◌≡◌, ⊤, ℕ, ℤ, pos, List, [], ◌∷◌, codes}
use Rattle.srs_num.specs.declared.pairs.V2.{V2}
use Rattle.srs_num.specs.Points.{Point as Place, IsPtSized}
use Rattle.srs_plane.specs.declared.polygons.Vertex.{Vertex}
use Rattle.srs_plane.specs.Polygons.{IsPolygon, region_of}
use Rattle.srs_tree.specs.declared.queries.Query.{Query}
use Rattle.srs_tree.specs.declared.queries.Query.TheVariants.{Fresh, Count, Point, Polygon, Orbit}
use Rattle.srs_tree.specs.Questions.{IsOrbitAsked}
use Rattle.srs_line.specs.Fields.{line_of}
use Rattle.srs_cert.specs.Texts.{ended, vertices_text}
use Rattle.srs_cert.specs.Sayings.{place_text}

-- the lines of a polygon that is asked about
abbrev pub region_text : List Vertex → List ℕ
region_text vs = vertices_text (codes "region") vs

-- the six numbers of an orbit: its parameter, the pair that it starts from, and how many steps
abbrev pub orbit_numbers : Place → V2 → ℤ → List ℤ
orbit_numbers r z n = r.p ∷ r.q ∷ r.d ∷ z.a ∷ z.b ∷ n ∷ []

-- the line that asks how the first n steps of a pair's orbit end
abbrev pub orbit_line : Place → V2 → ℕ → List ℕ
orbit_line r z n = line_of (codes "orbit") (orbit_numbers r z (pos n))

-- the text asks the question
abbrev pub IsQuestion : List ℕ → Query → Type 0
IsQuestion text (Point r) = IsPtSized r × (text ≡ ended (place_text r))
IsQuestion text (Polygon q) = (vs : List Vertex) × IsPolygon vs × (q ≡ region_of vs) × (text ≡ region_text vs)
IsQuestion text (Orbit r z n) = IsOrbitAsked r z n × (text ≡ ended (orbit_line r z n))
IsQuestion text Fresh = ⊥
IsQuestion text Count = ⊥

-- the texts ask the questions, one each
abbrev pub AreQuestions : List (List ℕ) → List Query → Type 0
AreQuestions [] [] = ⊤
AreQuestions [] (q ∷ qs) = ⊥
AreQuestions (text ∷ texts) [] = ⊥
AreQuestions (text ∷ texts) (q ∷ qs) = IsQuestion text q × AreQuestions texts qs

-- the text asks the question in a session, where it may be `fresh` or `count` too
abbrev pub IsSessionQuestion : List ℕ → Query → Type 0
IsSessionQuestion text Fresh = text ≡ ended (codes "fresh")
IsSessionQuestion text Count = text ≡ ended (codes "count")
IsSessionQuestion text (Point r) = IsQuestion text (Point r)
IsSessionQuestion text (Polygon q) = IsQuestion text (Polygon q)
IsSessionQuestion text (Orbit r z n) = IsQuestion text (Orbit r z n)
