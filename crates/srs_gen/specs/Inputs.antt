-- The input of `live` that a seed gives.
use Rattle.std.specs.Prelude.{ℕ, ◌+◌, ◌/◌, List, [], ◌∷◌, ◌++◌, length, take, drop, map, codes}
use Rattle.std.specs.List.{flat_map}
use Rattle.srs_num.specs.Points.{Point as Place}
use Rattle.srs_plane.specs.declared.polygons.Vertex.{Vertex}
use Rattle.srs_tree.specs.declared.queries.Query.{Query}
use Rattle.srs_tree.specs.declared.queries.Query.TheVariants.{Point}
use Rattle.srs_tree.specs.declared.sessions.Segment.{Segment}
use Rattle.srs_cert.specs.Texts.{ended, count_text, ring_text}
use Rattle.srs_cert.specs.Sayings.{place_text}
use Rattle.srs_gen.specs.Samples.{made_vertices, made_points}

-- the points that the first session asks about: half of them, or one more
abbrev pub first_points : List Place → List Place
first_points points = take ((length points + 1) / 2) points

-- those that the second session asks about
abbrev pub other_points : List Place → List Place
other_points points = drop ((length points + 1) / 2) points

-- the session that asks at the points behind the round
abbrev pub asking_session : ℕ → List Place → List Segment
asking_session round points = record { at = round; queries = map (λ r. Point r) points } ∷ []

-- the two sessions that ask at the points of the seed
abbrev pub made_script : ℕ → ℕ → List (List Segment)
made_script seed n =
    asking_session 0 (first_points (made_points seed n))
    ∷ asking_session 3 (other_points (made_points seed n)) ∷ []

-- the line that asks at the point
abbrev pub question_text : Place → List ℕ
question_text r = ended (place_text r)

-- the lines of the session that asks at the points behind the round
abbrev pub asking_text : ℕ → List Place → List ℕ
asking_text round points =
    ended (codes "session") ++ count_text (codes "at") round ++ flat_map question_text points

-- the polygon, the two sessions that ask at the points, and `end`
abbrev pub input_text : List Vertex → List Place → List ℕ
input_text vertices points =
    ring_text vertices ++ asking_text 0 (first_points points)
    ++ asking_text 3 (other_points points) ++ ended (codes "end")

-- the input of `live` that the seed gives with n points
abbrev pub made_text : ℕ → ℕ → List ℕ
made_text seed n = input_text (made_vertices seed) (made_points seed n)
