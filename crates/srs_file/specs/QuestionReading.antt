-- The lines of questions: a point, a polygon with its vertices, an orbit.
use Rattle.std.specs.Prelude.{◌≡◌, ◌≢◌, ◌⊎◌, ℕ, ◌<◌, ℤ, pos, List, [], ◌∷◌, ◌++◌, codes}
use Rattle.srs_num.specs.declared.pairs.V2.{V2}
use Rattle.srs_num.specs.Points.{Point as Place, IsPtSized}
use Rattle.srs_plane.specs.Polygons.{region_of}
use Rattle.srs_tree.specs.declared.queries.Query.{Query}
use Rattle.srs_tree.specs.declared.queries.Query.TheVariants.{Fresh, Count, Point, Polygon, Orbit}
use Rattle.srs_line.specs.declared.slip.Slip.{Slip}
use Rattle.srs_line.specs.declared.slip.Slip.TheVariants.{Word, Range}
use Rattle.srs_line.specs.Fields.{Says, HasWord, IsFieldSlip}
use Rattle.srs_file.specs.declared.questions.Questions.{Questions}
use Rattle.srs_file.specs.Ring.{RingView, no_ring, Opens, IsOpenSlip, TakesVertex, SlipsVertex}
use Rattle.srs_cert.specs.Sayings.{place_numbers}
use Rattle.srs_file.specs.Questions.{orbit_numbers}
use Rattle.srs_tree.specs.Questions.{IsOrbitAsked}

-- no question yet
abbrev pub no_questions : Questions
no_questions = record { ring = no_ring; queries = [] }

-- the question is put at the end
abbrev pub AddsQuery : Questions → Query → Questions → Type 0
AddsQuery old query new = new ≡ record old { queries = old.queries ++ query ∷ [] }

-- the line says the point, in its range
abbrev pub SaysPlace : Place → List ℕ → Type 0
SaysPlace r line = Says (codes "point") (place_numbers r) line × IsPtSized r

-- what is wrong with a line that should say a point
abbrev pub IsPlaceSlip : List ℕ → Slip → Type 0
IsPlaceSlip line slip =
    IsFieldSlip (codes "point") 3 line slip ⊎ ((r : Place) × Says (codes "point") (place_numbers r) line × (¬ (IsPtSized r)) × (slip ≡ Range))

-- the line says the parameter, the pair and the number of steps, in their ranges
abbrev pub SaysOrbit : Place → V2 → ℕ → List ℕ → Type 0
SaysOrbit r z n line = Says (codes "orbit") (orbit_numbers r z (pos n)) line × IsOrbitAsked r z n

-- what is wrong with a line that should say an orbit
abbrev pub IsOrbitSlip : List ℕ → Slip → Type 0
IsOrbitSlip line slip =
    IsFieldSlip (codes "orbit") 6 line slip
    ⊎ ((r : Place) × (z : V2) × (m : ℤ) × Says (codes "orbit") (orbit_numbers r z m) line × ((n : ℕ) → IsOrbitAsked r z n → m ≢ pos n) × (slip ≡ Range))

-- the line asks for the answer at a point
abbrev pub StepsPoint : Questions → List ℕ → Questions → Type 0
StepsPoint old line new = (r : Place) × SaysPlace r line × AddsQuery old (Point r) new

-- the line opens the ring of a polygon
abbrev pub StepsRegion : Questions → List ℕ → Questions → Type 0
StepsRegion old line new = (ring : RingView) × Opens (codes "region") line ring × (new ≡ record old { ring = ring })

-- the line asks how an orbit ends
abbrev pub StepsOrbit : Questions → List ℕ → Questions → Type 0
StepsOrbit old line new = (r : Place) × (z : V2) × (n : ℕ) × SaysOrbit r z n line × AddsQuery old (Orbit r z n) new

-- a question, by its first token
abbrev pub StepsQuestion : Questions → List ℕ → Questions → Type 0
StepsQuestion old line new =
    (HasWord (codes "point") line × StepsPoint old line new)
    ⊎ ((HasWord (codes "region") line × StepsRegion old line new)
    ⊎ (HasWord (codes "orbit") line × StepsOrbit old line new))

-- the first token begins no question
pub record BeginsNoQuestion (line : List ℕ) : Type 0 where
  pub point : ¬ (HasWord (codes "point") line)
  pub region : ¬ (HasWord (codes "region") line)
  pub orbit : ¬ (HasWord (codes "orbit") line)

-- what is wrong with a question, by its first token
abbrev pub SlipsAsked : List ℕ → Slip → ℕ → Type 0
SlipsAsked line slip back =
    (HasWord (codes "point") line × IsPlaceSlip line slip × (back ≡ 0))
    ⊎ ((HasWord (codes "region") line × IsOpenSlip (codes "region") line slip × (back ≡ 0))
    ⊎ ((HasWord (codes "orbit") line × IsOrbitSlip line slip × (back ≡ 0))
    ⊎ (BeginsNoQuestion line × (slip ≡ Word) × (back ≡ 0))))

-- a vertex of the open ring; with the last one the polygon is asked about
abbrev pub StepsVertex : Questions → List ℕ → Questions → Type 0
StepsVertex old line new =
    (ring : RingView) × TakesVertex old.ring line ring
    × (((0 < ring.left) × (new ≡ record old { ring = ring })) ⊎ ((ring.left ≡ 0) × AddsQuery (record old { ring = no_ring }) (Polygon (region_of ring.vertices)) new))

-- a vertex where one is to come, and else a question
abbrev pub TakesQuestion : Questions → List ℕ → Questions → Type 0
TakesQuestion old line new = ((0 < old.ring.left) × StepsVertex old line new) ⊎ ((old.ring.left ≡ 0) × StepsQuestion old line new)

-- what is wrong with a vertex, or with a question
abbrev pub SlipsQuestion : Questions → List ℕ → Slip → ℕ → Type 0
SlipsQuestion old line slip back = ((0 < old.ring.left) × SlipsVertex old.ring line slip back) ⊎ ((old.ring.left ≡ 0) × SlipsAsked line slip back)

-- the line asks the question by one word
abbrev pub AsksByWord : List ℕ → Query → Type 0
AsksByWord line query =
    ((line ≡ codes "fresh") × (query ≡ Fresh)) ⊎ ((line ≡ codes "count") × (query ≡ Count))

-- in a session a question may be one word too
abbrev pub TakesInSession : Questions → List ℕ → Questions → Type 0
TakesInSession old line new =
    TakesQuestion old line new
    ⊎ ((old.ring.left ≡ 0) × (query : Query) × AsksByWord line query × AddsQuery old query new)

-- what is wrong with a vertex, or with a question of a session
abbrev pub SlipsInSession : Questions → List ℕ → Slip → ℕ → Type 0
SlipsInSession old line slip back =
    ((old.ring.left ≡ 0) → (query : Query) → AsksByWord line query → ⊥)
    × SlipsQuestion old line slip back
