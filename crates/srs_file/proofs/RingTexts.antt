-- What is read as a ring is its text, and its text is read.
use Rattle.std.proofs.Common.{◌≡◌, ◌≤◌, ◌<◌, ◌+◌, ◌-◌, ◌^◌, ◌++◌, All, FitsSigned, ℕ, pos, List, [], ◌∷◌, length, None, Some, codes, flat_map, refl, sym, ap, ◌∙◌, inl, inr, arith, append_assoc, append-nil, length-append, lit<}
use Rattle.std.specs.Int.{w64}
use Rattle.std.proofs.lemmas.Int.{ints}
use Rattle.std.proofs.lemmas.List.Concat.{flat_map-append}
use Rattle.std.proofs.lemmas.List.Elements.{All-nil, All-cons, All-head, All-tail, All-from_recursion}
use Rattle.srs_num.proofs.Ranges.{small_fits}
use Rattle.srs_text.specs.Line.{HasNoLf}
use Rattle.srs_plane.specs.declared.halves.Kind.{Kind}
use Rattle.srs_plane.specs.declared.halves.Kind.TheVariants.{Ge, Gt}
use Rattle.srs_plane.specs.declared.polygons.Vertex.{Vertex}
use Rattle.srs_plane.specs.Polygons.{IsPolygon, region_of}
use Rattle.srs_plane.specs.Placed.{IsPlaced}
use Rattle.srs_plane.proofs.Ring_of_vertices.{vertex_at-within}
use Rattle.srs_plane.proofs.Sizes.{small}
use Rattle.srs_line.specs.Machine.{lines_text, Runs}
use Rattle.srs_line.specs.Fields.{Says, line_of}
use Rattle.srs_line.proofs.LineTexts.{said_is, says_line, line_no_lf}
use Rattle.srs_cert.specs.Texts.{ended, kind_word, vertex_text, count_text}
use Rattle.srs_file.specs.Ring.{RingView, IsFull, SaysVertex, Adds, Opens, TakesVertex}
use Rattle.srs_file.proofs.RingLaws.{numbers_of}

-- the text of the vertices so far, of a ring to which `left` more come
abbrev pub so_far : List ℕ → List Vertex → ℕ → List ℕ
so_far word vs left = count_text word (length vs + left) ++ flat_map vertex_text vs

vertex_is : (v : Vertex) (line : List ℕ) → SaysVertex v line → ended line ≡ vertex_text v
vertex_is v line p = ap ended (said_is (kind_word v.kind) (numbers_of v) line p.0).0

pub opened_text : (word : List ℕ) (n : ℕ) (line : List ℕ) → line ≡ line_of word (pos n ∷ []) → so_far word [] n ≡ ended line
opened_text word n line e =
    let size : length {A = Vertex} [] + n ≡ n = omega arith in
    rw (e, size) (append-nil (count_text word n))

more_text : (word : List ℕ) (vs : List Vertex) (v : Vertex) (left next : ℕ) (line : List ℕ) → left ≡ next + 1 → ended line ≡ vertex_text v
    → so_far word (vs ++ v ∷ []) next ≡ so_far word vs left ++ ended line
more_text word vs v left next line one e =
    let same : length (vs ++ v ∷ []) + next ≡ length vs + left = omega (arith, length-append vs (v ∷ [])) in
    let parts : flat_map vertex_text (vs ++ v ∷ []) ≡ flat_map vertex_text vs ++ vertex_text v = flat_map-append vertex_text vs (v ∷ []) ∙ ap (λ x. flat_map vertex_text vs ++ x) (append-nil (vertex_text v)) in
    rw (same, parts, e) (sym (append_assoc (count_text word (length vs + left)) (flat_map vertex_text vs) (vertex_text v)))

-- what a vertex's line makes of the text so far and of the ring
pub added : (word : List ℕ) (s r : RingView) (v : Vertex) (line : List ℕ) → 0 < s.left → SaysVertex v line → Adds s v r
    → (so_far word r.vertices r.left ≡ so_far word s.vertices s.left ++ ended line) × (r.left ≡ 0 → IsFull r)
added word s r v line more p (inl (not_last, e)) =
    rw e (more_text word s.vertices v s.left (s.left - 1) line (omega arith) (vertex_is v line p), (λ zero. absurd (omega arith)))
added word s r v line more p (inr (last, polygon, e)) =
    rw e (more_text word s.vertices v s.left 0 line last (vertex_is v line p), (λ zero. (polygon, refl)))

-- the line of a vertex, and those of some vertices
abbrev pub vertex_line : Vertex → List ℕ
vertex_line v = line_of (kind_word v.kind) (numbers_of v)

abbrev pub vertex_lines : List Vertex → List (List ℕ)
vertex_lines [] = []
vertex_lines (v ∷ vs) = vertex_line v ∷ vertex_lines vs

pub joined_vertices : (vs : List Vertex) (more : List (List ℕ)) → lines_text (vertex_lines vs ++ more) ≡ flat_map vertex_text vs ++ lines_text more
joined_vertices [] more = refl
joined_vertices (v ∷ vs) more = ap (λ x. vertex_text v ++ x) (joined_vertices vs more) ∙ sym (append_assoc (vertex_text v) (flat_map vertex_text vs) (lines_text more))

kind_plain : (kind : Kind) → All (λ c. 32 < c) (kind_word kind)
kind_plain Ge = All-from_recursion (λ c. 32 < c) (codes "ge") (omega arith, (omega arith, tt))
kind_plain Gt = All-from_recursion (λ c. 32 < c) (codes "gt") (omega arith, (omega arith, tt))

numbers_fit : (v : Vertex) → IsPlaced v → All (FitsSigned w64) (numbers_of v)
numbers_fit v placed =
    let s = small v placed in
    let fp : FitsSigned w64 v.p = small_fits w64 v.p (2 ^ 18) s.p_range (lit< tt) in
    let fq : FitsSigned w64 v.q = small_fits w64 v.q (2 ^ 18) s.q_range (lit< tt) in
    let fd : FitsSigned w64 v.d = small_fits w64 v.d (2 ^ 18) s.d_range (lit< tt) in
    All-cons (FitsSigned w64) v.p (v.q ∷ v.d ∷ []) fp (All-cons (FitsSigned w64) v.q (v.d ∷ []) fq (All-cons (FitsSigned w64) v.d [] fd (All-nil (FitsSigned w64))))

says_vertex : (v : Vertex) → IsPlaced v → SaysVertex v (vertex_line v)
says_vertex v placed = (says_line (kind_word v.kind) (numbers_of v) (kind_plain v.kind) (numbers_fit v placed), placed)

plain_vertex : (v : Vertex) → IsPlaced v → HasNoLf (vertex_line v)
plain_vertex v placed = line_no_lf (kind_word v.kind) (numbers_of v) (kind_plain v.kind) (numbers_fit v placed)

-- each vertex of a polygon is in its range
all_placed : (vs : List Vertex) → IsPolygon vs → All IsPlaced vs
all_placed vs p = λ k d lt. rw (vertex_at-within vs k d lt) (record { small = p.small k lt; near = p.near k lt })

size_fits : (n : ℕ) → n ≤ 16 → All (FitsSigned w64) (pos n ∷ [])
size_fits n h = let f : FitsSigned w64 (pos n) = omega (arith, ints) in All-cons (FitsSigned w64) (pos n) [] f (All-nil (FitsSigned w64))

-- a ring to which `left` vertices come, and one that is full
abbrev pub growing : ℕ → List Vertex → RingView
growing left vs = record { left = left; vertices = vs; region = None }

abbrev pub full : List Vertex → RingView
full vs = record { left = 0; vertices = vs; region = Some (region_of vs) }

-- the line that opens the ring of a polygon
pub says_size : (word : List ℕ) (vs : List Vertex) → All (λ c. 32 < c) word → IsPolygon vs → Says word (pos (length vs) ∷ []) (line_of word (pos (length vs) ∷ []))
says_size word vs plain p = says_line word (pos (length vs) ∷ []) plain (size_fits (length vs) p.counted.1)

pub opened : (word : List ℕ) (vs : List Vertex) → All (λ c. 32 < c) word → IsPolygon vs → Opens word (line_of word (pos (length vs) ∷ [])) (growing (length vs) [])
opened word vs plain p = (length vs, (p.counted.0, p.counted.1, says_size word vs plain p), refl)

pub opened_no_lf : (word : List ℕ) (vs : List Vertex) → All (λ c. 32 < c) word → IsPolygon vs → HasNoLf (line_of word (pos (length vs) ∷ []))
opened_no_lf word vs plain p = line_no_lf word (pos (length vs) ∷ []) plain (size_fits (length vs) p.counted.1)

-- a vertex, where one is to come
abbrev pub RingSteps : RingView → List ℕ → RingView → Type 0
RingSteps old line new = (0 < old.left) × TakesVertex old line new

one_less : (done rest : List Vertex) (v : Vertex) → growing (length rest) (done ++ v ∷ []) ≡ growing (length (v ∷ rest) - 1) (done ++ v ∷ [])
one_less done rest v = let e : length rest ≡ length (v ∷ rest) - 1 = omega arith in rw (← e) refl

runs_from : (done : List Vertex) (v : Vertex) (rest : List Vertex) → All IsPlaced (v ∷ rest) → IsPolygon (done ++ v ∷ rest)
    → Runs RingSteps (growing (length (v ∷ rest)) done) (vertex_lines (v ∷ rest)) (full (done ++ v ∷ rest))
runs_from done v [] placed polygon =
    let here = All-head IsPlaced v [] placed in (full (done ++ v ∷ []), (omega arith, (v, says_vertex v here, inr (refl, polygon, refl))), plain_vertex v here, refl)
runs_from done v (w ∷ rest) placed polygon =
    let here = All-head IsPlaced v (w ∷ rest) placed in
    let more = runs_from (done ++ v ∷ []) w rest (All-tail IsPlaced v (w ∷ rest) placed) (rw (append_assoc done (v ∷ []) (w ∷ rest)) polygon) in (
      growing (length (w ∷ rest)) (done ++ v ∷ []),
      (omega arith, (v, says_vertex v here, inl (omega arith, one_less done (w ∷ rest) v))),
      plain_vertex v here,
      rw (append_assoc done (v ∷ []) (w ∷ rest)) at more,
    )

pub ring_runs : (vs : List Vertex) → IsPolygon vs → Runs RingSteps (growing (length vs) []) (vertex_lines vs) (full vs)
ring_runs [] p = absurd (omega (arith, p.counted))
ring_runs (v ∷ vs) p = runs_from [] v vs (all_placed (v ∷ vs) p) p
