-- What is read as a polygon's lines is their text, and their text is read.
use Rattle.std.proofs.Common.{◌≡◌, ◌<◌, ◌+◌, ◌++◌, All, Bool, true, false, IsTrue, ℕ, pos, List, [], ◌∷◌, length, codes, flat_map, refl, sym, ap, ◌∙◌, inl, inr, arith, append_assoc}
use Rattle.std.proofs.lemmas.List.Elements.{All-from_recursion}
use Rattle.srs_plane.specs.declared.polygons.Vertex.{Vertex}
use Rattle.srs_plane.specs.Polygons.{IsPolygon}
use Rattle.srs_line.specs.Machine.{lines_text, Runs}
use Rattle.srs_line.specs.Fields.{line_of}
use Rattle.srs_line.proofs.MachineLemmas.{runs_inside}
use Rattle.srs_line.proofs.LineTexts.{said_is}
use Rattle.srs_cert.specs.Texts.{ended, vertex_text, ring_text}
use Rattle.srs_file.specs.declared.outline.Outline.{Outline}
use Rattle.srs_file.specs.Ring.{RingView, IsFull, TakesVertex}
use Rattle.srs_file.specs.Outline.{no_outline, IsWholeOutline, TakesOutline}
use Rattle.srs_file.proofs.RingTexts.{so_far, opened_text, added, vertex_lines, joined_vertices, growing, full, opened, opened_no_lf, RingSteps, ring_runs}

-- the text of a ring, where its number of vertices was read
abbrev pub text_if : Bool → RingView → List ℕ
text_if false ring = []
text_if true ring = so_far (codes "polygon") ring.vertices ring.left

-- the text that led to the state
abbrev pub outline_text : Outline → List ℕ
outline_text outline = text_if outline.opened outline.ring

-- where all the vertices are there, they are a polygon, and the region is theirs
abbrev pub IsFine : Outline → Type 0
IsFine outline = IsWholeOutline outline → IsFull outline.ring

pub not_true : (b : Bool) → ¬ (IsTrue b) → b ≡ false
not_true false h = refl
not_true true h = absurd (h refl)

with_opened : (b c : Bool) (ring : RingView) → b ≡ c → text_if b ring ≡ text_if c ring
with_opened b c ring e = rw e refl

few : (n : ℕ) → (n ≡ 0 → ⊥) → 0 < n
few n h = omega (arith, h)

pub outline_grows : (s t : Outline) (line : List ℕ) → ¬ (IsWholeOutline s) → TakesOutline s line t → (outline_text t ≡ outline_text s ++ ended line) × IsFine t
outline_grows s t line more (inl (a, r, (n, p, e), f)) =
    rw (f, e, with_opened s.opened false s.ring (not_true s.opened a)) (
      opened_text (codes "polygon") n line (said_is (codes "polygon") (pos n ∷ []) line p.2).0,
      (λ whole. absurd (let zero = whole.1 in omega (arith, p.0))),
    )
outline_grows s t line more (inr (a, r, (v, p, adds), f)) =
    let some : 0 < s.ring.left = few s.ring.left (λ zero. more (a, zero)) in
    let step = added (codes "polygon") s.ring r v line some p adds in
    rw (f, with_opened s.opened true r a, with_opened s.opened true s.ring a) (step.0, (λ whole. step.1 whole.1))

pub whole_text : (outline : Outline) → IsWholeOutline outline → outline_text outline ≡ ring_text outline.ring.vertices
whole_text outline (a, zero) =
    let size : length outline.ring.vertices + outline.ring.left ≡ length outline.ring.vertices = omega (arith, zero) in
    rw (with_opened outline.opened true outline.ring a, size) refl

-- a line, where the polygon isn't whole
abbrev pub OutlineSteps : Outline → List ℕ → Outline → Type 0
OutlineSteps old line new = (¬ (IsWholeOutline old)) × TakesOutline old line new

-- the polygon with this ring, whose number of vertices was read, and the whole one
abbrev pub with_ring : RingView → Outline
with_ring ring = record { opened = true; ring = ring }

abbrev pub whole_outline : List Vertex → Outline
whole_outline vs = with_ring (full vs)

abbrev head_line : List Vertex → List ℕ
head_line vs = line_of (codes "polygon") (pos (length vs) ∷ [])

abbrev pub outline_lines : List Vertex → List (List ℕ)
outline_lines vs = head_line vs ∷ vertex_lines vs

pub joined_outline : (vs : List Vertex) (more : List (List ℕ)) → lines_text (outline_lines vs ++ more) ≡ ring_text vs ++ lines_text more
joined_outline vs more =
    ap (λ x. ended (head_line vs) ++ x) (joined_vertices vs more) ∙ sym (append_assoc (ended (head_line vs)) (flat_map vertex_text vs) (lines_text more))

polygon_plain : All (λ c. 32 < c) (codes "polygon")
polygon_plain =
    All-from_recursion (λ c. 32 < c) (codes "polygon") (omega arith, (omega arith, (omega arith, (omega arith, (omega arith, (omega arith, (omega arith, tt)))))))

step_inside : (s u : RingView) (line : List ℕ) → RingSteps s line u → OutlineSteps (with_ring s) line (with_ring u)
step_inside s u line q = ((λ whole. absurd (let zero = whole.1 in omega (arith, q.0))), inr (refl, u, q.1, refl))

pub outline_runs : (vs : List Vertex) → IsPolygon vs → Runs OutlineSteps no_outline (outline_lines vs) (whole_outline vs)
outline_runs vs p = (
  with_ring (growing (length vs) []),
  ((λ whole. let e = whole.0 in cc), inl ((λ e. absurd (cc)), growing (length vs) [], opened (codes "polygon") vs polygon_plain p, refl)),
  opened_no_lf (codes "polygon") vs polygon_plain p,
  runs_inside RingSteps OutlineSteps with_ring step_inside (growing (length vs) []) (full vs) (vertex_lines vs) (ring_runs vs p),
)
