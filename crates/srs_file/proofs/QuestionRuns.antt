-- The text of questions is read as the questions.
use Rattle.std.proofs.Common.{◌≡◌, ◌<◌, ◌^◌, ◌++◌, All, FitsSigned, ℕ, pos, List, [], ◌∷◌, length, codes, refl, sym, ap, ◌∙◌, inl, inr, arith, append_assoc, append-nil, lit<, rules}
use Rattle.std.specs.Int.{w64}
use Rattle.std.proofs.lemmas.Int.{ints}
use Rattle.std.proofs.lemmas.List.Elements.{All-cons}
use Rattle.srs_num.specs.declared.pairs.V2.{V2}
use Rattle.srs_num.specs.Points.{Point as Place, IsPtSized}
use Rattle.srs_num.proofs.Ranges.{small_fits}
use Rattle.srs_plane.specs.declared.polygons.Vertex.{Vertex}
use Rattle.srs_plane.specs.Polygons.{IsPolygon, region_of}
use Rattle.srs_tree.specs.declared.queries.Query.{Query}
use Rattle.srs_tree.specs.declared.queries.Query.TheVariants.{Fresh, Count, Point, Polygon, Orbit}
use Rattle.srs_text.specs.Line.{HasNoLf}
use Rattle.srs_line.specs.Machine.{lines_text, Runs}
use Rattle.srs_line.specs.Fields.{line_of}
use Rattle.srs_line.proofs.LineTexts.{says_line, line_no_lf}
use Rattle.srs_line.proofs.FieldLaws.{says_word}
use Rattle.srs_file.specs.declared.questions.Questions.{Questions}
use Rattle.srs_cert.specs.Texts.{ended}
use Rattle.srs_cert.specs.Sayings.{place_numbers}
use Rattle.srs_file.specs.Questions.{orbit_numbers, IsQuestion, IsSessionQuestion, region_text}
use Rattle.srs_file.specs.Scripts.{SpellsAll}
use Rattle.srs_tree.specs.Questions.{IsOrbitAsked}
use Rattle.srs_file.specs.Ring.{RingView, no_ring}
use Rattle.srs_file.specs.QuestionReading.{TakesQuestion, AsksByWord, TakesInSession}
use Rattle.srs_file.proofs.LineShapes.{point_plain, region_plain, orbit_plain, three_fit, clear_no_lf}
use Rattle.srs_file.proofs.Spelled.{Leads, leads_nowhere, leads_on, leads_inside}
use Rattle.srs_file.proofs.RingTexts.{vertex_lines, joined_vertices, growing, full, says_size, opened, opened_no_lf, RingSteps, ring_runs}

-- questions so far, and no ring open
abbrev pub after : List Query → Questions
after queries = record { ring = no_ring; queries = queries }

-- lines that ask these questions more
abbrev pub Asking : (Questions → List ℕ → Questions → Type 0) → List Query → List Query → List ℕ
    → Type 0
Asking Steps before queries text = Leads Steps (after before) text (after (before ++ queries))

place_fits : (r : Place) → IsPtSized r → All (FitsSigned w64) (place_numbers r)
place_fits r s = three_fit r.p r.q r.d (small_fits w64 r.p (2 ^ 42) s.p_range (lit< tt)) (small_fits w64 r.q (2 ^ 42) s.q_range (lit< tt)) (small_fits w64 r.d (2 ^ 40) s.d_range (lit< tt))

orbit_fits : (r : Place) (z : V2) (n : ℕ) → IsOrbitAsked r z n → All (FitsSigned w64) (orbit_numbers r z (pos n))
orbit_fits r z n s =
    let p = small_fits w64 r.p (2 ^ 42) s.sized.p_range (lit< tt) in
    let q = small_fits w64 r.q (2 ^ 42) s.sized.q_range (lit< tt) in
    let d = small_fits w64 r.d (2 ^ 40) s.sized.d_range (lit< tt) in
    let a = small_fits w64 z.a (2 ^ 37) s.narrow.0 (lit< tt) in
    let b = small_fits w64 z.b (2 ^ 37) s.narrow.1 (lit< tt) in
    let m : FitsSigned w64 (pos n) = let few = s.few in omega (arith, ints) in
    All-cons (FitsSigned w64) r.p (r.q ∷ r.d ∷ z.a ∷ z.b ∷ pos n ∷ []) p
    (All-cons (FitsSigned w64) r.q (r.d ∷ z.a ∷ z.b ∷ pos n ∷ []) q (All-cons (FitsSigned w64) r.d (z.a ∷ z.b ∷ pos n ∷ []) d (three_fit z.a z.b (pos n) a b m)))

one_line : (line text : List ℕ) → text ≡ ended line → lines_text (line ∷ []) ≡ text
one_line line text e = append-nil (ended line) ∙ sym e

-- the lines of a ring ask about its polygon
ring_asks : (before : List Query) (r s : RingView) (lines : List (List ℕ)) → 0 < r.left → s.left ≡ 0 → Runs RingSteps r lines s
    → let t : Questions = record { ring = r; queries = before } in Runs TakesQuestion t lines (after (before ++ Polygon (region_of s.vertices) ∷ []))
ring_asks before r s [] more zero e = absurd (omega (arith, ap (λ (x : RingView). x.left) e))
ring_asks before r s (line ∷ []) more zero (u, (a, takes), plain, e) =
    let done : u.left ≡ 0 = rw e zero in
    let same : region_of u.vertices ≡ region_of s.vertices = ap (λ (x : RingView). region_of x.vertices) e in
    (after (before ++ Polygon (region_of s.vertices) ∷ []), inl (a, (u, takes, inr (done, rw same refl))), plain, refl)
ring_asks before r s (line ∷ l ∷ lines) more zero (u, (a, takes), plain, runs) =
    let left : 0 < u.left = runs.1.0 in
    (record { ring = u; queries = before }, inl (a, (u, takes, inl (left, refl))), plain, ring_asks before u s (l ∷ lines) left zero runs)

asks_polygon : (before : List Query) (text : List ℕ) (vs : List Vertex) → IsPolygon vs
    → text ≡ region_text vs → Asking TakesQuestion before (Polygon (region_of vs) ∷ []) text
asks_polygon before text vs p e =
    let head = line_of (codes "region") (pos (length vs) ∷ []) in
    let opens = opened (codes "region") vs region_plain p in
    let some : 0 < length vs = omega (arith, p.counted) in
    let spelled : lines_text (head ∷ (vertex_lines vs ++ [])) ≡ text = ap (λ x. ended head ++ x) (joined_vertices vs [] ∙ append-nil _) ∙ sym e in
    let bare : vertex_lines vs ++ [] ≡ vertex_lines vs = append-nil (vertex_lines vs) in
    record {
      lines = head ∷ vertex_lines vs;
      spelled = rw bare at spelled;
      runs = (
        record { ring = growing (length vs) []; queries = before },
        inr (refl, inr (inl (says_word (codes "region") head (pos (length vs) ∷ []) (says_size (codes "region") vs region_plain p), (growing (length vs) [], opens, refl)))),
        opened_no_lf (codes "region") vs region_plain p,
        ring_asks before (growing (length vs) []) (full vs) (vertex_lines vs) some refl (ring_runs vs p),
      );
    }

asks_one : (before : List Query) (text : List ℕ) (query : Query) → IsQuestion text query
    → Asking TakesQuestion before (query ∷ []) text
asks_one before text Fresh q = absurd q
asks_one before text Count q = absurd q
asks_one before text (Point r) (sized, e) =
    let line = line_of (codes "point") (place_numbers r) in
    let fit = place_fits r sized in
    let says = says_line (codes "point") (place_numbers r) point_plain fit in
    record {
      lines = line ∷ [];
      spelled = one_line line text e;
      runs = (
        after (before ++ Point r ∷ []),
        inr (refl, inl (says_word (codes "point") line (place_numbers r) says, (r, (says, sized), refl))),
        line_no_lf (codes "point") (place_numbers r) point_plain fit,
        refl,
      );
    }
asks_one before text (Polygon area) (vs, p, same, e) = rw same (asks_polygon before text vs p e)
asks_one before text (Orbit r z n) (asked, e) =
    let numbers = orbit_numbers r z (pos n) in
    let line = line_of (codes "orbit") numbers in
    let fit = orbit_fits r z n asked in
    let says = says_line (codes "orbit") numbers orbit_plain fit in
    record {
      lines = line ∷ [];
      spelled = one_line line text e;
      runs = (
        after (before ++ Orbit r z n ∷ []),
        inr (refl, inr (inr (says_word (codes "orbit") line numbers says, (r, z, n, (says, asked), refl)))),
        line_no_lf (codes "orbit") numbers orbit_plain fit,
        refl,
      );
    }

fresh_no_lf : HasNoLf (codes "fresh")
fresh_no_lf = clear_no_lf (codes "fresh") (search rules)

count_no_lf : HasNoLf (codes "count")
count_no_lf = clear_no_lf (codes "count") (search rules)

by_word : (before : List Query) (line text : List ℕ) (query : Query) → HasNoLf line
    → AsksByWord line query → text ≡ ended line → Asking TakesInSession before (query ∷ []) text
by_word before line text query plain asks e = record {
  lines = line ∷ [];
  spelled = one_line line text e;
  runs = (after (before ++ query ∷ []), inr (refl, query, asks, refl), plain, refl);
}

as_in_ask : (before : List Query) (text : List ℕ) (query : Query) → IsQuestion text query
    → Asking TakesInSession before (query ∷ []) text
as_in_ask before text query q =
    leads_inside TakesQuestion TakesInSession (λ (x : Questions). x) (λ x u line p. inl p)
    (after before) (after (before ++ query ∷ [])) text (asks_one before text query q)

session_asks : (before : List Query) (text : List ℕ) (query : Query) → IsSessionQuestion text query
    → Asking TakesInSession before (query ∷ []) text
session_asks before text Fresh e =
    by_word before (codes "fresh") text Fresh fresh_no_lf (inl (refl, refl)) e
session_asks before text Count e =
    by_word before (codes "count") text Count count_no_lf (inr (refl, refl)) e
session_asks before text (Point r) q = as_in_ask before text (Point r) q
session_asks before text (Polygon area) q = as_in_ask before text (Polygon area) q
session_asks before text (Orbit r z n) q = as_in_ask before text (Orbit r z n) q

module _ (Asks : List ℕ → Query → Type 0) (Steps : Questions → List ℕ → Questions → Type 0)
    (one : (before : List Query) (text : List ℕ) (query : Query) → Asks text query
    → Asking Steps before (query ∷ []) text) where
  all_lines : (before : List Query) (text : List ℕ) (queries : List Query)
      → SpellsAll Asks text queries → Asking Steps before queries text
  all_lines before text [] e = rw (e, append-nil before) (leads_nowhere Steps (after before))
  all_lines before text (q ∷ queries) (first, rest, whole, here, more) =
      let all : (before ++ q ∷ []) ++ queries ≡ before ++ q ∷ queries =
      append_assoc before (q ∷ []) queries in
      let behind = rw all at (all_lines (before ++ q ∷ []) rest queries more) in
      rw whole (leads_on Steps (after before) (after (before ++ q ∷ []))
      (after (before ++ q ∷ queries)) first rest (one before first q here) behind)

-- the text of questions is read, in `ask` and in a session
pub asks_all : (before : List Query) (text : List ℕ) (queries : List Query)
    → SpellsAll IsQuestion text queries → Asking TakesQuestion before queries text
asks_all = all_lines IsQuestion TakesQuestion asks_one

pub session_asks_all : (before : List Query) (text : List ℕ) (queries : List Query)
    → SpellsAll IsSessionQuestion text queries → Asking TakesInSession before queries text
session_asks_all = all_lines IsSessionQuestion TakesInSession session_asks
