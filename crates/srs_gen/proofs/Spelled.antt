-- The text of a seed is an input of `live`.
use Rattle.std.proofs.Common.{◌≡◌, ◌≤◌, ◌<◌, ◌+◌, ◌*◌, ◌/◌, ◌++◌, ℕ, List, [], ◌∷◌, length, take, drop, map, flat_map, codes, refl, sym, ap, subst, arith, append_assoc, append-nil, take-append-drop}
use Rattle.std.specs.List.{AllByRecursion}
use Rattle.srs_num.specs.Points.{Point as Place, IsPtSized}
use Rattle.srs_plane.specs.declared.polygons.Vertex.{Vertex}
use Rattle.srs_plane.proofs.Members.{all_of_range}
use Rattle.srs_tree.specs.declared.queries.Query.{Query}
use Rattle.srs_tree.specs.declared.queries.Query.TheVariants.{Point}
use Rattle.srs_tree.proofs.Ways.{all_left, all_right}
use Rattle.srs_cert.specs.Texts.{ended, count_text, ring_text}
use Rattle.srs_file.specs.Questions.{IsSessionQuestion}
use Rattle.srs_file.specs.Scripts.{SpellsAll, SpellsSegment, SpellsSession}
use Rattle.srs_file.specs.Grammar.{SpellsLive}
use Rattle.srs_gen.specs.Draws.{state_after}
use Rattle.srs_gen.specs.Samples.{point_from, made_vertices, made_points}
use Rattle.srs_gen.specs.Inputs.{first_points, other_points, question_text, asking_text, asking_session, made_script, made_text}
use Rattle.srs_gen.proofs.Drawn.{drawn_sized}
use Rattle.srs_gen.proofs.Triangles.{made_polygon}

made_sized : (seed n : ℕ) → AllByRecursion IsPtSized (made_points seed n)
made_sized seed n =
    all_of_range IsPtSized (λ i. point_from (state_after (state_after seed 3) (2 * i))) n 0
    (λ j low high. drawn_sized (state_after (state_after seed 3) (2 * j)))

-- both parts of a list of such points are such lists
halves_sized : (k : ℕ) (points : List Place) → AllByRecursion IsPtSized points
    → AllByRecursion IsPtSized (take k points ++ drop k points)
halves_sized k points sized =
    subst (λ (ps : List Place). AllByRecursion IsPtSized ps) (sym (take-append-drop k points)) sized

-- the question at each point
asked_points : (points : List Place) → AllByRecursion IsPtSized points
    → SpellsAll IsSessionQuestion (flat_map question_text points) (map (λ r. Point r) points)
asked_points [] sized = refl
asked_points (r ∷ points) sized = (
  question_text r,
  flat_map question_text points,
  refl,
  (sized.0, refl),
  asked_points points sized.1,
)

asked_segment : (round : ℕ) (points : List Place) → round ≤ 99 → AllByRecursion IsPtSized points
    → SpellsSegment (count_text (codes "at") round ++ flat_map question_text points)
    (record { at = round; queries = map (λ r. Point r) points })
asked_segment round points shallow sized = record {
  shallow = shallow;
  questions = flat_map question_text points;
  of_questions = asked_points points sized;
  whole = refl;
}

asked_session : (round : ℕ) (points : List Place) → round ≤ 99 → AllByRecursion IsPtSized points
    → SpellsSession (asking_text round points) (asking_session round points)
asked_session round points shallow sized =
    let segment = count_text (codes "at") round ++ flat_map question_text points in
    record {
      ascending = λ i j d low high. absurd (omega arith);
      segments = segment;
      of_segments =
          (segment, [], sym (append-nil segment), asked_segment round points shallow sized, refl);
      whole = append_assoc (ended (codes "session")) (count_text (codes "at") round)
          (flat_map question_text points);
    }

pub made_spelled : (seed n : ℕ)
    → SpellsLive (made_text seed n) (made_vertices seed) (made_script seed n)
made_spelled seed n =
    let points = made_points seed n in
    let parts = halves_sized ((length points + 1) / 2) points (made_sized seed n) in
    let first = asking_text 0 (first_points points) in
    let other = asking_text 3 (other_points points) in
    let first_is =
    asked_session 0 (first_points points) (omega arith)
    (all_left IsPtSized (first_points points) (other_points points) parts) in
    let other_is =
    asked_session 3 (other_points points) (omega arith)
    (all_right IsPtSized (first_points points) (other_points points) parts) in
    record {
      polygon = made_polygon seed;
      few = omega arith;
      sessions = first ++ other;
      of_sessions =
          (first, other, refl, first_is, (other, [], sym (append-nil other), other_is, refl));
      whole = ap (λ (text : List ℕ). text ++ ended (codes "end"))
          (append_assoc (ring_text (made_vertices seed)) first other);
    }
