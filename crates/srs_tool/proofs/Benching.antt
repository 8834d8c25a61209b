-- What `bench` counts.
use Rattle.std.proofs.Common.{◌≡◌, ◌≢◌, ◌≤◌, ◌+◌, ◌*◌, ◌<◌, ℕ, suc, Bool, true, false, cond, Some, List, [], ◌∷◌, ◌++◌, length, refl, sym, ap, subst, ◌∙◌, arith}
use Rattle.std.specs.Prelude.{count_by}
use Rattle.std.proofs.lemmas.List.Sums.{sum_by_push, count_by-le-length}
use Rattle.srs_num.specs.Points.{Point}
use Rattle.srs_plane.specs.declared.polygons.Vertex.{Vertex}
use Rattle.srs_plane.specs.Polygons.{region_of}
use Rattle.srs_plane.specs.Regions.{Area, HasPoint}
use Rattle.srs_path.specs.Views.{IsBudget}
use Rattle.srs_tree.specs.declared.answers.Reply.{Reply}
use Rattle.srs_path.specs.declared.paths.Side.{Side}
use Rattle.srs_path.specs.declared.outcomes.Outcome.{Outcome}
use Rattle.srs_path.specs.declared.outcomes.Outcome.TheVariants.{Left}
use Rattle.srs_path.specs.declared.outcomes.Cause.TheVariants.{Memory}
use Rattle.srs_tree.specs.Tree.{History, Tree, path_eq, outcome_at}
use Rattle.srs_tree.specs.Legality.{IsLegal}
use Rattle.srs_tree.specs.Answers.{Answers, kind_of}
use Rattle.srs_tree.specs.Snapshots.{Snapshot, tree_of, StandsFor}
use Rattle.srs_tree.proofs.PlannedSteps.{outcome_of_event}
use Rattle.srs_tree.specs.Preorder.{preorder_of}
use Rattle.srs_check.specs.declared.faults.Counts.{Counts}
use Rattle.srs_check.specs.Faults.{counts_of}
use Rattle.srs_check.proofs.WholeCounts.{preorder_same, counts_same}
use Rattle.srs_rounds.specs.Refined.{IsRefined}
use Rattle.srs_gen.specs.Samples.{made_vertices, made_points}
use Rattle.srs_tool.specs.declared.bench.AnswerCounts.{AnswerCounts}
use Rattle.srs_tool.specs.Benches.{bench_limits, AreAnswers, answer_counts, CountsAnswers, bench_text, IsCountedPlan, IsBenchText}
use Rattle.srs_tool.specs.Plans.{HasNoMemory}
use Rattle.srs_tool.proofs.Certifying.{refined_listed, whole_decides}

module _ (Root : Area) (T : Tree) where
  answers_length : (points : List Point) (replies : List Reply) → AreAnswers Root T points replies
      → length replies ≡ length points
  answers_length [] [] are = refl
  answers_length [] (reply ∷ replies) are = absurd are
  answers_length (r ∷ points) [] are = absurd are
  answers_length (r ∷ points) (reply ∷ replies) are = let rest =
      answers_length points replies are.1 in omega (arith, rest)

  answers_push : (points : List Point) (replies : List Reply) (r : Point) (reply : Reply)
      → AreAnswers Root T points replies → Answers Root T r reply
      → AreAnswers Root T (points ++ r ∷ []) (replies ++ reply ∷ [])
  answers_push [] [] r reply are one = (one, tt)
  answers_push [] (s ∷ replies) r reply are one = absurd are
  answers_push (p ∷ points) [] r reply are one = absurd are
  answers_push (p ∷ points) (s ∷ replies) r reply are one =
      (are.0, answers_push points replies r reply are.1 one)

  pub no_answers : (counts : AnswerCounts) → counts ≡ answer_counts []
      → CountsAnswers Root T [] counts
  no_answers counts is = record { replies = []; are = tt; counted = is }

  -- none of the counts is above the number of points
  pub answers_few : (points : List Point) (counts : AnswerCounts)
      → CountsAnswers Root T points counts
      → counts.inside + counts.outside + counts.undecided + counts.beyond ≤ 4 * length points
  answers_few points counts c =
      let size = answers_length points c.replies c.are in
      let inside : counts.inside ≡ count_by (λ (a : Reply). (kind_of a).inside) c.replies =
      ap (λ (n : AnswerCounts). n.inside) c.counted in
      let outside : counts.outside ≡ count_by (λ (a : Reply). (kind_of a).outside) c.replies =
      ap (λ (n : AnswerCounts). n.outside) c.counted in
      let undecided : counts.undecided ≡ count_by (λ (a : Reply). (kind_of a).undecided) c.replies =
      ap (λ (n : AnswerCounts). n.undecided) c.counted in
      let beyond : counts.beyond ≡ count_by (λ (a : Reply). (kind_of a).beyond) c.replies =
      ap (λ (n : AnswerCounts). n.beyond) c.counted in
      omega (
        arith,
        count_by-le-length (λ (a : Reply). (kind_of a).inside) c.replies,
        count_by-le-length (λ (a : Reply). (kind_of a).outside) c.replies,
        count_by-le-length (λ (a : Reply). (kind_of a).undecided) c.replies,
        count_by-le-length (λ (a : Reply). (kind_of a).beyond) c.replies,
      )

  -- one answer more
  pub answer_more : (points : List Point) (r : Point) (reply : Reply) (old new : AnswerCounts)
      → CountsAnswers Root T points old → Answers Root T r reply
      → new.inside ≡ old.inside + cond (kind_of reply).inside 1 0
      → new.outside ≡ old.outside + cond (kind_of reply).outside 1 0
      → new.undecided ≡ old.undecided + cond (kind_of reply).undecided 1 0
      → new.beyond ≡ old.beyond + cond (kind_of reply).beyond 1 0
      → CountsAnswers Root T (points ++ r ∷ []) new
  answer_more points r reply old new c one inside outside undecided beyond = record {
    replies = c.replies ++ reply ∷ [];
    are = answers_push points c.replies r reply c.are one;
    counted = λ i. record {
      inside = pushed (λ (a : Reply). (kind_of a).inside) old.inside new.inside
          (ap (λ (n : AnswerCounts). n.inside) c.counted) inside i;
      outside = pushed (λ (a : Reply). (kind_of a).outside) old.outside new.outside
          (ap (λ (n : AnswerCounts). n.outside) c.counted) outside i;
      undecided =
          pushed (λ (a : Reply). (kind_of a).undecided) old.undecided new.undecided
          (ap (λ (n : AnswerCounts). n.undecided) c.counted) undecided i;
      beyond = pushed (λ (a : Reply). (kind_of a).beyond) old.beyond new.beyond
          (ap (λ (n : AnswerCounts). n.beyond) c.counted) beyond i;
    };
  }
    where
      pushed : (kind : Reply → Bool) (x y : ℕ) → x ≡ count_by kind c.replies
          → y ≡ x + cond (kind reply) 1 0 → y ≡ count_by kind (c.replies ++ reply ∷ [])
      pushed kind x y is more =
          more ∙ ap (λ (n : ℕ). n + cond (kind reply) 1 0) is
          ∙ sym (sum_by_push (λ (a : Reply). cond (kind a) 1 0) c.replies reply)

one_outcome : (x y : Outcome) → Some x ≡ Some y → x ≡ y
one_outcome x y e = cc

-- no outcome that is found was left for want of memory, where none of the events was
not_found : (E : History) (p : List Side) (o : Outcome) → HasNoMemory E → outcome_at E p ≡ Some o → o ≢ Left Memory
not_found [] p o none at = absurd (cc)
not_found (x ∷ E) p o none at = elim (path_eq x.path p) as (λ b. cond b (Some x.outcome) (outcome_at E p) ≡ Some o → o ≢ Left Memory) [
  | true ↦ λ here is. none x (0, omega arith, refl) (one_outcome x.outcome o here ∙ is)
  | false ↦ λ there. not_found E p o (λ e c. none e (let l = c.1 in (suc c.0, omega (arith, l), c.2))) there
] at

-- no cell of the history was left for want of memory, where none of its events in preorder is
planned_by : (R : Area) (W : ℕ) (H : History) (v : Snapshot) → IsLegal R W H → StandsFor R H v → HasNoMemory (preorder_of v) → HasNoMemory H
planned_by R W H v legal stands none e c =
    not_found (preorder_of v) e.path e.outcome none (preorder_same R H v stands e.path ∙ outcome_of_event R W H legal e c)

pub counted_plan_of : (R : Area) (v : Snapshot) (nodes : Counts) → IsBudget bench_limits → HasPoint R → IsRefined R bench_limits v
    → HasNoMemory (preorder_of v) → nodes ≡ counts_of (preorder_of v) → IsCountedPlan R v nodes
counted_plan_of R v nodes budget point refined none counted = record {
  history = refined.history;
  decides = whole_decides R bench_limits refined.history point refined.whole;
  planned = planned_by R bench_limits.wits refined.history v refined.whole.legal refined.stands none;
  stands = refined.stands;
  counted = counted
      ∙ counts_same R bench_limits refined.history v refined.whole refined.stands (refined_listed bench_limits R v budget refined).0;
}

pub bench_text_of : (s n : ℕ) (vs : List Vertex) (points : List Point) (v : Snapshot)
    (nodes : Counts) (answers : AnswerCounts) (text : List ℕ)
    → vs ≡ made_vertices s → points ≡ made_points s n → IsCountedPlan (region_of vs) v nodes
    → CountsAnswers v.region (tree_of v) points answers
    → text ≡ bench_text s n nodes answers → IsBenchText s n text
bench_text_of s n vs points v nodes answers text vertices_are points_are plan counts written =
    let R = region_of (made_vertices s) in
    let p : IsCountedPlan R v nodes =
    subst (λ (ws : List Vertex). IsCountedPlan (region_of ws) v nodes) vertices_are plan in
    let tree : tree_of v ≡ outcome_at p.history = λ i. λ path. p.stands.entries path i in
    let on_points : CountsAnswers v.region (tree_of v) (made_points s n) answers =
    subst (λ (ps : List Point). CountsAnswers v.region (tree_of v) ps answers) points_are counts in
    let on_region : CountsAnswers R (tree_of v) (made_points s n) answers =
    subst (λ (Q : Area). CountsAnswers Q (tree_of v)
    (made_points s n) answers) p.stands.region on_points in
    record {
      history = p.history;
      decides = p.decides;
      planned = p.planned;
      answers = answers;
      answered = subst (λ (T : Tree). CountsAnswers R T (made_points s n) answers) tree on_region;
      written = written ∙ ap (λ (c : Counts). bench_text s n c answers) p.counted;
    }
