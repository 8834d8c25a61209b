-- What `bench` counts, and its lines.
use Rattle.std.specs.Prelude.{◌≡◌, ⊤, ℕ, Bool, List, [], ◌∷◌, ◌++◌, count_by, pos, codes}
use Rattle.srs_num.specs.Points.{Point}
use Rattle.srs_plane.specs.Polygons.{region_of}
use Rattle.srs_plane.specs.Regions.{Area}
use Rattle.srs_path.specs.Views.{Budget}
use Rattle.srs_tree.specs.declared.answers.Reply.{Reply}
use Rattle.srs_tree.specs.Tree.{History, Tree, outcome_at}
use Rattle.srs_tree.specs.Answers.{Answers, kind_of}
use Rattle.srs_tree.specs.Snapshots.{Snapshot, StandsFor}
use Rattle.srs_line.specs.Fields.{line_of}
use Rattle.srs_cert.specs.Texts.{ended}
use Rattle.srs_check.specs.declared.faults.Counts.{Counts}
use Rattle.srs_check.specs.Faults.{counts_of}
use Rattle.srs_gen.specs.Samples.{made_vertices, made_points}
use Rattle.srs_tool.specs.declared.bench.AnswerCounts.{AnswerCounts}
use Rattle.srs_tool.specs.Plans.{HasNoMemory, Decides}
use Rattle.srs_tool.specs.Verdicts.{counts_line}

-- the limits of `bench`
abbrev pub bench_limits : Budget
bench_limits = record { depth = 10; cells = 1024; wits = 256 }

-- the replies are the answers at the points, one each
abbrev pub AreAnswers : Area → Tree → List Point → List Reply → Type 0
AreAnswers Root T [] [] = ⊤
AreAnswers Root T [] (reply ∷ replies) = ⊥
AreAnswers Root T (r ∷ points) [] = ⊥
AreAnswers Root T (r ∷ points) (reply ∷ replies) =
    Answers Root T r reply × AreAnswers Root T points replies

-- how many of the replies are of each kind
abbrev pub answer_counts : List Reply → AnswerCounts
answer_counts replies = record {
  inside = count_by (λ a. (kind_of a).inside) replies;
  outside = count_by (λ a. (kind_of a).outside) replies;
  undecided = count_by (λ a. (kind_of a).undecided) replies;
  beyond = count_by (λ a. (kind_of a).beyond) replies;
}

-- the counts are those of the answers at the points
pub record CountsAnswers (Root : Area) (T : Tree) (points : List Point) (counts : AnswerCounts)
    : Type 0 where
  pub replies : List Reply
  pub are : AreAnswers Root T points replies
  pub counted : counts ≡ answer_counts replies

-- how many points have an answer of each kind
abbrev pub answers_line : AnswerCounts → List ℕ
answers_line n =
    line_of (codes "points in") (pos n.inside ∷ []) ++ line_of (codes " out") (pos n.outside ∷ [])
    ++ line_of (codes " open") (pos n.undecided ∷ [])
    ++ line_of (codes " beyond") (pos n.beyond ∷ [])
    ++ codes "\n"

-- the three lines: the seed and the number of points, the nodes, the answers
abbrev pub bench_text : ℕ → ℕ → Counts → AnswerCounts → List ℕ
bench_text s n nodes answers =
    ended (line_of (codes "bench") (pos s ∷ pos n ∷ [])) ++ counts_line nodes
    ++ answers_line answers

-- the version stands for the plan of the region with these limits, and the counts are those of its
-- events
pub record IsCountedPlan (Root : Area) (v : Snapshot) (nodes : Counts) : Type 0 where
  pub history : History
  pub decides : Decides Root bench_limits history
  pub planned : HasNoMemory history
  pub stands : StandsFor Root history v
  pub counted : nodes ≡ counts_of history

-- The text has the numbers of events of the plan of the polygon of the seed with these limits, and of
-- the answers over it at the points of the seed.
pub record IsBenchText (s n : ℕ) (text : List ℕ) : Type 0 where
  pub history : History
  pub decides : Decides (region_of (made_vertices s)) bench_limits history
  pub planned : HasNoMemory history
  pub answers : AnswerCounts
  pub answered : CountsAnswers (region_of (made_vertices s)) (outcome_at history)
      (made_points s n) answers
  pub written : text ≡ bench_text s n (counts_of history) answers
