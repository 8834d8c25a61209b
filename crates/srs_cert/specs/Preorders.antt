-- The paths that wait at a place of a list of events in preorder.
use Rattle.std.specs.Prelude.{◌≡◌, ◌≢◌, ℕ, List, take, drop, Some, None, Contains}
use Rattle.std.specs.List.{AllPairs}
use Rattle.srs_path.specs.declared.paths.Side.{Side}
use Rattle.srs_path.specs.declared.outcomes.Outcome.{Outcome}
use Rattle.srs_tree.specs.Tree.{History, outcome_at, IsCellOf}
use Rattle.srs_tree.specs.WholeTrees.{ListsTrees}

-- the paths that wait after G: cells without an event, and none twice; and each event of G is of a cell
pub record AreOpenAfter (G : History) (waiting : List (List Side)) : Type 0 where
  pub closed : (p : List Side) (o : Outcome) → outcome_at G p ≡ Some o → IsCellOf (outcome_at G) p
  pub cells : (p : List Side) → Contains waiting p → IsCellOf (outcome_at G) p
  pub fresh : (p : List Side) → Contains waiting p → outcome_at G p ≡ None
  pub once : AllPairs ◌≢◌ waiting

-- the events from the place i on are those of the trees below the paths that wait
pub record IsWalked (H : History) (i : ℕ) (waiting : List (List Side)) : Type 0 where
  pub lists : ListsTrees waiting (drop i H)
  pub opened : AreOpenAfter (take i H) waiting
