-- The answer at a point, and which answers a region meets.
use Rattle.std.specs.Prelude.{◌≡◌, ◌⊎◌, ◌↔◌, ◌+◌, ◌≤◌, ℕ, ℤ, List, length, IsTrue, true, false, ◌||◌, Some, None}
use Rattle.std.specs.declared.option.Option.{Option}
use Rattle.srs_num.specs.Points.{Point}
use Rattle.srs_plane.specs.Regions.{Area, IsIn}
use Rattle.srs_path.specs.declared.paths.Side.{Side}
use Rattle.srs_path.specs.declared.outcomes.Cause.{Cause}
use Rattle.srs_path.specs.declared.outcomes.Outcome.{Outcome}
use Rattle.srs_path.specs.declared.outcomes.Outcome.TheVariants.{Inside, Outside, Cut, Left}
use Rattle.srs_tree.specs.declared.answers.Answer.{Answer}
use Rattle.srs_tree.specs.declared.answers.Answer.TheVariants.{Inside as GivesInside, Outside as GivesOutside, Undecided as GivesUndecided, Beyond as GivesBeyond}
use Rattle.srs_tree.specs.declared.answers.Reply.{Reply}
use Rattle.srs_tree.specs.declared.answers.Reply.TheVariants.{Inside as SaysInside, Outside as SaysOutside, Undecided as SaysUndecided, Beyond as SaysBeyond}
use Rattle.srs_tree.specs.declared.answers.Met.{Met}
use Rattle.srs_tree.specs.Tree.{Tree, HoldsAt}
use Rattle.srs_tree.specs.Snapshots.{Snapshot, tree_of}
use Rattle.srs_tree.specs.Growth.{IsVersion}

-- what a lent answer says
abbrev pub reply_of : Answer → Reply
reply_of GivesInside = SaysInside
reply_of (GivesOutside cycle) = SaysOutside cycle.now
reply_of (GivesUndecided cause) = SaysUndecided cause
reply_of GivesBeyond = SaysBeyond

-- what a leaf answers by its outcome. A leaf has no cut, so the line of the cut is never read
abbrev pub reply_by : Option Outcome → Reply
reply_by None = SaysUndecided None
reply_by (Some (Inside ranks)) = SaysInside
reply_by (Some (Outside cycle)) = SaysOutside cycle
reply_by (Some (Cut h)) = SaysUndecided None
reply_by (Some (Left cause)) = SaysUndecided (Some cause)

-- the answer at r is that of the leaf that holds it
pub record IsByLeaf (Root : Area) (T : Tree) (r : Point) (a : Reply) : Type 0 where
  pub path : List Side
  pub holds : HoldsAt Root T r path
  pub is : a ≡ reply_by (T path)

-- a is the answer at r: beyond where r isn't in Root, else by the outcome of the leaf that holds r
abbrev pub Answers : Area → Tree → Point → Reply → Type 0
Answers Root T r a = ((IsIn Root r → ⊥) × (a ≡ SaysBeyond)) ⊎ IsByLeaf Root T r a

-- some point of Q has an answer with the property
abbrev pub Meets : Area → Tree → Area → (Reply → Type 0) → Type 0
Meets Root T Q Asked = (r : Point) × (a : Reply) × IsIn Q r × Answers Root T r a × Asked a

-- the kinds of answers
abbrev pub IsInside : Reply → Type 0
IsInside a = a ≡ SaysInside

abbrev pub IsOutside : Reply → Type 0
IsOutside a = (cycle : List ℤ) × (a ≡ SaysOutside cycle)

abbrev pub IsUndecided : Reply → Type 0
IsUndecided a = (cause : Option Cause) × (a ≡ SaysUndecided cause)

abbrev pub IsBeyond : Reply → Type 0
IsBeyond a = a ≡ SaysBeyond

-- for each kind of answer, whether the property says that it comes
pub record IsMarked (Comes : (Reply → Type 0) → Type 0) (m : Met) : Type 0 where
  pub inside : IsTrue m.inside ↔ Comes IsInside
  pub outside : IsTrue m.outside ↔ Comes IsOutside
  pub undecided : IsTrue m.undecided ↔ Comes IsUndecided
  pub beyond : IsTrue m.beyond ↔ Comes IsBeyond

-- no kind comes
abbrev pub no_kind : Met
no_kind = record { inside = false; outside = false; undecided = false; beyond = false }

-- the kind of the answer alone
abbrev pub kind_of : Reply → Met
kind_of SaysInside = record { inside = true; outside = false; undecided = false; beyond = false }
kind_of (SaysOutside cycle) = record { inside = false; outside = true; undecided = false; beyond = false }
kind_of (SaysUndecided cause) = record { inside = false; outside = false; undecided = true; beyond = false }
kind_of SaysBeyond = record { inside = false; outside = false; undecided = false; beyond = true }

-- the kinds of both
abbrev pub both : Met → Met → Met
both m n = record {
  inside = m.inside || n.inside;
  outside = m.outside || n.outside;
  undecided = m.undecided || n.undecided;
  beyond = m.beyond || n.beyond;
}

-- for each kind of answer, whether some point of Q has it
abbrev pub IsMet : Area → Tree → Area → Met → Type 0
IsMet Root T Q m = IsMarked (Meets Root T Q) m

-- from `before` to `after` at most one step was taken for each half of Root, and one for each cut on the way to the leaf
-- that holds r
pub record IsDescent (Root : Area) (T : Tree) (r : Point) (before after : ℕ) : Type 0 where
  pub beyond : (IsIn Root r → ⊥) → after ≤ before + length Root
  pub on_path : (path : List Side) → HoldsAt Root T r path → after ≤ before + length Root + length path

-- the statement that a version has at most one answer at a point
abbrev pub AnswersAreOne : Type 0
AnswersAreOne =
    (v : Snapshot) (r : Point) (a b : Reply) → IsVersion v → Answers v.region (tree_of v) r a → Answers v.region (tree_of v) r b → a ≡ b
