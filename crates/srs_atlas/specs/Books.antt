-- What the book of an atlas keeps, and what its operations promise.
use Rattle.std.specs.Prelude.{◌≡◌, ◌≤◌, ℕ, List, map, Some, IfOk}
use Rattle.std.specs.declared.option.Option.{Option}
use Rattle.std.specs.declared.result.Result.{Result}
use Rattle.srs_num.specs.declared.pairs.NoMemory.{NoMemory}
use Rattle.srs_plane.specs.Regions.{Area}
use Rattle.srs_path.specs.declared.paths.Side.{Side}
use Rattle.srs_path.specs.Views.{Budget}
use Rattle.srs_tree.specs.Tree.{History, Tree, outcome_at, region_at}
use Rattle.srs_tree.specs.Legality.{IsLegal}
use Rattle.srs_tree.specs.Rounds.{IsPlanned}
use Rattle.srs_tree.specs.Snapshots.{Snapshot, StandsFor}
use Rattle.srs_tree.specs.Queue.{WaitingCell, Growing, queue_of}
use Rattle.srs_atlas.specs.declared.book.Terms.{Terms}

-- a cell has 1 to 16384 witnesses at most, and a plan has this number of witnesses
pub record AreTerms (terms : Terms) : Type 0 where
  pub some_wit : 1 ≤ terms.w
  pub wits : terms.w ≤ 16384
  pub same : (L : Budget) → terms.plan ≡ Some L → L.wits ≡ terms.w

-- the history is legal, and where there is a plan it keeps to it
pub record IsLawful (terms : Terms) (H : History) : Type 0 where
  pub legal : IsLegal terms.root terms.w H
  pub planned : (L : Budget) → terms.plan ≡ Some L → IsPlanned terms.root L H

-- the cell of T at the path
abbrev pub cell_at : Area → Tree → List Side → WaitingCell
cell_at Root T path = record { path = path; region = region_at Root T path }

-- the cells of H without an event, in the order of the frontier
abbrev pub waiting_in : Area → History → List WaitingCell
waiting_in Root H = map (cell_at Root (outcome_at H)) (queue_of H)

-- a book: its history and its terms
pub record BookView : Type 0 where
  pub history : History
  pub terms : Terms

-- the terms of a tree's region
abbrev pub terms_of : Growing → ℕ → Option Budget → Terms
terms_of t w plan = record { root = t.version.region; w = w; plan = plan }

-- what a book keeps: the history is lawful, the version stands for it, and the frontier is the cells without an event, in order
pub record IsBook (terms : Terms) (H : History) (t : Growing) (frontier : List WaitingCell) : Type 0 where
  pub bounds : AreTerms terms
  pub lawful : IsLawful terms H
  pub stands : StandsFor terms.root H t.version
  pub waits : frontier ≡ waiting_in terms.root H

-- the version that stands for the history was given, or there was no memory
pub record Shares (terms : Terms) (before : History) (reply : Result Snapshot NoMemory) (after : History) : Type 0 where
  pub same : after ≡ before
  pub version : IfOk reply (StandsFor terms.root after)
  pub lawful : IsLawful terms after

-- the cells that wait were given, or there was no memory
pub record Lists (terms : Terms) (before : History) (reply : Result (List WaitingCell) NoMemory) (after : History) : Type 0 where
  pub same : after ≡ before
  pub cells : IfOk reply (λ cells. cells ≡ waiting_in terms.root after)
  pub lawful : IsLawful terms after
