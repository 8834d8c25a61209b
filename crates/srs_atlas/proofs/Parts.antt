-- The parts of an event in the frontier of a book.
use Rattle.std.proofs.Common.{◌≡◌, ℕ, List, ◌++◌, map, refl, sym, ap, subst, ◌∙◌}
use Rattle.std.specs.declared.option.Option.{Option}
use Rattle.srs_path.specs.declared.paths.Side.{Side}
use Rattle.srs_path.specs.Views.{Budget, Found}
use Rattle.srs_tree.specs.Tree.{History}
use Rattle.srs_tree.specs.Rounds.{parts_by}
use Rattle.srs_tree.specs.Snapshots.{Snapshot, tree_of, with_entry}
use Rattle.srs_tree.specs.Growth.{MayEnter}
use Rattle.srs_tree.specs.Queue.{WaitingCell, Growing, cell_in, without}
use Rattle.srs_atlas.specs.declared.book.Terms.{Terms}
use Rattle.srs_atlas.specs.Books.{terms_of, IsBook}
use Rattle.srs_atlas.specs.Frontiers.{LackPaths, without_paths}
use Rattle.srs_atlas.proofs.Entries.{welcome}
use Rattle.srs_atlas.proofs.Pushing.{parts_lack, without_cell, without_parts}

-- the cells of the parts
abbrev pub coming : Growing → List Side → Found → List WaitingCell
coming t path f = map (cell_in (with_entry t.version path f.outcome)) (parts_by path f.outcome)

module _ (terms : Terms) (H : History) (t : Growing) (frontier : List WaitingCell) (book : IsBook terms H t frontier) (path : List Side) (f : Found) (may : MayEnter t.version path f) (cells : List WaitingCell) (are : cells ≡ coming t path f) where
  abbrev next : Snapshot
  next = with_entry t.version path f.outcome

  -- no part is in the frontier yet
  pub lack : LackPaths cells frontier
  lack =
      parts_lack terms.root terms.w H book.lawful.legal path (welcome terms.root H t.version book.stands path f may).is_open.open_yet frontier book.waits
      next.region (tree_of next) f.outcome cells are

  -- the frontier after the parts came and the cell went
  pub came : (u : Growing) (pushed later : List WaitingCell) → u.version ≡ next → pushed ≡ frontier ++ cells → later ≡ without path pushed
      → later ≡ without path frontier ++ map (cell_in u.version) (parts_by path f.outcome)
  came u pushed later is push went =
      went ∙ ap (without path) push
      ∙ without_cell terms.root terms.w H book.lawful.legal path (welcome terms.root H t.version book.stands path f may).is_open.open_yet frontier book.waits
      next.region (tree_of next) f.outcome cells are
      ∙ ap (λ (cs : List WaitingCell). without path frontier ++ cs) (are ∙ ap (λ (v : Snapshot). map (cell_in v) (parts_by path f.outcome)) (sym is))

  -- the frontier after the parts came and went again
  pub back : (pushed later : List WaitingCell) (paths : List (List Side)) → pushed ≡ frontier ++ cells → paths ≡ map (λ c. c.path) cells → later ≡ without_paths paths pushed → later ≡ frontier
  back pushed later paths push are_paths went =
      went ∙ ap (without_paths paths) push ∙ ap (λ (ps : List (List Side)). without_paths ps (frontier ++ cells)) are_paths ∙ without_parts cells frontier lack

-- the book as it was, as its parts are made
pub book_same : (t u : Growing) (H now : History) (frontier later : List WaitingCell) (w : ℕ) (plan : Option Budget) → IsBook (terms_of t w plan) H t frontier → u ≡ t → now ≡ H → later ≡ frontier
    → IsBook (terms_of u w plan) now u later
book_same t u H now frontier later w plan book tree history cells =
    subst (λ (v : Growing). IsBook (terms_of v w plan) now v later) (sym tree)
    (subst (λ (G : History). IsBook (terms_of t w plan) G t later) (sym history) (subst (IsBook (terms_of t w plan) H t) (sym cells) book))
