-- The parts of a cut come to the frontier, and its cell goes.
use Rattle.std.proofs.Common.{◌≡◌, ◌≢◌, ℕ, zero, suc, ◌<◌, Bool, true, false, not, cond, List, [], ◌∷◌, ◌++◌, length, map, refl, sym, ap, ap₂, subst, ◌∙◌, arith, length-append}
use Rattle.std.specs.Prelude.{Contains}
use Rattle.std.specs.List.{filter}
use Rattle.std.proofs.lemmas.List.{append-nil, append_assoc, same_from_push}
use Rattle.std.proofs.lemmas.List.Elements.{filter-append}
use Rattle.srs_plane.specs.Regions.{Area}
use Rattle.srs_path.specs.declared.paths.Side.{Side}
use Rattle.srs_path.specs.declared.paths.Side.TheVariants.{Ge, Lt}
use Rattle.srs_path.specs.declared.outcomes.Outcome.{Outcome}
use Rattle.srs_path.specs.declared.outcomes.Outcome.TheVariants.{Inside, Outside, Cut, Left}
use Rattle.std.specs.declared.option.Option.TheVariants.{None}
use Rattle.srs_tree.specs.Tree.{History, Tree, path_eq, outcome_at, IsCellOf}
use Rattle.srs_tree.specs.Legality.{IsLegal}
use Rattle.srs_tree.specs.Rounds.{parts_by}
use Rattle.srs_tree.specs.Queue.{WaitingCell, queue_of, without}
use Rattle.srs_tree.proofs.HistoryLemmas.{path_eq_same}
use Rattle.srs_tree.proofs.CellsLemmas.{part_new}
use Rattle.srs_tree.proofs.QueueLemmas.{queue_is}
use Rattle.srs_atlas.specs.Books.{cell_at, waiting_in}
use Rattle.srs_atlas.specs.Frontiers.{LacksPath, LackPaths, without_paths}
use Rattle.srs_atlas.proofs.FrontierLemmas.{without_lacking}

-- what was pushed is taken out again
pub without_parts : (cells : List WaitingCell) (frontier : List WaitingCell) → LackPaths cells frontier → without_paths (map (λ c. c.path) cells) (frontier ++ cells) ≡ frontier
without_parts [] frontier l = append-nil frontier
without_parts (c ∷ more) frontier l =
    let gone : without c.path (frontier ++ c ∷ more) ≡ frontier ++ more
    = filter-append (λ (d : WaitingCell). not (path_eq c.path d.path)) frontier (c ∷ more)
    ∙ ap₂ (λ (xs ys : List WaitingCell). xs ++ ys) (without_lacking c.path frontier l.0)
    (ap (λ (b : Bool). cond (not b) (c ∷ without c.path more) (without c.path more)) (path_eq_same c.path) ∙ without_lacking c.path more l.1) in
    ap (without_paths (map (λ (d : WaitingCell). d.path) more)) gone ∙ without_parts more frontier l.2

lacks_mapped : (Root : Area) (T : Tree) (path : List Side) (q : List (List Side)) → ((p : List Side) → Contains q p → path ≢ p) → LacksPath path (map (cell_at Root T) q)
lacks_mapped Root T path [] h = tt
lacks_mapped Root T path (p ∷ q) h = (h p (0, omega arith, refl), lacks_mapped Root T path q (λ y c. h y (let l = c.1 in (suc c.0, omega arith, c.2))))

longer : (path : List Side) (s : Side) → path ≢ path ++ s ∷ []
longer path s e = absurd (omega (arith, ap length e, length-append path (s ∷ [])))

sides_apart : (path : List Side) → path ++ Ge ∷ [] ≢ path ++ Lt ∷ []
sides_apart path e = absurd (let is : Ge ≡ Lt = (same_from_push path path Ge Lt e).1 in cc)

module _ (Root : Area) (W : ℕ) (H : History) (legal : IsLegal Root W H) (path : List Side) (fresh : outcome_at H path ≡ None) (frontier : List WaitingCell) (waits : frontier ≡ waiting_in Root H) where
  part_lacks : (s : Side) → LacksPath (path ++ s ∷ []) frontier
  part_lacks s =
      subst (LacksPath (path ++ s ∷ [])) (sym waits)
      (lacks_mapped Root (outcome_at H) (path ++ s ∷ []) (queue_of H)
      (λ p c e. part_new H path s fresh (subst (IsCellOf (outcome_at H)) (sym e) ((queue_is Root W H legal).to p c).0)))

  -- no part is in the frontier
  pub parts_lack : (R : Area) (T : Tree) (o : Outcome) (cells : List WaitingCell) → cells ≡ map (cell_at R T) (parts_by path o) → LackPaths cells frontier
  parts_lack R T o cells is = subst (λ (cs : List WaitingCell). LackPaths cs frontier) (sym is) (by o)
    where
      by : (u : Outcome) → LackPaths (map (cell_at R T) (parts_by path u)) frontier
      by (Inside ranks) = tt
      by (Outside cycle) = tt
      by (Cut h) = (part_lacks Ge, (sides_apart path, tt), (part_lacks Lt, tt, tt))
      by (Left cause) = tt

  -- the cell of the parts goes
  pub without_cell : (R : Area) (T : Tree) (o : Outcome) (cells : List WaitingCell) → cells ≡ map (cell_at R T) (parts_by path o)
      → without path (frontier ++ cells) ≡ without path frontier ++ cells
  without_cell R T o cells is =
      filter-append (λ (c : WaitingCell). not (path_eq path c.path)) frontier cells
      ∙ ap (λ (cs : List WaitingCell). without path frontier ++ cs) (without_lacking path cells (subst (LacksPath path) (sym is) (by o)))
    where
      by : (u : Outcome) → LacksPath path (map (cell_at R T) (parts_by path u))
      by (Inside ranks) = tt
      by (Outside cycle) = tt
      by (Cut h) = (longer path Ge, (longer path Lt, tt))
      by (Left cause) = tt
