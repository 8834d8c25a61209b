-- The descent along a path, from the event of the root down.
use Rattle.std.proofs.Common.{◌≡◌, ℕ, ◌+◌, ◌<◌, ◌≤◌, List, [], ◌∷◌, ◌++◌, length, take, drop, slice_get, refl, sym, ap, subst, ◌∙◌, arith, take-append-drop, Some, None}
use Rattle.std.proofs.lemmas.Option.{same_Some, slice_get_within, get_or_from_slice_get}
use Rattle.std.proofs.lemmas.List.{take_more, take_all}
use Rattle.std.proofs.Math.Seq.{drop-cons}
use Rattle.srs_num.specs.Points.{LinearForm}
use Rattle.srs_path.specs.declared.paths.Side.{Side}
use Rattle.srs_path.specs.declared.paths.Side.TheVariants.{Ge, Lt}
use Rattle.srs_path.specs.declared.outcomes.Outcome.{Outcome}
use Rattle.srs_path.specs.declared.outcomes.Outcome.TheVariants.{Cut}
use Rattle.srs_path.specs.Views.{Entry}
use Rattle.srs_tree.specs.Tree.{History, outcome_at}
use Rattle.srs_tree.specs.Rounds.{parts_by}
use Rattle.srs_tree.specs.WholeTrees.{ListsTrees, ListsWholeTree}
use Rattle.srs_tree.proofs.Trees.{IsClosed, none_below}
use Rattle.srs_cert.specs.Certificates.{StandsAt}
use Rattle.srs_cert.proofs.LtParts.{head_at}
use Rattle.srs_cert.specs.Preorders.{AreOpenAfter}
use Rattle.srs_cert.proofs.Preordered.{none_or, walked_all, walked_takes, walked_outcome}

-- an event whose outcome was seen to be a cut
pub read_cut : (H : History) (i : ℕ) (e seen : Entry) (o : Outcome) (h : LinearForm) → slice_get H i ≡ Some e → slice_get H i ≡ Some seen → o ≡ seen.outcome → o ≡ Cut h → e.outcome ≡ Cut h
read_cut H i e seen o h at there is cut = ap (λ (x : Entry). x.outcome) (sym (same_Some seen e (sym there ∙ at))) ∙ sym is ∙ cut

module _ (H : History) (tree : ListsWholeTree H) where
  -- each path that has an event is a cell
  pub events_closed : IsClosed (outcome_at H)
  events_closed =
      let w = walked_all H tree (length H) (omega arith) in
      let o : AreOpenAfter H w.0 = subst (λ (K : History). AreOpenAfter K w.0) (take_all (length H) H (omega arith)) w.1.opened in
      o.closed

  -- the event at a place is the one that its path has
  pub outcome_here : (i : ℕ) (e : Entry) → slice_get H i ≡ Some e → outcome_at H e.path ≡ Some e.outcome
  outcome_here i e at =
      let w = walked_all H tree i (omega (arith, slice_get_within H i e at)) in
      let t = walked_takes H i w.0 e w.1 at in
      walked_outcome H i e t.rest at t.is_open

  -- where a list begins with a path, so do the events
  begins : (K : History) (p : List Side) (waiting : List (List Side)) (i : ℕ) → drop i H ≡ K → ListsTrees (p ∷ waiting) K → StandsAt H p i
  begins [] p waiting i d l = absurd l
  begins (f ∷ K) p waiting i d l = record { event = f; there = head_at H i f K d; path_is = l.0 }

  pub root_stands : StandsAt H [] 0
  root_stands = begins H [] [] 0 refl tree

  -- the Ge part stands right behind the cut
  pub ge_stands : (i : ℕ) (e : Entry) (h : LinearForm) → slice_get H i ≡ Some e → e.outcome ≡ Cut h → StandsAt H (e.path ++ Ge ∷ []) (i + 1)
  ge_stands i e h at cut =
      let w = walked_all H tree i (omega (arith, slice_get_within H i e at)) in
      let t = walked_takes H i w.0 e w.1 at in
      let l : ListsTrees (parts_by e.path (Cut h) ++ t.rest) (drop (i + 1) H) = subst (λ (o : Outcome). ListsTrees (parts_by e.path o ++ t.rest) (drop (i + 1) H)) cut t.next.lists in
      begins (drop (i + 1) H) (e.path ++ Ge ∷ []) ((e.path ++ Lt ∷ []) ∷ t.rest) (i + 1) refl l

  -- below a leaf there is no event
  pub none_under : (i : ℕ) (e : Entry) (s : Side) (rest : List Side) → slice_get H i ≡ Some e → ((h : LinearForm) → e.outcome ≡ Cut h → ⊥) → outcome_at H (e.path ++ s ∷ rest) ≡ None
  none_under i e s rest at leaf =
      let plain : (h : LinearForm) → outcome_at H e.path ≡ Some (Cut h) → ⊥ = λ h q. leaf h (same_Some e.outcome (Cut h) (sym (outcome_here i e at) ∙ q)) in
      none_or (outcome_at H (e.path ++ s ∷ rest)) (λ o q. none_below (outcome_at H) events_closed e.path rest s plain (events_closed (e.path ++ s ∷ rest) o q))

  module _ (path : List Side) (k i : ℕ) (at : StandsAt H (take k path) i) where
    -- one side more
    pub next_stands : (j : ℕ) (s : Side) → k < length path → slice_get path k ≡ Some s → ((e : Entry) → slice_get H i ≡ Some e → StandsAt H (e.path ++ s ∷ []) j) → StandsAt H (take (k + 1) path) j
    next_stands j s l side part =
        let more : take (k + 1) path ≡ take k path ++ s ∷ [] = take_more path k s l ∙ ap (λ (z : Side). take k path ++ z ∷ []) (get_or_from_slice_get path k s s side) in
        subst (λ (p : List Side). StandsAt H p j) (ap (λ (p : List Side). p ++ s ∷ []) at.path_is ∙ sym more) (part at.event at.there)

    -- the path goes on below a leaf
    pub stops_at : k < length path → ((e : Entry) (h : LinearForm) → slice_get H i ≡ Some e → e.outcome ≡ Cut h → ⊥) → outcome_at H path ≡ None
    stops_at l leaf =
        let cut : drop k path ≡ _ = drop-cons path k Ge l in
        let whole : path ≡ at.event.path ++ drop k path = sym (ap (λ (p : List Side). p ++ drop k path) at.path_is ∙ take-append-drop k path) in
        ap (outcome_at H) (whole ∙ ap (λ (q : List Side). at.event.path ++ q) cut) ∙ none_under i at.event _ _ at.there (λ h q. leaf at.event h at.there q)

    -- the whole path was gone
    pub arrives : (e : Entry) → slice_get H i ≡ Some e → length path ≤ k → outcome_at H path ≡ Some e.outcome
    arrives e there l =
        let same : at.event ≡ e = same_Some at.event e (sym at.there ∙ there) in
        let p : e.path ≡ path = ap (λ (z : Entry). z.path) (sym same) ∙ at.path_is ∙ take_all k path l in
        ap (outcome_at H) (sym p) ∙ outcome_here i e there
