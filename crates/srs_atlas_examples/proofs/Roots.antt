-- What comes to the root of a plan.
use Rattle.std.proofs.Common.{◌≡◌, ◌<◌, ℕ, List, [], length, inl, inr, refl, sym, ap, subst, ◌∙◌, arith, append-nil}
use Rattle.std.specs.Prelude.{Some, None}
use Rattle.std.specs.declared.option.Option.{Option}
use Rattle.srs_plane.specs.Regions.{Area}
use Rattle.srs_path.specs.declared.paths.Side.{Side}
use Rattle.srs_path.specs.declared.outcomes.Outcome.{Outcome}
use Rattle.srs_path.specs.Views.{Budget, last_of}
use Rattle.srs_path.specs.Refinement.{Refines}
use Rattle.srs_turn.specs.Prefixes.{Begins}
use Rattle.srs_tree.specs.Tree.{History}
use Rattle.srs_atlas.specs.declared.book.Terms.{Terms}
use Rattle.srs_atlas.specs.Books.{AreTerms}
use Rattle.srs_atlas.specs.Commits.{FitsPlan}

-- the outcome of the root fits the plan where nothing is seen
pub root_fits : (Root : Area) (L : Budget) (o : Outcome) → Refines Root (last_of L 0 1 1) L.wits o → FitsPlan Root L [] [] o
root_fits Root L o r = record {
  cell = inl refl;
  next = record {
    rows_done = λ path cell less. absurd (omega (arith, less));
    by_plan = inr (subst (λ (R : Area). Refines R (last_of L 0 1 1) L.wits o) (sym (append-nil Root)) r);
  };
}

abbrev budget_or : Budget → Option Budget → Budget
budget_or other None = other
budget_or other (Some L) = L

-- the same at the root's path, by the terms of an atlas
pub root_ready : (T : Terms) (limits : Budget) (cell : Area) (w : ℕ) (o : Outcome) (seen : History) (path : List Side)
    → AreTerms T → T.plan ≡ Some limits → T.root ≡ cell → w ≡ T.w → path ≡ [] → Refines cell (last_of limits 0 1 1) w o
    → (start : History) × Begins start seen × ((L : Budget) → T.plan ≡ Some L → FitsPlan T.root L start path o)
root_ready T limits cell w o seen path terms plan root is at r = (
  [],
  (seen, refl),
  λ L e.
      let same : limits ≡ L = ap (budget_or limits) (sym plan ∙ e) in
      let wits : w ≡ L.wits = is ∙ sym (terms.same L e) in
      let there : Refines T.root (last_of limits 0 1 1) w o = subst (λ (R : Area). Refines R (last_of limits 0 1 1) w o) (sym root) r in
      let by : Refines T.root (last_of L 0 1 1) w o = subst (λ (M : Budget). Refines T.root (last_of M 0 1 1) w o) same there in
      subst (λ (p : List Side). FitsPlan T.root L [] p o) (sym at) (root_fits T.root L o (subst (λ (n : ℕ). Refines T.root (last_of L 0 1 1) n o) wits by)),
)
