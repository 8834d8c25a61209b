-- A region has one outcome at most: the rows of the table exclude each other, and each says which outcome it is.
use Rattle.std.proofs.Common.{◌≡◌, ◌⊎◌, inl, inr, ℕ, ◌^◌, List, ℤ, pos, refl, arith, ap, sym, ◌∙◌, subst, slice_get}
use Rattle.std.proofs.lemmas.Int.{ints, by_lt_z}
use Rattle.std.proofs.lemmas.Option.{none-some}
use Rattle.std.specs.declared.option.Option.{Option}
use Rattle.std.specs.declared.option.Option.TheVariants.{None, Some}
use Rattle.srs_num.specs.declared.pairs.V2.{V2}
use Rattle.srs_num.specs.Points.{LinearForm}
use Rattle.srs_plane.specs.Regions.{Area}
use Rattle.srs_path.specs.declared.outcomes.Why.{Why}
use Rattle.srs_path.specs.declared.outcomes.Why.TheVariants.{Cycle as CycleFails, Witness as WitnessFails}
use Rattle.srs_path.specs.declared.limits.Last.{Last}
use Rattle.srs_path.specs.declared.limits.Last.TheVariants.{Depth as AtDepth, Cells as AtCells}
use Rattle.srs_path.specs.ChosenCycle.{IsChosen}
use Rattle.srs_path.specs.Cutout.{Covers, cutout_of, IsFirstDividing}
use Rattle.srs_path.specs.GridLine.{Axis, X, Y, axis_place, form_along, IsFirstGridLine, by_m, by_axis, by_k}
use Rattle.srs_path.specs.declared.outcomes.Cause.{Cause}
use Rattle.srs_path.specs.declared.outcomes.Cause.TheVariants.{Depth, Cells, Thin, Memory}
use Rattle.srs_path.specs.declared.outcomes.Outcome.{Outcome}
use Rattle.srs_path.specs.declared.outcomes.Outcome.TheVariants.{Inside, Outside, Cut, Left}
use Rattle.srs_path.specs.Refinement.{Refines, CycleFailsOn, StaysOpen, CutsByCycle, CutsByGrid, GivesInside, GivesOutside, GivesThin}
use Rattle.srs_path.proofs.ChosenOnce.{chosen_once, by_lt}
use Rattle.srs_path.proofs.RanksOnce.{ranks_once}

first_once : (R : Area) (fs : List LinearForm) (g h : LinearForm) → IsFirstDividing R fs g → IsFirstDividing R fs h → g ≡ h
first_once R fs g h u v = by_lt u.place v.place
    (λ l. absurd (v.none_before u.place g l u.is u.divides))
    (λ e. let i : Some g ≡ Some h = sym u.is ∙ ap (slice_get fs) e ∙ v.is in cc)
    (λ l. absurd (u.none_before v.place h l v.is v.divides))

axis_same : (a b : Axis) → axis_place a ≡ axis_place b → a ≡ b
axis_same X X e = refl
axis_same X Y e = absurd (omega (arith, e))
axis_same Y X e = absurd (omega (arith, e))
axis_same Y Y e = refl

grid_once : (R : Area) (g h : LinearForm) → IsFirstGridLine R g → IsFirstGridLine R h → g ≡ h
grid_once R g h u v = by_lt u.line.m v.line.m
    (λ l. absurd (v.none_before u.line (by_m l) u.divides))
    (λ m. by_lt (axis_place u.line.axis) (axis_place v.line.axis)
    (λ l. absurd (v.none_before u.line (by_axis m l) u.divides))
    (λ a. let s : u.line.axis ≡ v.line.axis = axis_same u.line.axis v.line.axis a in
    by_lt_z u.line.k v.line.k
    (λ l. absurd (v.none_before u.line (by_k m s l) u.divides))
    (λ n. by_lt_z v.line.k u.line.k
    (λ l. absurd (u.none_before v.line (by_k (sym m) (sym s) l) v.divides))
    (λ o. let k : u.line.k ≡ v.line.k = omega (arith, ints, n, o) in
    sym u.is ∙ ap (λ (x : Axis). form_along x (pos (2 ^ u.line.m)) u.line.k) s ∙ ap (λ (n : ℕ). form_along v.line.axis (pos (2 ^ n)) u.line.k) m
    ∙ ap (λ (z : ℤ). form_along v.line.axis (pos (2 ^ v.line.m)) z) k ∙ v.is)))
    (λ l. absurd (u.none_before v.line (by_axis (sym m) l) v.divides)))
    (λ l. absurd (u.none_before v.line (by_m l) v.divides))

covers_not : (R : Area) (W : ℕ) (c d : List ℤ) → IsChosen R c → Covers R c → CycleFailsOn R W d → ⊥
covers_not R W c d chosen covers fails = fails.uncovered (subst (λ (x : List ℤ). Covers R x) (chosen_once R c d chosen fails.chosen) covers)

apart : {A : Type 0} (last : Option A) (x : A) → last ≡ Some x → last ≡ None → ⊥
apart last x e f = none-some x (sym f ∙ e)

not_two : (last : Option Last) → last ≡ Some AtDepth → last ≡ Some AtCells → ⊥
not_two last e f = let i : ◌≡◌ {A = Option Last} (Some AtDepth) (Some AtCells) = sym e ∙ f in cc

-- the rows exclude each other
module _ (R : Area) (W : ℕ) where
  inside_open : (es : List (V2 × ℕ)) (why : Why) → GivesInside R W es → StaysOpen R W why → ⊥
  inside_open es CycleFails u v = u.no_core _ v.1.chosen.start.has
  inside_open es WitnessFails u v = v u.small

  outside_open : (c : List ℤ) (why : Why) → GivesOutside R W c → StaysOpen R W why → ⊥
  outside_open c CycleFails u v = covers_not R W c v.0 u.chosen u.covers v.1
  outside_open c WitnessFails u v = v u.small

  inside_outside : (es : List (V2 × ℕ)) (c : List ℤ) → GivesInside R W es → GivesOutside R W c → ⊥
  inside_outside es c u v = u.no_core _ v.chosen.start.has

  inside_cut : (es : List (V2 × ℕ)) (h : LinearForm) → GivesInside R W es → CutsByCycle R W h ⊎ CutsByGrid R W h → ⊥
  inside_cut es h u (inl b) = u.no_core _ b.fails.chosen.start.has
  inside_cut es h u (inr b) = b.large u.small

  outside_cut : (c : List ℤ) (h : LinearForm) → GivesOutside R W c → CutsByCycle R W h ⊎ CutsByGrid R W h → ⊥
  outside_cut c h u (inl b) = covers_not R W c b.cycle u.chosen u.covers b.fails
  outside_cut c h u (inr b) = b.large u.small

  cut_thin : (h : LinearForm) → CutsByCycle R W h ⊎ CutsByGrid R W h → GivesThin R W → ⊥
  cut_thin h (inl b) v = v.large b.fails.small
  cut_thin h (inr b) v = v.no_line b.first.line b.first.divides

  cut_once : (g h : LinearForm) → CutsByCycle R W g ⊎ CutsByGrid R W g → CutsByCycle R W h ⊎ CutsByGrid R W h → g ≡ h
  cut_once g h (inl a) (inl b) = first_once R (cutout_of b.cycle) g h (subst (λ (c : List ℤ). IsFirstDividing R (cutout_of c) g) (chosen_once R a.cycle b.cycle a.fails.chosen b.fails.chosen) a.first) b.first
  cut_once g h (inl a) (inr b) = absurd (b.large a.fails.small)
  cut_once g h (inr a) (inl b) = absurd (a.large b.fails.small)
  cut_once g h (inr a) (inr b) = grid_once R g h a.first b.first

  why_once : (x y : Why) → StaysOpen R W x → StaysOpen R W y → x ≡ y
  why_once CycleFails CycleFails u v = refl
  why_once CycleFails WitnessFails u v = absurd (v u.1.small)
  why_once WitnessFails CycleFails u v = absurd (u v.1.small)
  why_once WitnessFails WitnessFails u v = refl

  left_once : (last : Option Last) (x y : Cause) → Refines R last W (Left x) → Refines R last W (Left y) → x ≡ y
  left_once last (Depth x) (Depth y) u v = ap Depth (why_once x y u.1 v.1)
  left_once last (Depth x) (Cells y) u v = absurd (not_two last u.0 v.0)
  left_once last (Depth x) Thin u v = absurd (apart last AtDepth u.0 v.0)
  left_once last (Depth x) Memory u v = absurd v
  left_once last (Cells x) (Depth y) u v = absurd (not_two last v.0 u.0)
  left_once last (Cells x) (Cells y) u v = ap Cells (why_once x y u.1 v.1)
  left_once last (Cells x) Thin u v = absurd (apart last AtCells u.0 v.0)
  left_once last (Cells x) Memory u v = absurd v
  left_once last Thin (Depth y) u v = absurd (apart last AtDepth v.0 u.0)
  left_once last Thin (Cells y) u v = absurd (apart last AtCells v.0 u.0)
  left_once last Thin Thin u v = refl
  left_once last Thin Memory u v = absurd v
  left_once last Memory y u v = absurd u

  inside_left : (last : Option Last) (es : List (V2 × ℕ)) (x : Cause) → GivesInside R W es → Refines R last W (Left x) → ⊥
  inside_left last es (Depth why) u v = inside_open es why u v.1
  inside_left last es (Cells why) u v = inside_open es why u v.1
  inside_left last es Thin u v = v.1.large u.small
  inside_left last es Memory u v = v

  outside_left : (last : Option Last) (c : List ℤ) (x : Cause) → GivesOutside R W c → Refines R last W (Left x) → ⊥
  outside_left last c (Depth why) u v = outside_open c why u v.1
  outside_left last c (Cells why) u v = outside_open c why u v.1
  outside_left last c Thin u v = v.1.large u.small
  outside_left last c Memory u v = v

  cut_left : (last : Option Last) (h : LinearForm) (x : Cause) → Refines R last W (Cut h) → Refines R last W (Left x) → ⊥
  cut_left last h (Depth why) u v = apart last AtDepth v.0 u.0
  cut_left last h (Cells why) u v = apart last AtCells v.0 u.0
  cut_left last h Thin u v = cut_thin h u.1 v.1
  cut_left last h Memory u v = v

  outside_once : (c d : List ℤ) → GivesOutside R W c → GivesOutside R W d → c ≡ d
  outside_once c d u v = chosen_once R c d u.chosen v.chosen

  -- the outcome of a region
  pub outcome_once : (last : Option Last) (o u : Outcome) → Refines R last W o → Refines R last W u → o ≡ u
  outcome_once last (Inside es) (Inside fs) a b = ap Inside (ranks_once R es fs a.ranks b.ranks)
  outcome_once last (Inside es) (Outside d) a b = absurd (inside_outside es d a b)
  outcome_once last (Inside es) (Cut h) a b = absurd (inside_cut es h a b.1)
  outcome_once last (Inside es) (Left x) a b = absurd (inside_left last es x a b)
  outcome_once last (Outside c) (Inside fs) a b = absurd (inside_outside fs c b a)
  outcome_once last (Outside c) (Outside d) a b = ap Outside (outside_once c d a b)
  outcome_once last (Outside c) (Cut h) a b = absurd (outside_cut c h a b.1)
  outcome_once last (Outside c) (Left x) a b = absurd (outside_left last c x a b)
  outcome_once last (Cut g) (Inside fs) a b = absurd (inside_cut fs g b a.1)
  outcome_once last (Cut g) (Outside d) a b = absurd (outside_cut d g b a.1)
  outcome_once last (Cut g) (Cut h) a b = ap Cut (cut_once g h a.1 b.1)
  outcome_once last (Cut g) (Left x) a b = absurd (cut_left last g x a b)
  outcome_once last (Left x) (Inside fs) a b = absurd (inside_left last fs x b a)
  outcome_once last (Left x) (Outside d) a b = absurd (outside_left last d x b a)
  outcome_once last (Left x) (Cut h) a b = absurd (cut_left last h x b a)
  outcome_once last (Left x) (Left y) a b = ap Left (left_once last x y a b)
