-- The lines of the nodes, one node after the other.
use Rattle.std.proofs.Common.{◌≡◌, ◌<◌, ◌≤◌, ◌+◌, ◌*◌, ◌^◌, ◌++◌, ℕ, List, [], ◌∷◌, length, take, flat_map, get_or, Some, slice_get, refl, sym, ap, ◌∙◌, inl, inr, arith, length-append, append_assoc, append-nil, All, subst}
use Rattle.std.proofs.Math.Nat.{mul-le-mul_left}
use Rattle.std.proofs.lemmas.List.{take_more, get_or_append_left, map-append}
use Rattle.std.proofs.Math.Seq.{get_or-append_seam}
use Rattle.std.proofs.lemmas.List.Concat.{flat_map-append}
use Rattle.std.proofs.lemmas.Option.{same_Some, slice_get-get_or, get_or_from_slice_get, slice_get_within}
use Rattle.std.proofs.lemmas.Bool.Decides.{eqb_tells}
use borrow.Author.Count.{below_more}
use Rattle.srs_plane.specs.Polygons.{IsCounted}
use Rattle.srs_path.specs.declared.outcomes.Outcome.{Outcome}
use Rattle.srs_path.specs.declared.outcomes.Outcome.TheVariants.{Inside, Outside, Cut, Left}
use Rattle.srs_path.specs.Views.{Budget, IsBudget, Entry}
use Rattle.srs_tree.specs.Tree.{History}
use Rattle.srs_tree.specs.WholeTrees.{AllowsAt, KeepsTo, IsWithin}
use Rattle.srs_cert.specs.Texts.{outcome_text, head_text}
use Rattle.srs_cert.specs.Heights.{height}
use Rattle.srs_cert.specs.Certificates.{CertView, outcomes_of, IsInRange, lf_count, text_before, line_of_node}
use Rattle.srs_cert.proofs.LineCounts.{lf-append, head_lines, outcome_lines}

-- the lines of the nodes before node i are listed, and the next one is known
pub record LinesSoFar (c : CertView) (lines : List ℕ) (i line : ℕ) : Type 0 where
  pub count : length lines ≡ i
  pub here : line ≡ line_of_node c i
  pub each : (k : ℕ) → k < i → get_or lines k 0 ≡ line_of_node c k
  pub ranges : (k : ℕ) (e : Entry) → k < i → slice_get c.events k ≡ Some e → IsInRange e.outcome
  pub small : line ≤ 20 + i * (c.limits.wits + 1)

pub lines_start : (c : CertView) → IsCounted c.vertices → LinesSoFar c [] 0 (length c.vertices + 4)
unfolding line_of_node
lines_start c counted =
    let head : lf_count (text_before c 0) ≡ length c.vertices + 3 = ap lf_count (append-nil (head_text c.vertices c.limits)) ∙ head_lines c.vertices c.limits in
    record {
      count = refl;
      here = omega (arith, head);
      each = λ k lt. absurd (omega arith);
      ranges = λ k e lt at. absurd (omega arith);
      small = omega (arith, counted);
    }

outcomes_more : (H : History) (i : ℕ) (e : Entry) → slice_get H i ≡ Some e → outcomes_of (take (i + 1) H) ≡ outcomes_of (take i H) ++ e.outcome ∷ []
outcomes_more H i e at =
    let lt = slice_get_within H i e at in
    let same = get_or_from_slice_get H i e e at in
    ap outcomes_of (take_more H i e lt ∙ ap (λ x. take i H ++ x ∷ []) same) ∙ map-append (λ (x : Entry). x.outcome) (take i H) (e ∷ [])

pub line_next : (c : CertView) (i : ℕ) (e : Entry) → slice_get c.events i ≡ Some e → line_of_node c (i + 1) ≡ line_of_node c i + height e.outcome
unfolding line_of_node
line_next c i e at =
    let head = head_text c.vertices c.limits in
    let before = flat_map outcome_text (outcomes_of (take i c.events)) in
    let parts : flat_map outcome_text (outcomes_of (take (i + 1) c.events)) ≡ before ++ outcome_text e.outcome =
    ap (flat_map outcome_text) (outcomes_more c.events i e at) ∙ flat_map-append outcome_text (outcomes_of (take i c.events)) (e.outcome ∷ []) ∙ ap (λ x. before ++ x) (append-nil (outcome_text e.outcome)) in
    let whole : text_before c (i + 1) ≡ text_before c i ++ outcome_text e.outcome = ap (λ x. head ++ x) parts ∙ sym (append_assoc head before (outcome_text e.outcome)) in
    let count : lf_count (text_before c (i + 1)) ≡ lf_count (text_before c i) + lf_count (outcome_text e.outcome) = ap lf_count whole ∙ lf-append (text_before c i) (outcome_text e.outcome) in
    omega (arith, count, outcome_lines e.outcome)

height_short : (b : Budget) (depth : ℕ) (o : Outcome) → AllowsAt b depth o → height o ≤ b.wits + 1
height_short b depth (Inside ranks) h = omega arith
height_short b depth (Outside cycle) h = omega arith
height_short b depth (Cut form) h = omega arith
height_short b depth (Left cause) h = omega arith

pub kept_at : (b : Budget) (H : History) (i : ℕ) (e : Entry) → IsWithin b H → slice_get H i ≡ Some e → KeepsTo b e
kept_at b H i e w at = subst (KeepsTo b) (get_or_from_slice_get H i e e at) (w.each i e (slice_get_within H i e at))

pub lines_more : (c : CertView) (lines : List ℕ) (i line : ℕ) (e : Entry) → LinesSoFar c lines i line → IsWithin c.limits c.events → slice_get c.events i ≡ Some e → IsInRange e.outcome → LinesSoFar c (lines ++ line ∷ []) (i + 1) (line + height e.outcome)
lines_more c lines i line e s w at range =
    let short = height_short c.limits (length e.path) e.outcome (kept_at c.limits c.events i e w at) in
    let size = s.count in
    let before = λ (k : ℕ) (lt : k < i). let within : k < length lines = omega arith in get_or_append_left lines (line ∷ []) 0 k within ∙ s.each k lt in
    let last : get_or (lines ++ line ∷ []) i 0 ≡ line_of_node c i = ap (λ n. get_or (lines ++ line ∷ []) n 0) (sym size) ∙ get_or-append_seam lines line [] 0 ∙ s.here in
    record {
      count = omega (arith, s.count, length-append lines (line ∷ []));
      here = omega (arith, s.here, line_next c i e at);
      each = below_more (λ k. get_or (lines ++ line ∷ []) k 0 ≡ line_of_node c k) i before last;
      ranges = λ k f lt there. elim (eqb_tells k i) [
        | inl same ↦ subst (λ (x : Entry). IsInRange x.outcome) (same_Some e f (sym at ∙ rw same.1 at there)) range
        | inr other ↦ s.ranges k f (omega (arith, other.1)) there
      ];
      small = let was = s.small in omega (arith, was, short);
    }

-- the next line fits into 32 bits
pub lines_fit : (c : CertView) (lines : List ℕ) (i line : ℕ) (e : Entry) → LinesSoFar c lines i line → IsBudget c.limits → IsWithin c.limits c.events → slice_get c.events i ≡ Some e → line + height e.outcome < 2 ^ 32
lines_fit c lines i line e s b w at =
    let short = height_short c.limits (length e.path) e.outcome (kept_at c.limits c.events i e w at) in
    let lt = slice_get_within c.events i e at in
    let most : c.limits.wits * i ≤ c.limits.wits * c.limits.cells = mul-le-mul_left c.limits.wits (omega (arith, lt, w.cells)) in
    omega (arith, s.small, short, most, b.product, b.cells, b.wits, lt, w.cells)

pub all_ranges : (c : CertView) (lines : List ℕ) (i line : ℕ) → LinesSoFar c lines i line → i ≡ length c.events → All (λ e. IsInRange e.outcome) c.events
all_ranges c lines i line s over = λ k d lt. s.ranges k (get_or c.events k d) (omega arith) (slice_get-get_or c.events k d lt)
