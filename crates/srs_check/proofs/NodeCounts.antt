-- The numbers of nodes by their kind, counted along the events.
use Rattle.std.proofs.Common.{◌≡◌, ℕ, ◌+◌, ◌<◌, ◌≤◌, Bool, true, false, cond, length, take, get_or, slice_get, Some, ap, ◌∙◌, arith}
use Rattle.std.specs.Prelude.{count_by}
use Rattle.std.proofs.lemmas.List.{length-take-le, take_all}
use Rattle.std.proofs.lemmas.List.Sums.{count_by_more_yes, count_by_more_no, count_by-le-length}
use Rattle.std.proofs.lemmas.Option.{slice_get_within, get_or_from_slice_get}
use Rattle.srs_path.specs.declared.outcomes.Outcome.{Outcome}
use Rattle.srs_path.specs.Views.{Entry}
use Rattle.srs_tree.specs.Tree.{History}
use Rattle.srs_check.specs.declared.faults.Counts.{Counts}
use Rattle.srs_check.specs.Faults.{is_inside, is_outside, is_cut, is_left, counts_of}
use Rattle.srs_check.specs.Tallies.{first_of, CountsSoFar}

abbrev pub one_if : Bool → ℕ
one_if b = cond b 1 0

first_more : (kind : Outcome → Bool) (H : History) (i : ℕ) (e : Entry) → slice_get H i ≡ Some e → first_of kind H (i + 1) ≡ first_of kind H i + one_if (kind e.outcome)
first_more kind H i e at =
    let within : i < length H = slice_get_within H i e at in
    let there : kind (get_or H i e).outcome ≡ kind e.outcome = ap (λ (x : Entry). kind x.outcome) (get_or_from_slice_get H i e e at) in
    elim (kind e.outcome) as (λ b. kind (get_or H i e).outcome ≡ b → first_of kind H (i + 1) ≡ first_of kind H i + one_if b) [
      | true ↦ λ q. count_by_more_yes (λ (x : Entry). kind x.outcome) H i e within q
      | false ↦ λ q. let t = count_by_more_no (λ (x : Entry). kind x.outcome) H i e within q in omega (arith, t)
    ] there

pub first_few : (kind : Outcome → Bool) (H : History) (i : ℕ) → i ≤ length H → first_of kind H i ≤ i
first_few kind H i l = omega (arith, count_by-le-length (λ (e : Entry). kind e.outcome) (take i H), length-take-le i H l)

-- with the counts of one node more
pub counts_more : (H : History) (i : ℕ) (e : Entry) (o : Outcome) (old new : Counts) → slice_get H i ≡ Some e → o ≡ e.outcome → CountsSoFar H i old → new.cells ≡ old.cells + 1 → new.inside ≡ old.inside + one_if (is_inside o)
    → new.outside ≡ old.outside + one_if (is_outside o) → new.cut ≡ old.cut + one_if (is_cut o) → new.left ≡ old.left + one_if (is_left o) → CountsSoFar H (i + 1) new
counts_more H i e o old new at is s a b c d f = record {
  cells = omega (arith, a, s.cells);
  inside = step is_inside old.inside new.inside s.inside b;
  outside = step is_outside old.outside new.outside s.outside c;
  cut = step is_cut old.cut new.cut s.cut d;
  left = step is_left old.left new.left s.left f;
}
  where
    step : (kind : Outcome → Bool) (x y : ℕ) → x ≡ first_of kind H i → y ≡ x + one_if (kind o) → y ≡ first_of kind H (i + 1)
    step kind x y p q =
        let r : one_if (kind o) ≡ one_if (kind e.outcome) = ap (λ (u : Outcome). one_if (kind u)) is in
        omega (arith, p, q, r, first_more kind H i e at)

same_counts : (c d : Counts) → c.cells ≡ d.cells → c.inside ≡ d.inside → c.outside ≡ d.outside → c.cut ≡ d.cut → c.left ≡ d.left → c ≡ d
same_counts c d p q r s t = λ i. record { cells = p i; inside = q i; outside = r i; cut = s i; left = t i }

pub all_counts : (H : History) (i : ℕ) (counts : Counts) → CountsSoFar H i counts → i ≤ length H → length H ≤ i → counts ≡ counts_of H
all_counts H i counts s l m =
    same_counts counts (counts_of H) (omega (arith, s.cells)) (s.inside ∙ whole is_inside) (s.outside ∙ whole is_outside) (s.cut ∙ whole is_cut) (s.left ∙ whole is_left)
  where
    whole : (kind : Outcome → Bool) → first_of kind H i ≡ count_by (λ (e : Entry). kind e.outcome) H
    whole kind = ap (λ (K : History). count_by (λ (e : Entry). kind e.outcome) K) (take_all i H m)
