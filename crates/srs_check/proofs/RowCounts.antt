-- The numbers of nodes by depth, counted along the events.
use Rattle.std.proofs.Common.{◌≡◌, ◌≢◌, inl, inr, ℕ, zero, suc, ◌+◌, ◌<◌, ◌≤◌, Bool, true, false, cond, List, [], ◌∷◌, length, take, set, get_or, slice_get, Some, refl, sym, ap, ◌∙◌, arith, get_or-set_same, get_or-set_other}
use Rattle.std.specs.Prelude.{◌==◌, ◌*◌, ◌↔◌, IsTrue, nat_le, nat_lt}
use Rattle.std.proofs.lemmas.Bool.Decides.{nat_tests, eqb_tells}
use Rattle.std.proofs.lemmas.List.{length-take-le, length-set, take_all}
use Rattle.std.proofs.lemmas.List.Sums.{sum_by-cons, count_by_more_yes, count_by_more_no, count_by-le-length}
use Rattle.std.proofs.lemmas.Option.{slice_get_within, get_or_from_slice_get}
use Rattle.srs_path.specs.Views.{Budget, Entry}
use Rattle.srs_tree.specs.Tree.{History}
use Rattle.srs_check.specs.Budgets.{nodes_upto, nodes_at, SpendsCells, CountsRows}
use Rattle.srs_check.specs.Tallies.{RowsSoFar}

abbrev one_if : Bool → ℕ
one_if b = cond b 1 0

le_split : (a k : ℕ) → one_if (nat_le a (k + 1)) ≡ one_if (nat_le a k) + one_if (a == k + 1)
le_split a k = grind (arith, nat_tests)

le_zero : (a : ℕ) → one_if (nat_le a 0) ≡ one_if (a == 0)
le_zero a = grind (arith, nat_tests)

-- one depth more
pub upto_more : (H : History) (k : ℕ) → nodes_upto H (k + 1) ≡ nodes_upto H k + nodes_at H (k + 1)
upto_more [] k = refl
upto_more (e ∷ H) k =
    let a : nodes_upto (e ∷ H) (k + 1) ≡ one_if (nat_le (length e.path) (k + 1)) + nodes_upto H (k + 1) = sum_by-cons _ e H in
    let b : nodes_upto (e ∷ H) k ≡ one_if (nat_le (length e.path) k) + nodes_upto H k = sum_by-cons _ e H in
    let c : nodes_at (e ∷ H) (k + 1) ≡ one_if (length e.path == k + 1) + nodes_at H (k + 1) = sum_by-cons _ e H in
    omega (arith, a, b, c, le_split (length e.path) k, upto_more H k)

pub upto_root : (H : History) → nodes_upto H 0 ≡ nodes_at H 0
upto_root [] = refl
upto_root (e ∷ H) =
    let a : nodes_upto (e ∷ H) 0 ≡ one_if (nat_le (length e.path) 0) + nodes_upto H 0 = sum_by-cons _ e H in
    let b : nodes_at (e ∷ H) 0 ≡ one_if (length e.path == 0) + nodes_at H 0 = sum_by-cons _ e H in
    omega (arith, a, b, le_zero (length e.path), upto_root H)

pub upto_few : (H : History) (k : ℕ) → nodes_upto H k ≤ length H
upto_few H k = count_by-le-length (λ (e : Entry). nat_le (length e.path) k) H

pub at_few : (H : History) (k : ℕ) → nodes_at H k ≤ length H
at_few H k = count_by-le-length (λ (e : Entry). length e.path == k) H

abbrev pub zeros : ℕ → List ℕ
zeros zero = []
zeros (suc n) = 0 ∷ zeros n

pub zeros_read : (n k : ℕ) → get_or (zeros n) k 0 ≡ 0
zeros_read zero k = refl
zeros_read (suc n) zero = refl
zeros_read (suc n) (suc k) = zeros_read n k

pub no_rows : (H : History) → RowsSoFar H 0 (zeros 49)
no_rows H = record { size = refl; each = λ k l. zeros_read 49 k }

pub all_rows : (H : History) (i : ℕ) (rows : List ℕ) → RowsSoFar H i rows → length H ≤ i → CountsRows H rows
all_rows H i rows s l k b = s.each k b ∙ ap (λ (x : History). nodes_at x k) (take_all i H l)

pub so_far_few : (H : History) (i : ℕ) (rows : List ℕ) (k : ℕ) → RowsSoFar H i rows → k < 49 → i ≤ length H → get_or rows k 0 ≤ i
so_far_few H i rows k s l le = omega (arith, s.each k l, at_few (take i H) k, length-take-le i H le)

module _ (H : History) (i : ℕ) (e : Entry) (here : slice_get H i ≡ Some e) where
  there : (k : ℕ) → (length (get_or H i e).path == k) ≡ (length e.path == k)
  there k = ap (λ (x : Entry). length x.path == k) (get_or_from_slice_get H i e e here)

  at_same : (k : ℕ) → length e.path ≡ k → (length e.path == k) ≡ true → nodes_at (take (i + 1) H) k ≡ nodes_at (take i H) k + 1
  at_same k q t = count_by_more_yes (λ (x : Entry). length x.path == k) H i e (slice_get_within H i e here) (there k ∙ t)

  at_other : (k : ℕ) → (length e.path == k) ≡ false → nodes_at (take (i + 1) H) k ≡ nodes_at (take i H) k
  at_other k t = count_by_more_no (λ (x : Entry). length x.path == k) H i e (slice_get_within H i e here) (there k ∙ t)

  pub so_far_more : (rows : List ℕ) → length e.path < 49 → RowsSoFar H i rows → RowsSoFar H (i + 1) (set rows (length e.path) (get_or rows (length e.path) 0 + 1))
  so_far_more rows short s = record { size = length-set rows (length e.path) (get_or rows (length e.path) 0 + 1) ∙ s.size; each = each }
    where
      each : (k : ℕ) → k < 49 → get_or (set rows (length e.path) (get_or rows (length e.path) 0 + 1)) k 0 ≡ nodes_at (take (i + 1) H) k
      each k l = elim (eqb_tells (length e.path) k) [
        | inl t ↦
            let within : k < length rows = omega (arith, s.size) in
            ap (λ (x : ℕ). get_or (set rows x (get_or rows x 0 + 1)) k 0) t.1 ∙ get_or-set_same rows k (get_or rows k 0 + 1) 0 within
            ∙ ap (λ (x : ℕ). x + 1) (s.each k l) ∙ sym (at_same k t.1 t.0)
        | inr t ↦
            let differs : k ≢ length e.path = λ q. t.1 (sym q) in
            get_or-set_other rows (length e.path) k (get_or rows (length e.path) 0 + 1) 0 differs ∙ s.each k l ∙ sym (at_other k t.0)
      ]

less_true : (a b : ℕ) → IsTrue (nat_lt a b) → a < b
less_true a b t = grind (arith, nat_tests)

true_less : (a b : ℕ) → a < b → IsTrue (nat_lt a b)
true_less a b l = grind (arith, nat_tests)

pub spends_is : (L : Budget) (H : History) (k nodes row cells : ℕ) → k < L.depth → nodes ≡ nodes_upto H k → row ≡ nodes_at H k → cells ≡ L.cells → IsTrue (nat_lt cells (nodes + 2 * row)) ↔ SpendsCells L H k
spends_is L H k nodes row cells above a b d = (
  λ t. record { above = above; spent = omega (arith, less_true cells (nodes + 2 * row) t, a, b, d) },
  λ s. true_less cells (nodes + 2 * row) (omega (arith, s.spent, a, b, d)),
)
