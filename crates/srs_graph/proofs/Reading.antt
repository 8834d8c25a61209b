-- How the marks of a row are read.
use Rattle.std.proofs.Common.{◌≡◌, ◌≢◌, ℕ, ◌+◌, ◌<◌, ◌≤◌, List, length, Option, Some, arith, subst, ◌∙◌, refl}
use Rattle.std.proofs.Math.Decide.{dec_lt}
use Rattle.srs_num.specs.declared.pairs.V2.{V2}
use Rattle.srs_map.specs.Step.{origin}
use Rattle.srs_graph.specs.declared.rows.Row.{Row}
use Rattle.srs_graph.specs.Networks.{pair_at, row_at, AreRows}
use Rattle.srs_graph.specs.Marks.{mark_at, Ranked}
use Rattle.srs_graph.specs.Descents.{IsRead}

module _ (r : Row) (ms : List (Option ℕ)) where
  pub read_none : IsRead r ms r.start 0
  read_none = record { each = λ j a b. absurd (omega arith); best = λ h. absurd (omega arith); none = λ _. refl; from = omega arith; within = omega arith }

  pub read_more : (k top m new : ℕ) → IsRead r ms k top → k < r.start + r.len → mark_at ms k ≡ Some m → (top ≤ m → new ≡ m + 1) → (m < top → new ≡ top) → IsRead r ms (k + 1) new
  read_more k top m new s i e high low = elim (dec_lt m top) as (λ _. IsRead r ms (k + 1) new) [
    | yes h ↦ let t : new ≡ top = low h in record {
      each = λ j a b. elim (dec_lt j k) as (λ _. (n : ℕ) × (mark_at ms j ≡ Some n) × (n < new)) [
        | yes l ↦ let x = s.each j a l in (x.0, x.1, omega (arith, x.2))
        | no l ↦ let f : k ≡ j = omega arith in (m, subst (λ (x : ℕ). mark_at ms x ≡ Some m) f e, omega arith)
      ];
      best = λ b. elim (dec_lt r.start k) as (λ _. (j : ℕ) × (n : ℕ) × (r.start ≤ j) × (j < k + 1) × (mark_at ms j ≡ Some n) × (new ≡ n + 1)) [
        | yes l ↦ let x = s.best l in (x.0, x.1, x.2, omega (arith, x.3), x.4, t ∙ x.5)
        | no l ↦ absurd (omega (arith, s.none (omega arith)))
      ];
      none = λ l. absurd (omega (arith, s.from));
      from = omega (arith, s.from);
      within = omega arith;
    }
    | no h ↦ let t : new ≡ m + 1 = high (omega arith) in record {
      each = λ j a b. elim (dec_lt j k) as (λ _. (n : ℕ) × (mark_at ms j ≡ Some n) × (n < new)) [
        | yes l ↦ let x = s.each j a l in (x.0, x.1, omega (arith, x.2))
        | no l ↦ let f : k ≡ j = omega arith in (m, subst (λ (x : ℕ). mark_at ms x ≡ Some m) f e, omega arith)
      ];
      best = λ b. (k, m, s.from, omega arith, e, t);
      none = λ l. absurd (omega (arith, s.from));
      from = omega (arith, s.from);
      within = omega arith;
    }
  ]

pub ranked_end : (ps : List V2) (rows : List Row) (ms : List (Option ℕ)) (i k top : ℕ) → AreRows (length ps) rows → i < length ps → pair_at ps i ≢ origin → k ≡ (row_at rows i).start + (row_at rows i).len → IsRead (row_at rows i) ms k top → Ranked ps rows ms i top
ranked_end ps rows ms i k top a h z e s = record {
  at_zero = λ o. absurd (z o);
  falls = λ _ j r. s.each j r.0 (omega (arith, r.1, e));
  step = λ _. let x = s.best (omega (arith, a.some i h, e)) in (x.0, x.1, (x.2, omega (arith, x.3, e)), x.4, x.5);
}

pub ranked_zero : (ps : List V2) (rows : List Row) (ms : List (Option ℕ)) (i : ℕ) → pair_at ps i ≡ origin → Ranked ps rows ms i 0
ranked_zero ps rows ms i e = record { at_zero = λ _. refl; falls = λ n. absurd (n e); step = λ n. absurd (n e) }
