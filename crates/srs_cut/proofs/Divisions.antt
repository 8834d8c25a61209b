-- The first form of a cutout that divides a region.
use Rattle.std.proofs.Common.{◌≡◌, ⊎_elim, ℕ, ◌+◌, ◌<◌, ◌≤◌, ℤ, pos, ◌≤ℤ◌, ◌<ℤ◌, List, length, IsTrue, false, sym, ap, ◌∙◌, subst, arith}
use Rattle.std.proofs.Math.Nat.{eq-or-lt_of_le}
use Rattle.std.proofs.lemmas.Bool.{false≢true}
use Rattle.std.specs.Prelude.{slice_get, Some}
use Rattle.srs_num.specs.Points.{LinearForm}
use Rattle.srs_num.proofs.Linear.{linear}
use Rattle.srs_plane.specs.Regions.{Area, Divides}
use Rattle.srs_path.specs.Cutout.{lower_form, upper_form, cutout_of, IsFirstDividing}
use Rattle.srs_cut.specs.Judgement.{HoldsThrough, IsUndivided}
use Rattle.srs_cut.proofs.Twos.{twos_lower, twos_upper, twos_each}

-- where the cycle holds at each point, neither form divides
pub holds_undivided : (R : Area) (c : List ℤ) (i : ℕ) → HoldsThrough R c i → IsUndivided R c i
holds_undivided R c i h = (
  λ d. clash _ d.below.2 (h d.below.0 d.below.1).0,
  λ d. clash _ (h d.not_below.0 d.not_below.1).1 d.not_below.2,
)
  where
    clash : (a : ℤ) → a <ℤ pos 0 → pos 0 ≤ℤ a → ⊥
    clash a h k = omega (arith, linear)

-- no form of a place before i divides
abbrev pub AreUndivided : Area → List ℤ → ℕ → Type 0
AreUndivided R c i = (j : ℕ) → j < i → IsUndivided R c j

-- the form at the place k of the cutout doesn't divide, where no form of a place before i does and k is before them
pub undivided_at : (R : Area) (c : List ℤ) (i k : ℕ) (g : LinearForm) → AreUndivided R c i → k < i + i → slice_get (cutout_of c) k ≡ Some g → Divides R g → ⊥
undivided_at R c i k g none lt e d =
    let r = twos_each (lower_form c) (upper_form c) 0 (length c) k g e in
    ⊎_elim
    (λ w. (none r.0 (omega (arith, w.0))).0 (subst (Divides R) (w.1 ∙ ap (lower_form c) (from_zero r.0)) d))
    (λ w. (none r.0 (omega (arith, w.0))).1 (subst (Divides R) (w.1 ∙ ap (upper_form c) (from_zero r.0)) d)) r.2
  where
    from_zero : (i : ℕ) → 0 + i ≡ i
    from_zero i = omega arith

pub none_divides : (R : Area) (c : List ℤ) (i : ℕ) → length c ≡ i → AreUndivided R c i → (k : ℕ) (g : LinearForm) → slice_get (cutout_of c) k ≡ Some g → Divides R g → ⊥
none_divides R c i l none k g e =
    let r = twos_each (lower_form c) (upper_form c) 0 (length c) k g e in
    undivided_at R c i k g none (⊎_elim (λ w. omega (arith, r.1, w.0)) (λ w. omega (arith, r.1, w.0)) r.2) e

pub first_lower : (R : Area) (c : List ℤ) (i : ℕ) (h : LinearForm) → i < length c → AreUndivided R c i → h ≡ lower_form c i → Divides R h → IsFirstDividing R (cutout_of c) h
first_lower R c i h lt none e d = record {
  place = i + i;
  is = twos_lower (lower_form c) (upper_form c) 0 (length c) i i lt (omega arith) ∙ ap Some (sym e);
  divides = d;
  none_before = λ k g l e d. undivided_at R c i k g none l e d;
}

pub first_upper : (R : Area) (c : List ℤ) (i : ℕ) (h : LinearForm) → i < length c → AreUndivided R c i → h ≡ upper_form c i → (Divides R (lower_form c i) → ⊥) → Divides R h → IsFirstDividing R (cutout_of c) h
first_upper R c i h lt none e off d = record {
  place = i + i + 1;
  is = twos_upper (lower_form c) (upper_form c) 0 (length c) i i lt (omega arith) ∙ ap Some (sym e);
  divides = d;
  none_before = λ k g l e d.
      let r = twos_each (lower_form c) (upper_form c) 0 (length c) k g e in
      ⊎_elim
      (λ w. by_place r.0 i (omega (arith, w.0)) (λ l. (none r.0 l).0 (subst (Divides R) (w.1 ∙ ap (lower_form c) (from_zero r.0)) d))
      (λ s. off (subst (Divides R) (w.1 ∙ ap (lower_form c) (from_zero r.0 ∙ s)) d)))
      (λ w. (none r.0 (omega (arith, w.0))).1 (subst (Divides R) (w.1 ∙ ap (upper_form c) (from_zero r.0)) d)) r.2;
}
  where
    from_zero : (i : ℕ) → 0 + i ≡ i
    from_zero i = omega arith

    by_place : {P : Type 0} (j i : ℕ) → j ≤ i → (j < i → P) → (j ≡ i → P) → P
    by_place j i l f g = ⊎_elim g f (eq-or-lt_of_le l)

-- a test that failed, said of an equal form
pub not_divided : (R : Area) (f g : LinearForm) → f ≡ g → (Divides R f → IsTrue false) → Divides R g → ⊥
not_divided R f g e test d = false≢true (test (subst (Divides R) (sym e) d))
