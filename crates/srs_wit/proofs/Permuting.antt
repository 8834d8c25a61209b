-- What was found, in another order.
use Rattle.std.proofs.Common.{◌≡◌, ◌≢◌, inl, inr, ℕ, List, [], ◌∷◌, ◌++◌, Bool, true, false, true≢false, arith, sym, refl}
use Rattle.std.specs.Prelude.{AllPairs, Contains}
use Rattle.std.specs.List.Sorted.{IsPermutation}
use Rattle.std.proofs.lemmas.List.Sorted.{Contains-permutation, IsPermutation-sym, IsPermutation-refl, IsPermutation-pop_more, IsPermutation-append_comm, length_permutation}
use Rattle.std.proofs.lemmas.Map.Made.{AllPairs-from_IsDistinct, IsDistinct-from_AllPairs}
use Rattle.std.proofs.lemmas.Map.Keys.{IsDistinct-IsPermutation}
use Rattle.srs_num.specs.declared.pairs.V2.{V2}
use Rattle.srs_map.specs.Step.{minus}
use Rattle.srs_plane.specs.Regions.{Area}
use Rattle.srs_path.specs.Core.{pair_eq}
use Rattle.srs_path.proofs.WitnessLemmas.{pair-decides}
use Rattle.srs_wit.specs.Halves.{AreNarrow, IsHeld}
use Rattle.srs_wit.specs.Search.{AreHalf, AreFound}

same_answer : (b c : Bool) → (b ≡ true → c ≡ true) → (c ≡ true → b ≡ true) → b ≡ c
same_answer true c f g = sym (f refl)
same_answer false true f g = absurd (true≢false (sym (g refl)))
same_answer false false f g = refl

flips : (v w : V2) → pair_eq v w ≡ pair_eq w v
flips v w = same_answer (pair_eq v w) (pair_eq w v)
    (λ e. (pair-decides w v).1 (sym ((pair-decides v w).0 e)))
    (λ e. (pair-decides v w).1 (sym ((pair-decides w v).0 e)))

module _ (old new : List V2) (p : IsPermutation old new) where
  pub different_permuted : AllPairs ◌≢◌ old → AllPairs ◌≢◌ new
  different_permuted h =
      AllPairs-from_IsDistinct pair-decides new
      (IsDistinct-IsPermutation pair_eq flips old new p (IsDistinct-from_AllPairs pair-decides old h))

  pub was_found : (w : V2) → Contains new w → Contains old w
  was_found w c = Contains-permutation new old w (IsPermutation-sym old new p) c

  pub narrow_permuted : AreNarrow old → AreNarrow new
  narrow_permuted n w c = n w (was_found w c)

  pub half_permuted : (R : Area) (met : Bool) → AreHalf R old met → AreHalf R new met
  half_permuted R met h = record {
    upper = λ w c. h.upper w (was_found w c);
    different = different_permuted h.different;
    each = λ w c. h.each w (was_found w c);
    narrow = λ w c. h.narrow w (was_found w c);
    center = h.center;
  }

  pub found_permuted : (R : Area) (W : ℕ) (met : Bool) → AreFound R W old met → AreFound R W new met
  found_permuted R W met f = record {
    half = half_permuted R met f.half;
    few = omega (arith, f.few, length_permutation old new p);
  }

  pub held_permuted : (met : Bool) (w : V2) → IsHeld old met w → IsHeld new met w
  held_permuted met w (inl c) = inl (Contains-permutation old new w p c)
  held_permuted met w (inr (inl c)) = inr (inl (Contains-permutation old new (minus w) p c))
  held_permuted met w (inr (inr c)) = inr (inr c)

-- the pair that waited last goes to the end of those that were followed
pub moved_last : (followed rest : List V2) (w : V2) → IsPermutation (followed ++ (rest ++ w ∷ [])) ((followed ++ w ∷ []) ++ rest)
moved_last followed rest w =
    IsPermutation-pop_more (followed ++ (rest ++ w ∷ [])) followed (rest ++ w ∷ []) rest w (IsPermutation-refl (followed ++ (rest ++ w ∷ [])))
    (IsPermutation-append_comm rest (w ∷ []))
