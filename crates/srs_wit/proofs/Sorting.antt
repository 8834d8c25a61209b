-- A sorted list of different pairs is strictly ascending.
use Rattle.std.proofs.Common.{◌≡◌, ◌≢◌, ℕ, ◌+◌, List, get_or, Bool, arith, ap₂, subst, sym, false, true≢false, Ordering}
use Rattle.std.specs.Prelude.{AllPairs}
use Rattle.std.specs.List.Sorted.{IsSorted, IsPermutation}
use Rattle.std.specs.Ordering.{int_cmp, ordering_then, is_lt}
use Rattle.std.specs.Cmp.{int_cmp_is}
use Rattle.std.specs.declared.cmp.Ordering.TheVariants.{Less, Equal}
use Rattle.std.proofs.lemmas.Int.{ints, by_lt_z}
use Rattle.srs_num.specs.declared.pairs.V2.{V2}
use Rattle.srs_map.specs.Step.{pair}
use Rattle.srs_plane.specs.Regions.{Area}
use Rattle.srs_path.specs.Core.{Precedes}
use Rattle.srs_path.proofs.Order.{ascends_from_adjacent}
use Rattle.srs_wit.specs.Listing.{AreAllWitnesses}
use Rattle.srs_wit.specs.Halves.{with_opposites}
use Rattle.srs_wit.specs.Search.{AreHalf, AreAll}
use Rattle.srs_wit.proofs.BothSides.{mirror_order, pairs_both, held_witness, held_listed, listed_held}
use Rattle.srs_wit.proofs.Closing.{all_held}
use Rattle.srs_wit.proofs.Permuting.{different_permuted, half_permuted, held_permuted}

-- the order that is derived for pairs
abbrev pub pair_cmp : V2 → V2 → Ordering
pair_cmp v w = ordering_then (int_cmp v.a w.a) (int_cmp v.b w.b)

sorted_step : (v w : V2) → is_lt (pair_cmp w v) ≡ false → v ≢ w → Precedes v w
sorted_step v w h d = by_lt_z w.a v.a
    (λ l. let e = int_cmp_is w.a v.a Less l in
    absurd (true≢false (subst (λ (o : Ordering). is_lt (ordering_then o (int_cmp w.b v.b)) ≡ false) (sym e) h)))
    (λ g. (
      g,
      λ s. by_lt_z w.b v.b
          (λ l. let e = int_cmp_is w.a v.a Equal (sym s) in
          let f = int_cmp_is w.b v.b Less l in
          let h2 : is_lt (ordering_then Equal (int_cmp w.b v.b)) ≡ false = subst (λ (o : Ordering). is_lt (ordering_then o (int_cmp w.b v.b)) ≡ false) (sym e) h in
          absurd (true≢false (subst (λ (o : Ordering). is_lt o ≡ false) (sym f) h2)))
          (λ k. by_lt_z v.b w.b (λ l. l) (λ m. let t : v.b ≡ w.b = omega (arith, ints) in absurd (d (ap₂ pair s t)))),
    ))

module _ (R : Area) (W : ℕ) (old new : List V2) (met : Bool) (a : AreAll R W old met) (p : IsPermutation old new) (s : IsSorted pair_cmp new) where
  different : AllPairs ◌≢◌ new
  different = different_permuted old new p a.found.half.different

  sorted_ascends : AllPairs Precedes new
  sorted_ascends =
      ascends_from_adjacent new (λ k x l. sorted_step (get_or new k x) (get_or new (k + 1) x) (s k x (omega arith) l) (different k (k + 1) x (omega arith) l))

  sorted_half : AreHalf R new met
  sorted_half = half_permuted old new p R met a.found.half

  -- the sorted half and its mirror image are all witnesses, ascending
  pub sorted_witnesses : AreAllWitnesses R (with_opposites new met)
  sorted_witnesses = record {
    ascending = pairs_both Precedes mirror_order new met (λ x y h. h) sorted_half.upper sorted_ascends;
    each = λ w c. held_witness R new met sorted_half w (listed_held new met w c);
    all = λ w h. held_listed new met w (held_permuted old new p met w (all_held R W old met a w h));
  }
