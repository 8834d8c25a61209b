-- How the search goes on until all links lead to pairs that were found.
use Rattle.std.proofs.Common.{◌≡◌, ◌⊎◌, inl, inr, ℕ, ◌^◌, ◌<◌, ◌≤◌, Bool, false, List, [], ◌∷◌, ◌++◌, length, ℤ, pos, neg_ℤ, ◌+ℤ◌, ◌*ℤ◌, ◌≤ℤ◌, ◌<ℤ◌, arith, subst, sym, ap, ◌∙◌, lit≤}
use Rattle.std.specs.Prelude.{Contains}
use Rattle.std.specs.List.Sorted.{IsPermutation}
use Rattle.std.proofs.lemmas.List.Sorted.{Contains-permutation}
use Rattle.std.proofs.lemmas.List.Elements.{Contains-append_left, Contains-append_right, Contains-append_cases, Contains-push}
use Rattle.srs_num.specs.declared.pairs.V2.{V2}
use Rattle.srs_num.specs.Points.{Point, IsPoint}
use Rattle.srs_num.specs.Floor.{floor_quotient}
use Rattle.srs_num.proofs.Linear.{linear, mul_zero}
use Rattle.srs_num.proofs.Ring.{v as at, lit, ◌⊕◌, ◌⊗◌, ring}
use Rattle.srs_num.proofs.Floors.{floor_is, floor_unique}
use Rattle.srs_num.proofs.Ranges.{within_opposite}
use Rattle.srs_map.specs.Step.{pair, minus, origin, step_of, IsNarrow}
use Rattle.srs_map.specs.Links.{IsLink}
use Rattle.srs_plane.specs.Regions.{Area, IsIn}
use Rattle.srs_path.specs.Witnesses.{IsWitness, IsSmall}
use Rattle.srs_path.proofs.WitnessLemmas.{witness_induction, small_from_list}
use Rattle.srs_cell.specs.declared.spans.Span.{Span}
use Rattle.srs_wit.specs.Listing.{AreTooMany}
use Rattle.srs_wit.specs.Halves.{IsHeld, with_opposites, count_both}
use Rattle.srs_wit.specs.Search.{AreHalf, AreFound, IsTooLong, Extends, IsClosedAt, HasUnits, AreAll}
use Rattle.srs_wit.specs.PairSets.{Lists, all_of, IsNext}
use Rattle.srs_wit.proofs.Permuting.{was_found, found_permuted, held_permuted, moved_last}
use Rattle.srs_wit.proofs.Adding.{contains_one, held_longer, mirror_held}
use Rattle.srs_wit.proofs.BothSides.{held_listed, length-both, shows_many}
use Rattle.srs_wit.proofs.Following.{long_shows_many}
use Rattle.srs_wit.proofs.Mirrored.{minus_twice, link_mirrored}

-- each pair that was found waits, or all that it links to is held
pub record Closing (R : Area) (W : ℕ) (ks : List V2) (met : Bool) (waiting : List V2) : Type 0 where
  pub found : AreFound R W ks met
  pub units : HasUnits ks met
  pub among : (w : V2) → Contains waiting w → Contains ks w
  pub settled : (w : V2) → Contains ks w → Contains waiting w ⊎ IsClosedAt R ks met w

-- ---- (0, 0) links to itself alone
zero_step : (r : Point) → IsPoint r → step_of r origin ≡ origin
zero_step r h =
    let n = r.p *ℤ pos 0 +ℤ r.q *ℤ pos 0 in
    let e : n ≡ pos 0 = ring (r.p ∷ r.q ∷ []) (at 0 ⊗ lit (pos 0) ⊕ at 1 ⊗ lit (pos 0)) (lit (pos 0)) tt in
    ap (λ k. pair (pos 0) (neg_ℤ k)) (floor_unique n r.d (floor_quotient n r.d) (pos 0) h (floor_is n r.d h) (record {
      not_above = under _ _ (mul_zero r.d) e;
      greatest = over _ _ r.d (mul_zero r.d) e h;
    }))
  where
    under : (x n : ℤ) → x ≡ pos 0 → n ≡ pos 0 → x ≤ℤ n
    under x n e f = omega (arith, linear)

    over : (x n d : ℤ) → x ≡ pos 0 → n ≡ pos 0 → pos 1 ≤ℤ d → n <ℤ (x +ℤ d)
    over x n d e f h = omega (arith, linear)

origin_link : (r : Point) (v : V2) → IsPoint r → IsLink r origin v → v ≡ origin
origin_link r v h (inl e) = e ∙ zero_step r h
origin_link r v h (inr e) = e ∙ ap minus (zero_step r h)

module _ (R : Area) (W : ℕ) where
  pub closing_none : (ks : List V2) (met : Bool) (waiting : List V2) → Extends R [] false ks met [] waiting → count_both ks met ≤ W → HasUnits ks met → Closing R W ks met waiting
  closing_none ks met waiting x few u =
      let e : ks ≡ waiting = x.is ∙ sym x.waits in
      record {
        found = record { half = x.half; few = few };
        units = u;
        among = λ w c. subst (λ (l : List V2). Contains l w) (sym e) c;
        settled = λ w c. inl (subst (λ (l : List V2). Contains l w) e c);
      }

  -- the same with those found in another order
  pub closing_permuted : (ks js : List V2) (met : Bool) (waiting : List V2) → IsPermutation ks js → Closing R W ks met waiting → Closing R W js met waiting
  closing_permuted ks js met waiting p c = record {
    found = found_permuted ks js p R W met c.found;
    units = λ u k. held_permuted ks js p met u (c.units u k);
    among = λ w i. Contains-permutation ks js w p (c.among w i);
    settled = λ w i. elim (c.settled w (was_found ks js p w i)) [
      | inl y ↦ inl y
      | inr y ↦ inr (λ v l. held_permuted ks js p met v (y v l))
    ];
  }

  -- the pair that waits last was followed
  pub closing_moved : (old new : Lists) (met : Bool) (w : V2) → IsNext old w new → Closing R W (all_of old) met old.waiting → Closing R W (all_of new) met old.waiting
  closing_moved old new met w n c =
      let e : all_of old ≡ old.followed ++ (new.waiting ++ w ∷ []) = ap (λ (x : List V2). old.followed ++ x) n.waited in
      let f : (old.followed ++ w ∷ []) ++ new.waiting ≡ all_of new = ap (λ (x : List V2). x ++ new.waiting) (sym n.followed) in
      closing_permuted (all_of old) (all_of new) met old.waiting
      (subst (λ (x : List V2). IsPermutation x (all_of new)) (sym e) (subst (IsPermutation (old.followed ++ (new.waiting ++ w ∷ []))) f (moved_last old.followed new.waiting w))) c

  -- after the links of w, which waited last, were followed
  module _ (ks : List V2) (was : Bool) (new : List V2) (met : Bool) (waiting rest next : List V2) (w : V2) (e : waiting ≡ rest ++ w ∷ []) (x : Extends R ks was new met rest next) (few : count_both new met ≤ W) where
    keeps : (v : V2) → IsHeld ks was v → IsHeld new met v
    keeps v c = held_longer ks was new met x.more x.is x.stays v c

    stays : (v : V2) → Contains ks v → Contains new v
    stays v c = subst (λ (l : List V2). Contains l v) (sym x.is) (Contains-append_left ks x.more v c)

    waited : (v : V2) → Contains rest v → Contains waiting v
    waited v c = subst (λ (l : List V2). Contains l v) (sym e) (Contains-append_left rest (w ∷ []) v c)

    waits : (v : V2) → Contains rest v → Contains next v
    waits v c = subst (λ (l : List V2). Contains l v) (sym x.waits) (Contains-append_left rest x.more v c)

    pub closing_more : Closing R W ks was waiting → IsClosedAt R new met w → Closing R W new met next
    closing_more c z = record {
      found = record { half = x.half; few = few };
      units = λ u k. keeps u (c.units u k);
      among = λ v i. elim (Contains-append_cases rest x.more v (subst (λ (l : List V2). Contains l v) x.waits i)) [
        | inl y ↦ stays v (c.among v (waited v y))
        | inr y ↦ subst (λ (l : List V2). Contains l v) (sym x.is) (Contains-append_right ks x.more v y)
      ];
      settled = λ v i. elim (Contains-append_cases ks x.more v (subst (λ (l : List V2). Contains l v) x.is i)) [
        | inl y ↦ from_old v (c.settled v y)
        | inr y ↦ inl (subst (λ (l : List V2). Contains l v) (sym x.waits) (Contains-append_right rest x.more v y))
      ];
    }
      where
        from_waiting : (v : V2) → Contains rest v ⊎ Contains (w ∷ []) v → Contains next v ⊎ IsClosedAt R new met v
        from_waiting v (inl y) = inl (waits v y)
        from_waiting v (inr y) = inr (subst (IsClosedAt R new met) (sym (contains_one w v y)) z)

        from_old : (v : V2) → Contains waiting v ⊎ IsClosedAt R ks was v → Contains next v ⊎ IsClosedAt R new met v
        from_old v (inl y) = from_waiting v (Contains-append_cases rest (w ∷ []) v (subst (λ (l : List V2). Contains l v) e y))
        from_old v (inr y) = inr (λ u t. keeps u (y u t))

  -- the pair that waits last was found
  pub last_found : (ks : List V2) (met : Bool) (waiting rest : List V2) (w : V2) → Closing R W ks met waiting → waiting ≡ rest ++ w ∷ [] → Contains ks w
  last_found ks met waiting rest w c e = c.among w (subst (λ (l : List V2). Contains l w) (sym e) (Contains-push rest w))

  pub all_closed : (ks : List V2) (met : Bool) (waiting : List V2) → Closing R W ks met waiting → length waiting ≡ 0 → AreAll R W ks met
  all_closed ks met waiting c e = record {
    found = c.found;
    units = c.units;
    closed = λ w k. elim (c.settled w k) [
      | inl y ↦ absurd (omega (arith, e, y.1))
      | inr y ↦ y
    ];
  }

  -- what is held holds both links of each of its pairs
  module _ (ks : List V2) (met : Bool) (a : AreAll R W ks met) where
    held_on : (w v : V2) (r : Point) → IsIn R r → IsLink r w v → IsHeld ks met w → IsHeld ks met v
    held_on w v r i l (inl c) = a.closed w c v (r, i, l)
    held_on w v r i l (inr (inl c)) =
        subst (IsHeld ks met) (minus_twice v) (mirror_held ks met (minus v) (a.closed (minus w) c (minus v) (r, i, link_mirrored r w v l)))
    held_on w v r i l (inr (inr c)) = inr (inr (origin_link r v i.is_point (subst (λ (x : V2). IsLink r x v) c.0 l), c.1))

    pub all_held : (w : V2) → IsWitness R w → IsHeld ks met w
    all_held w h = witness_induction R (IsHeld ks met) a.units held_on h

    pub small_from_all : IsSmall R W
    small_from_all = small_from_list R W (with_opposites ks met) (λ w h. held_listed ks met w (all_held w h))
        (subst (λ n. n ≤ W) (sym (length-both ks met)) a.found.few) (λ w h. held_narrow w (all_held w h))
      where
        held_narrow : (w : V2) → IsHeld ks met w → IsNarrow w
        held_narrow w (inl c) = a.found.half.narrow w c
        held_narrow w (inr (inl c)) = subst IsNarrow (minus_twice w) (let n = a.found.half.narrow (minus w) c in (within_opposite _ (2 ^ 37) n.0, within_opposite _ (2 ^ 37) n.1))
        held_narrow w (inr (inr c)) = subst IsNarrow (sym c.0) (lit≤ tt, lit≤ tt)

-- too many witnesses are more than a small region has
pub many_not_small : (R : Area) (W : ℕ) (ws : List V2) → AreTooMany R W ws → IsSmall R W → ⊥
many_not_small R W ws m s = let few = s.few ws m.witnesses in omega (arith, few, m.many)

pub over_not_small : (R : Area) (W : ℕ) (ks : List V2) (met : Bool) → AreHalf R ks met → W < count_both ks met → IsSmall R W → ⊥
over_not_small R W ks met h l s = many_not_small R W _ (shows_many R ks met h W l) s

pub long_not_small : (R : Area) (W : ℕ) (w : V2) (span : Span) → IsTooLong R W w span → IsSmall R W → ⊥
long_not_small R W w span l s = many_not_small R W _ (long_shows_many R W w span l) s
