-- What the walks along the links of a listed pair show.
use Rattle.std.proofs.Common.{◌≡◌, ◌≢◌, inl, inr, ℕ, ◌+◌, ◌<◌, ◌≤◌, length, get_or, slice_get, Some, ℤ, pos, negsuc, refl, sym, ap, subst, ◌∙◌, arith}
use Rattle.std.specs.Prelude.{Contains}
use Rattle.std.proofs.Math.Decide.{dec_lt}
use Rattle.std.proofs.lemmas.Int.{ints}
use Rattle.std.proofs.lemmas.Option.{same_Some, slice_get_within, slice_get-get_or}
use Rattle.std.proofs.lemmas.List.Elements.{All-contains}
use Rattle.srs_num.specs.declared.pairs.V2.{V2}
use Rattle.srs_map.specs.Step.{pair, origin, IsNarrow}
use Rattle.srs_map.specs.Links.{IsUnit, right, left, up, down}
use Rattle.srs_plane.specs.Regions.{Area}
use Rattle.srs_cell.specs.Moves.{LeadsTo, LeadsBackTo, AreMoves}
use Rattle.srs_path.specs.Core.{Precedes}
use Rattle.srs_path.specs.Lists.{IsRankList}
use Rattle.srs_check.specs.Listed.{RankList, IsListed, IsBelow, IsClosedAt, ListsUnits, ProvesInside, IsFirstUnit, IsFaultAt, IsInsideFault, IsNextAhead, IsFirstMissing}
use Rattle.srs_cell.specs.Spans.{IsCount, pair_from}
use Rattle.srs_check.specs.declared.faults.Fault.{Fault}
use Rattle.srs_check.specs.declared.faults.Fault.TheVariants.{NotClosed, NoFall}
use Rattle.srs_check.proofs.PlaceLemmas.{one_rank, by_place, from_place}
use Rattle.srs_check.proofs.Spans.{Walked, walked_before, leads_here, ahead_begins, back_begins}

-- a listed pair whose rank is lower, or need not be
pub is_below : (entries : RankList) → IsRankList entries → (e : V2 × ℕ) (v : V2) (n : ℕ) → Contains entries (v, n) → (e.0 ≢ origin → n < e.1) → IsBelow entries e v
is_below entries list e v n c lower = record {
  listed = (n, c);
  falls = λ z m d. subst (λ (x : ℕ). x < e.1) (one_rank entries list v n m c d) (lower z);
}

-- the pairs of a list are narrow
pub narrow_at : (entries : RankList) → IsRankList entries → (i : ℕ) (e : V2 × ℕ) → slice_get entries i ≡ Some e → IsNarrow e.0
narrow_at entries list i e at = (All-contains (λ (x : V2 × ℕ). IsNarrow x.0 × (x.1 ≤ 16384)) entries e list.each (from_place entries i e at)).0

-- the pair that was reached after k good ones
there : (w v : V2) (low : ℤ) (k : ℕ) → v ≡ pair_from w low k → pair w.b v.b ≡ v
there w v low k is = ap (λ (x : V2). pair w.b x.b) is ∙ sym is

module _ (R : Area) (entries : RankList) (w : V2) (rank : ℕ) (low high : ℤ) (n : ℕ) (moves : AreMoves (LeadsTo R) w low high) (count : IsCount low high n) (k place : ℕ) (s : Walked entries (IsBelow entries (w, rank)) w low k place) (l : k < n) (v : V2) (is : v ≡ pair_from w low k) where
  next : IsNextAhead R entries (w, rank) v.b
  next = subst (IsNextAhead R entries (w, rank)) (sym (ap (λ (x : V2). x.b) is)) (record {
    leads = leads_here entries (LeadsTo R) (IsBelow entries (w, rank)) w low high n (ahead_begins R w) moves count k place s l;
    before = λ i b e. walked_before entries (LeadsTo R) (IsBelow entries (w, rank)) w low high n (ahead_begins R w) moves count k place s i b e;
  })

  pub missing_ahead : (IsListed entries v → ⊥) → (fault : Fault) → fault ≡ NotClosed w v.b → IsFaultAt R entries (w, rank) fault
  missing_ahead m fault e = subst (IsFaultAt R entries (w, rank)) (sym e) (refl, inl (record { next = next; missing = λ h. m (subst (IsListed entries) (there w v low k is) h) }))

  pub no_fall : w ≢ origin → (m : ℕ) → Contains entries (v, m) → rank ≤ m → (fault : Fault) → fault ≡ NoFall w v.b → IsFaultAt R entries (w, rank) fault
  no_fall z m c higher fault e = subst (IsFaultAt R entries (w, rank)) (sym e) (
    refl,
    next,
    record {
      not_zero = z;
      rank = m;
      is = subst (λ (x : V2). Contains entries (x, m)) (sym (there w v low k is)) c;
      not_lower = higher;
    },
  )

module _ (R : Area) (entries : RankList) (w : V2) (low high : ℤ) (n : ℕ) (moves : AreMoves (LeadsBackTo R) w low high) (count : IsCount low high n) (k place : ℕ) (s : Walked entries (IsListed entries) w low k place) (l : k < n) (v : V2) (is : v ≡ pair_from w low k) where
  pub missing_back : (IsListed entries v → ⊥) → (fault : Fault) → fault ≡ NotClosed w v.b → (j : ℤ) × (fault ≡ NotClosed w j) × IsFirstMissing R entries w j
  missing_back m fault e = (
    v.b,
    e,
    subst (IsFirstMissing R entries w) (sym (ap (λ (x : V2). x.b) is)) (record {
      leads = leads_here entries (LeadsBackTo R) (IsListed entries) w low high n (back_begins R w) moves count k place s l;
      missing = λ h. m (subst (IsListed entries) (sym is) h);
      before = λ i b f. walked_before entries (LeadsBackTo R) (IsListed entries) w low high n (back_begins R w) moves count k place s i b f;
    }),
  )

-- the first fault of the mirrored steps, where the steps lead below
pub fault_back : (R : Area) (entries : RankList) (e : V2 × ℕ) → ((v : V2) → LeadsTo R e.0 v → IsBelow entries e v) → (fault : Fault) → (j : ℤ) × (fault ≡ NotClosed e.0 j) × IsFirstMissing R entries e.0 j → IsFaultAt R entries e fault
fault_back R entries e ahead fault (j, is, first) = subst (IsFaultAt R entries e) (sym is) (refl, inr (record { ahead = ahead; first = first }))

-- what is found of the entry at a place
pub at_entry : (entries : RankList) (P : V2 × ℕ → Type 0) (i : ℕ) (f : V2 × ℕ) → slice_get entries i ≡ Some f → P f → (e : V2 × ℕ) → slice_get entries i ≡ Some e → P e
at_entry entries P i f at p e bt = subst P (same_Some f e (sym at ∙ bt)) p

-- the first i entries are closed
abbrev pub ClosedBefore : Area → RankList → ℕ → Type 0
ClosedBefore R entries i = (k : ℕ) (e : V2 × ℕ) → k < i → slice_get entries k ≡ Some e → IsClosedAt R entries e

pub closed_more : (R : Area) (entries : RankList) (i : ℕ) → ClosedBefore R entries i → ((e : V2 × ℕ) → slice_get entries i ≡ Some e → IsClosedAt R entries e) → ClosedBefore R entries (i + 1)
closed_more R entries i closed here k e l at = elim (dec_lt k i) as (λ _. IsClosedAt R entries e) [
  | yes b ↦ closed k e b at
  | no b ↦ let q : k ≡ i = omega arith in here e (ap (slice_get entries) (sym q) ∙ at)
]

-- the fault of the entry at the place i, where the entries before are closed
pub first_open : (R : Area) (entries : RankList) (i : ℕ) (fault : Fault) → i < length entries → ListsUnits entries → ClosedBefore R entries i → ((e : V2 × ℕ) → slice_get entries i ≡ Some e → IsFaultAt R entries e fault) → IsInsideFault R entries fault
first_open R entries i fault l units closed here =
    let d : V2 × ℕ = (origin, 0) in
    let e : V2 × ℕ = get_or entries i d in
    let is : slice_get entries i ≡ Some e = slice_get-get_or entries i d l in
    inr (record { units = units; place = i; entry = e; is = is; wrong = here e is; before = closed })

pub all_closed : (R : Area) (entries : RankList) (i : ℕ) → length entries ≤ i → ListsUnits entries → ClosedBefore R entries i → ProvesInside R entries
all_closed R entries i l units closed = record {
  units = units;
  closed = λ e c. let t = by_place entries e c in closed t.place e (omega (arith, slice_get_within entries t.place e t.is, l)) t.is;
}

module _ (entries : RankList) where
  abbrev one_left : V2
  one_left = pair (negsuc 0) (pos 0)

  abbrev one_down : V2
  one_down = pair (pos 0) (negsuc 0)

  abbrev one_up : V2
  one_up = pair (pos 0) (pos 1)

  abbrev one_right : V2
  one_right = pair (pos 1) (pos 0)

  pub first_left : (IsListed entries one_left → ⊥) → IsFirstUnit entries one_left
  first_left m = record { is_unit = left; missing = m; before = before }
    where
      before : (u : V2) → IsUnit u → Precedes u one_left → IsListed entries u
      before _ right p = absurd (omega (arith, ints, p.0))
      before _ left p = absurd (omega (arith, ints, p.1 refl))
      before _ up p = absurd (omega (arith, ints, p.0))
      before _ down p = absurd (omega (arith, ints, p.0))

  pub first_down : IsListed entries one_left → (IsListed entries one_down → ⊥) → IsFirstUnit entries one_down
  first_down a m = record { is_unit = down; missing = m; before = before }
    where
      before : (u : V2) → IsUnit u → Precedes u one_down → IsListed entries u
      before _ right p = absurd (omega (arith, ints, p.0))
      before _ left p = a
      before _ up p = absurd (omega (arith, ints, p.1 refl))
      before _ down p = absurd (omega (arith, ints, p.1 refl))

  pub first_up : IsListed entries one_left → IsListed entries one_down → (IsListed entries one_up → ⊥) → IsFirstUnit entries one_up
  first_up a b m = record { is_unit = up; missing = m; before = before }
    where
      before : (u : V2) → IsUnit u → Precedes u one_up → IsListed entries u
      before _ right p = absurd (omega (arith, ints, p.0))
      before _ left p = a
      before _ up p = absurd (omega (arith, ints, p.1 refl))
      before _ down p = b

  pub first_right : IsListed entries one_left → IsListed entries one_down → IsListed entries one_up → (IsListed entries one_right → ⊥) → IsFirstUnit entries one_right
  first_right a b d m = record { is_unit = right; missing = m; before = before }
    where
      before : (u : V2) → IsUnit u → Precedes u one_right → IsListed entries u
      before _ right p = absurd (omega (arith, ints, p.1 refl))
      before _ left p = a
      before _ up p = d
      before _ down p = b

  pub all_units : IsListed entries one_left → IsListed entries one_down → IsListed entries one_up → IsListed entries one_right → ListsUnits entries
  all_units a b d f _ right = f
  all_units a b d f _ left = a
  all_units a b d f _ up = d
  all_units a b d f _ down = b
