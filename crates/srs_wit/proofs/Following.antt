-- How all that one pair links to is added.
use Rattle.std.proofs.Common.{◌≡◌, ◌≢◌, inl, inr, ℕ, ◌+◌, ◌<◌, Bool, List, length, ℤ, pos, ◌-ℤ◌, ◌≤ℤ◌, ◌<ℤ◌, ◌+ℤ◌, neg_ℤ, unsigned_abs, arith, ap, subst, sym, ◌∙◌, get_or}
use Rattle.std.specs.Prelude.{Contains, AllPairs}
use Rattle.std.proofs.Math.Decide.{dec_lt}
use Rattle.std.proofs.lemmas.Int.{ints}
use Rattle.std.proofs.lemmas.List.FromFn.{length-map-range_with_len, get_or-map-range_with_len}
use Rattle.srs_num.specs.declared.pairs.V2.{V2}
use Rattle.srs_num.proofs.Linear.{linear}
use Rattle.srs_map.specs.Step.{pair, minus, IsNarrow}
use Rattle.srs_plane.specs.Regions.{Area}
use Rattle.srs_path.specs.Witnesses.{IsWitness, link}
use Rattle.srs_cell.specs.Moves.{LinksTo, AreMoves}
use Rattle.srs_cell.specs.declared.spans.Span.{Span}
use Rattle.srs_cell.specs.Spans.{IsCount, pair_from}
use Rattle.srs_wit.specs.Spans.{ArePairsNarrow, IsWideAmong, pairs_from}
use Rattle.srs_wit.specs.Listing.{AreTooMany, IsTooWide}
use Rattle.srs_wit.specs.Halves.{IsUpper, IsUpperOf, IsHeld}
use Rattle.srs_wit.specs.declared.runs.Run.{Run}
use Rattle.srs_wit.specs.Runs.{run_pair, IsRunOf, turned, AddsAll}
use Rattle.srs_wit.specs.Search.{AreFound, IsTooLong, Adds, Added, IsClosedAt}
use Rattle.srs_wit.proofs.Adding.{extends_none, extends_more, adds_keep, upper_narrow, upper_witness, upper_held}
use Rattle.srs_wit.proofs.Running.{from_run, to_run, turned_pair}

-- a link from w leads to a pair that begins with the second entry of w
first_entry : (R : Area) (w v : V2) → LinksTo R w v → pair w.b v.b ≡ v
first_entry R w v e = elim e.2 [
  | inl s ↦ ap (λ (x : ℤ). pair x v.b) (sym (ap (λ (u : V2). u.a) s))
  | inr s ↦ ap (λ (x : ℤ). pair x v.b) (turned v.a w.b (ap (λ (u : V2). u.a) s))
]
  where
    turned : (x y : ℤ) → x ≡ neg_ℤ (neg_ℤ y) → y ≡ x
    turned x y e = omega (arith, linear)

place_of : (low j : ℤ) → low ≤ℤ j → (k : ℕ) × (low +ℤ pos k ≡ j)
place_of low j h = (unsigned_abs (j -ℤ low), omega (arith, ints))

module _ (R : Area) (W : ℕ) (old : List V2) (was : Bool) (w : V2) (low : ℤ) (waited : List V2) where
  pub added_none : AreFound R W old was → Added R W old was w low 0 old was waited waited
  added_none f = record { extends = extends_none R old was waited f.half; few = omega (arith, f.few); done = λ j h. absurd (omega arith) }

  pub added_more : (k : ℕ) (now : List V2) (yet : Bool) (new : List V2) (met : Bool) (wait waiting : List V2) (v : V2)
      → Added R W old was w low k now yet waited wait → IsWitness R v → v ≡ pair_from w low k → Adds now yet v new met wait waiting
      → Added R W old was w low (k + 1) new met waited waiting
  added_more k now yet new met wait waiting v a h e s = record {
    extends = extends_more R old was now yet new met waited wait waiting v a.extends h s;
    few = omega (arith, a.few, s.few);
    done = λ j l. elim (dec_lt j k) as (λ _. IsHeld new met (pair_from w low j)) [
      | yes b ↦ adds_keep now yet v new met wait waiting s (pair_from w low j) (a.done j b)
      | no b ↦ let f : k ≡ j = omega arith in subst (IsHeld new met) (e ∙ ap (pair_from w low) f) s.here
    ];
  }

  pub all_added : (high : ℤ) (n : ℕ) (now : List V2) (met : Bool) (waiting : List V2) → AreMoves (LinksTo R) w low high → IsCount low high n
      → Added R W old was w low n now met waited waiting → IsClosedAt R now met w
  all_added high n now met waiting m c a v e =
      let f = first_entry R w v e in
      let t = m.all v.b (subst (LinksTo R w) (sym f) e) in
      let p = place_of low v.b t.0 in
      let there : pair_from w low p.0 ≡ v = ap (pair w.b) p.1 ∙ f in
      subst (IsHeld now met) there (a.done p.0 (before low high v.b p.0 n p.1 t.1 c.past))
    where
      before : (low high j : ℤ) (i n : ℕ) → low +ℤ pos i ≡ j → j ≤ℤ high → high <ℤ (low +ℤ pos n) → i < n
      before low high j i n e a b = omega (arith, ints)

-- the pairs of a witness are witnesses
module _ (R : Area) (w : V2) (low high : ℤ) (n : ℕ) (m : AreMoves (LinksTo R) w low high) (c : IsCount low high n) (h : IsWitness R w) where
  pub witness_at : (k : ℕ) → k < n → IsWitness R (pair_from w low k)
  witness_at k l =
      let e = m.each (low +ℤ pos k) (omega (arith, ints)) (c.within k l) in
      link e.0 e.1 e.2 h

  -- and a span that is longer than the bound shows too many
  pub span_shows_many : (W : ℕ) → W < n → AreTooMany R W (pairs_from w low (W + 1))
  span_shows_many W l = record {
    witnesses = record { different = different; each = each };
    many = length-map-range_with_len (pair_from w low) 0 (W + 1);
  }
    where
      long : length (pairs_from w low (W + 1)) ≡ W + 1
      long = length-map-range_with_len (pair_from w low) 0 (W + 1)

      entry : (i : ℕ) (d : V2) → i < W + 1 → get_or (pairs_from w low (W + 1)) i d ≡ pair_from w low i
      entry i d b = get_or-map-range_with_len (pair_from w low) 0 (W + 1) i i d b (omega arith)

      different : AllPairs ◌≢◌ (pairs_from w low (W + 1))
      different i j d b r e =
          let f = sym (entry i d (omega (arith, long))) ∙ e ∙ entry j d (omega (arith, long)) in
          apart low i j b (ap (λ (u : V2). u.b) f)
        where
          apart : (x : ℤ) (i j : ℕ) → i < j → x +ℤ pos i ≡ x +ℤ pos j → ⊥
          apart x i j b e = omega (arith, ints)

      each : (v : V2) → Contains (pairs_from w low (W + 1)) v → IsWitness R v
      each v (k, b, e) = subst (IsWitness R) (sym (entry k v (omega (arith, b, long))) ∙ e) (witness_at k (omega (arith, b, long)))

-- the pairs of a span without a wide end
pub pair_narrow : (w : V2) (low high : ℤ) (n : ℕ) → ArePairsNarrow w low high → IsCount low high n → (k : ℕ) → k < n → IsNarrow (pair_from w low k)
pair_narrow w low high n a c k l = a (low +ℤ pos k) (omega (arith, ints)) (c.within k l)

pub long_shows_many : (R : Area) (W : ℕ) (w : V2) (span : Span) → IsTooLong R W w span → AreTooMany R W (pairs_from w span.low (W + 1))
long_shows_many R W w span l = span_shows_many R w span.low span.high l.count l.moves l.counted l.witness W l.long

-- a wide pair of a witness is a witness
pub wide_shown : (R : Area) (w : V2) (low high : ℤ) (v : V2) → AreMoves (LinksTo R) w low high → IsWitness R w → IsWideAmong w low high v → IsTooWide R v
wide_shown R w low high v m h a =
    let e = m.each a.last a.above a.below in
    record { witness = subst (IsWitness R) (sym a.is) (link e.0 e.1 e.2 h); wide = a.wide }

-- a run that has the pairs of w, or those on the other side
pub record IsRunWith (w : V2) (low : ℤ) (n : ℕ) (f : ℕ → V2) : Type 0 where
  pub from : (k : ℕ) → k < n → (i : ℕ) × (i < n) × IsUpperOf (pair_from w low i) (f k)
  pub to : (i : ℕ) → i < n → (k : ℕ) × (k < n) × IsUpperOf (pair_from w low i) (f k)

upper_by : (a b : ℤ) → pos 0 <ℤ a → IsUpper (pair a b)
upper_by a b h = (omega (arith, ints), λ e. absurd (omega (arith, ints)))

module _ (w : V2) (low high : ℤ) (n : ℕ) (r : Run) (c : IsCount low high n) (is : IsRunOf w low high n r) where
  pub run_ahead : pos 0 <ℤ w.b → IsRunWith w low n (run_pair r)
  run_ahead h =
      let up : (k : ℕ) → IsUpper (run_pair r k) = λ k. upper_by r.a _ (subst (λ (x : ℤ). pos 0 <ℤ x) (sym is.a) h) in
      record {
        from = λ k l. let t = from_run w low high n r c is k l in (t.0, t.1, (up k, inl t.2));
        to = λ i l. let t = to_run w low high n r c is i l in (t.0, t.1, (up t.0, inl t.2));
      }

  pub run_behind : w.b <ℤ pos 0 → IsRunWith w low n (run_pair (turned r))
  run_behind h =
      let up : (k : ℕ) → IsUpper (run_pair (turned r) k) = λ k. upper_by (pos 0 -ℤ r.a) _ (above r.a w.b is.a h) in
      record {
        from = λ k l. let t = from_run w low high n r c is k l in (t.0, t.1, (up k, inr (turned_pair r k ∙ ap minus t.2)));
        to = λ i l. let t = to_run w low high n r c is i l in (t.0, t.1, (up t.0, inr (turned_pair r t.0 ∙ ap minus t.2)));
      }
    where
      above : (a b : ℤ) → a ≡ b → b <ℤ pos 0 → pos 0 <ℤ (pos 0 -ℤ a)
      above a b e h = omega (arith, ints)

  pub run_narrow : (f : ℕ → V2) → IsRunWith w low n f → ArePairsNarrow w low high → (k : ℕ) → k < n → IsNarrow (f k)
  run_narrow f runs narrow k l =
      let t = runs.from k l in upper_narrow (pair_from w low t.0) (f k) t.2 (pair_narrow w low high n narrow c t.0 t.1)

-- what adding such a run makes of those found
module _ (R : Area) (W : ℕ) (old : List V2) (was : Bool) (w : V2) (low high : ℤ) (n : ℕ) (h : IsWitness R w) (found : AreFound R W old was) (m : AreMoves (LinksTo R) w low high) (c : IsCount low high n) (narrow : ArePairsNarrow w low high) (f : ℕ → V2) (runs : IsRunWith w low n f) where
  pub run_added : (new waited waiting : List V2) → AddsAll old f n new waited waiting → Added R W old was w low n new was waited waiting
  run_added new waited waiting a = record {
    extends = record {
      more = a.more;
      is = a.is;
      waits = a.waits;
      stays = λ t. t;
      half = record {
        upper = λ v y. elim (a.others v y) [
          | inl x ↦ found.half.upper v x
          | inr x ↦ subst IsUpper (sym x.2) (runs.from x.0 x.1).2.0
        ];
        different = a.different found.half.different;
        each = λ v y. elim (a.others v y) [
          | inl x ↦ found.half.each v x
          | inr x ↦ let t = runs.from x.0 x.1 in
              subst (IsWitness R) (sym x.2) (upper_witness R (pair_from w low t.0) (f x.0) t.2 (witness_at R w low high n m c h t.0 t.1))
        ];
        narrow = λ v y. elim (a.others v y) [
          | inl x ↦ found.half.narrow v x
          | inr x ↦ let t = runs.from x.0 x.1 in
              subst IsNarrow (sym x.2) (upper_narrow (pair_from w low t.0) (f x.0) t.2 (pair_narrow w low high n narrow c t.0 t.1))
        ];
        center = found.half.center;
      };
    };
    few = omega (arith, a.few, found.few);
    done = λ i l. let t = runs.to i l in upper_held new was (pair_from w low i) (f t.0) t.2 (a.here t.0 t.1);
  }
