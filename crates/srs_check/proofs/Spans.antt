-- The walk along the pairs to which one pair leads.
use Rattle.std.proofs.Common.{◌≡◌, ℕ, ◌+◌, ◌<◌, ◌≤◌, ℤ, pos, ◌+ℤ◌, ◌-ℤ◌, ◌≤ℤ◌, ◌<ℤ◌, neg_ℤ, unsigned_abs, sym, ap, subst, ◌∙◌, arith}
use Rattle.std.proofs.Math.Decide.{dec_lt}
use Rattle.std.proofs.lemmas.Int.{ints}
use Rattle.srs_num.specs.declared.pairs.V2.{V2}
use Rattle.srs_num.proofs.Linear.{linear}
use Rattle.srs_map.specs.Step.{pair}
use Rattle.srs_plane.specs.Regions.{Area}
use Rattle.srs_cell.specs.Moves.{LeadsTo, LeadsBackTo, AreMoves}
use Rattle.srs_check.specs.Listed.{RankList}
use Rattle.srs_cell.specs.Spans.{IsCount, pair_from}
use Rattle.srs_check.specs.Places.{IsPlaceFor}

-- the first k pairs of the span are good, and the next one has this place
pub record Walked (entries : RankList) (Good : V2 → Type 0) (w : V2) (low : ℤ) (k place : ℕ) : Type 0 where
  pub there : IsPlaceFor entries (pair_from w low k) place
  pub good : (i : ℕ) → i < k → Good (pair_from w low i)

pub walk_starts : (entries : RankList) (Good : V2 → Type 0) (w : V2) (low : ℤ) (place : ℕ) → IsPlaceFor entries (pair_from w low 0) place → Walked entries Good w low 0 place
walk_starts entries Good w low place there = record { there = there; good = λ i l. absurd (omega arith) }

pub walk_goes : (entries : RankList) (Good : V2 → Type 0) (w : V2) (low : ℤ) (k place : ℕ) (v : V2) → Walked entries Good w low k place → v ≡ pair_from w low k → Good v
    → IsPlaceFor entries (pair v.a (v.b +ℤ pos 1)) (place + 1) → Walked entries Good w low (k + 1) (place + 1)
walk_goes entries Good w low k place v s e good next = record {
  there = subst (λ (x : V2). IsPlaceFor entries x (place + 1)) (ap (λ (x : V2). pair x.a (x.b +ℤ pos 1)) e ∙ ap (pair w.b) (one_more low k)) next;
  good = λ i l. elim (dec_lt i k) as (λ _. Good (pair_from w low i)) [
    | yes g ↦ s.good i g
    | no g ↦ let q : k ≡ i = omega arith in subst Good (e ∙ ap (pair_from w low) q) good
  ];
}
  where
    one_more : (x : ℤ) (n : ℕ) → x +ℤ pos n +ℤ pos 1 ≡ x +ℤ pos (n + 1)
    one_more x n = omega (arith, ints)

pub step_of_low : (low j : ℤ) → low ≤ℤ j → (k : ℕ) × (low +ℤ pos k ≡ j)
step_of_low low j h = (unsigned_abs (j -ℤ low), omega (arith, ints))

-- the pairs begin with the second entry of w
abbrev pub BeginsWith : (V2 → V2 → Type 0) → V2 → Type 0
BeginsWith Leads w = (v : V2) → Leads w v → pair w.b v.b ≡ v

pub ahead_begins : (R : Area) (w : V2) → BeginsWith (LeadsTo R) w
ahead_begins R w v (r, i, e) = ap (λ (x : ℤ). pair x v.b) (ap (λ (u : V2). u.a) e)

pub back_begins : (R : Area) (w : V2) → BeginsWith (LeadsBackTo R) w
back_begins R w v (r, i, e) = ap (λ (x : ℤ). pair x v.b) (turned v.a w.b (ap (λ (u : V2). u.a) e))
  where
    turned : (x y : ℤ) → neg_ℤ (neg_ℤ y) ≡ x → y ≡ x
    turned x y e = omega (arith, linear)

module _ (entries : RankList) (Leads : V2 → V2 → Type 0) (Good : V2 → Type 0) (w : V2) (low high : ℤ) (n : ℕ) (begins : BeginsWith Leads w) (moves : AreMoves Leads w low high) (count : IsCount low high n) (k place : ℕ) (s : Walked entries Good w low k place) where
  below : (j : ℤ) (i : ℕ) → low +ℤ pos i ≡ j → j <ℤ (low +ℤ pos k) → i < k
  below j i e l = omega (arith, ints)

  within : (j : ℤ) (i : ℕ) → low +ℤ pos i ≡ j → j ≤ℤ high → n ≤ k → i < k
  within j i e l m = omega (arith, ints, count.past)

  -- a pair of the span that stands before the next one is good
  pub walked_before : (j : ℤ) → j <ℤ (low +ℤ pos k) → Leads w (pair w.b j) → Good (pair w.b j)
  walked_before j l e =
      let t = step_of_low low j (moves.all j e).0 in
      subst (λ (x : ℤ). Good (pair w.b x)) t.1 (s.good t.0 (below j t.0 t.1 l))

  -- and all are where the walk came to its end
  pub walked_all : n ≤ k → (v : V2) → Leads w v → Good v
  walked_all m v e =
      let f : pair w.b v.b ≡ v = begins v e in
      let a = moves.all v.b (subst (Leads w) (sym f) e) in
      let t = step_of_low low v.b a.0 in
      subst Good (ap (pair w.b) t.1 ∙ f) (s.good t.0 (within v.b t.0 t.1 a.1 m))

  pub leads_here : k < n → Leads w (pair w.b (low +ℤ pos k))
  leads_here l = moves.each (low +ℤ pos k) (omega (arith, ints)) (count.within k l)
