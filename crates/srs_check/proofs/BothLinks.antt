-- The walk along both links of a listed pair.
use Rattle.std.proofs.Common.{◌≡◌, ◌≢◌, inl, inr, ℕ, ◌+◌, ◌<◌, ◌≤◌, Bool, true, false, true≢false, ℤ, pos, ◌+ℤ◌, ◌<ℤ◌, ◌≤ℤ◌, sym, ap, subst, ◌∙◌, arith}
use Rattle.std.specs.Prelude.{Contains}
use Rattle.std.proofs.Math.Decide.{dec_lt}
use Rattle.std.proofs.lemmas.Int.{ints}
use Rattle.srs_num.specs.declared.pairs.V2.{V2}
use Rattle.srs_map.specs.Step.{pair, origin}
use Rattle.srs_plane.specs.Regions.{Area}
use Rattle.srs_cell.specs.Moves.{LeadsTo, LeadsBackTo, LinksTo, AreMoves}
use Rattle.srs_cell.specs.Spans.{IsCount, pair_from}
use Rattle.srs_check.specs.Listed.{RankList, IsListed, IsBelow, IsClosedAt}
use Rattle.srs_path.specs.Lists.{IsRankList}
use Rattle.srs_check.specs.Places.{IsPlaceFor}
use Rattle.srs_check.proofs.Entries.{is_below}
use Rattle.srs_check.proofs.Spans.{Walked, walk_goes, walked_all, step_of_low, BeginsWith, ahead_begins, back_begins}

-- v is listed, and below the pair of e where its second entry is above the number
abbrev pub IsFine : RankList → V2 × ℕ → ℤ → V2 → Type 0
IsFine entries e low v = IsListed entries v × (low <ℤ v.b → IsBelow entries e v)

-- a pair that doesn't stay up is below
pub goes_down : (entries : RankList) → IsRankList entries → (w : V2) (rank : ℕ) (v : V2) (n : ℕ) → Contains entries (v, n) → ((w ≢ origin) × (rank ≤ n) → false ≡ true) → IsBelow entries (w, rank) v
goes_down entries list w rank v n c stays = is_below entries list (w, rank) v n c (λ z. elim (dec_lt n rank) as (λ _. n < rank) [
  | yes l ↦ l
  | no l ↦ absurd (true≢false (sym (stays (z, omega arith))))
])

fine : (entries : RankList) (e : V2 × ℕ) (w : V2) (low : ℤ) (k : ℕ) (v : V2) (n : ℕ) → v ≡ pair_from w low k → Contains entries (v, n) → (0 < k → IsBelow entries e v) → IsFine entries e low v
fine entries e w low k v n is c below = ((n, c), λ l. below (positive v.b l (ap (λ (x : V2). x.b) is)))
  where
    positive : (b : ℤ) → low <ℤ b → b ≡ low +ℤ pos k → 0 < k
    positive b l e = omega (arith, ints)

-- what is seen of the pairs so far: they are fine, and the least is below unless it was seen to stay up
pub record Seen (entries : RankList) (e : V2 × ℕ) (w : V2) (low : ℤ) (k place : ℕ) (stays : Bool) : Type 0 where
  pub walked : Walked entries (IsFine entries e low) w low k place
  pub least : stays ≡ false → 0 < k → IsBelow entries e (pair_from w low 0)

pub sees_one : (entries : RankList) (e : V2 × ℕ) (w : V2) (low : ℤ) (k place : ℕ) (old new : Bool) (v : V2) (n : ℕ) → Seen entries e w low k place old → v ≡ pair_from w low k → Contains entries (v, n)
    → IsPlaceFor entries (pair v.a (v.b +ℤ pos 1)) (place + 1) → (0 < k → IsBelow entries e v) → (new ≡ false → IsBelow entries e v × (old ≡ false)) → Seen entries e w low (k + 1) (place + 1) new
sees_one entries e w low k place old new v n s is c after late now = record {
  walked = walk_goes entries (IsFine entries e low) w low k place v s.walked is (fine entries e w low k v n is c late) after;
  least = λ calm positive. elim (dec_lt 0 k) as (λ _. IsBelow entries e (pair_from w low 0)) [
    | yes l ↦ s.least (now calm).1 l
    | no l ↦ let z : k ≡ 0 = omega arith in subst (IsBelow entries e) (is ∙ ap (pair_from w low) z) (now calm).0
  ];
}

-- where each step leads above a number
pub steps_above : (R : Area) (w : V2) (low first last : ℤ) → AreMoves (LeadsTo R) w first last → low <ℤ first → (v : V2) → LeadsTo R w v → low <ℤ v.b
steps_above R w low first last moves l v leads =
    let a = moves.all v.b (subst (LeadsTo R w) (sym (ahead_begins R w v leads)) leads) in
    later v.b a.0
  where
    later : (b : ℤ) → first ≤ℤ b → low <ℤ b
    later b h = omega (arith, ints)

pub least_above : (w : V2) (low : ℤ) (v : V2) → low <ℤ v.b → v ≡ pair_from w low 0 → ⊥
least_above w low v l is = none v.b l (ap (λ (x : V2). x.b) is)
  where
    none : (b : ℤ) → low <ℤ b → b ≡ low +ℤ pos 0 → ⊥
    none b l e = omega (arith, ints)

ahead_links : (R : Area) (w v : V2) → LeadsTo R w v → LinksTo R w v
ahead_links R w v (r, i, e) = (r, i, inl (sym e))

back_links : (R : Area) (w v : V2) → LeadsBackTo R w v → LinksTo R w v
back_links R w v (r, i, e) = (r, i, inr (sym e))

links_begin : (R : Area) (w : V2) → BeginsWith (LinksTo R) w
links_begin R w v (r, i, inl e) = ahead_begins R w v (r, i, sym e)
links_begin R w v (r, i, inr e) = back_begins R w v (r, i, sym e)

module _ (R : Area) (entries : RankList) (w : V2) (rank : ℕ) (low high : ℤ) (n : ℕ) (links : AreMoves (LinksTo R) w low high) (count : IsCount low high n) (k place : ℕ) (s : Walked entries (IsFine entries (w, rank) low) w low k place) (past : n ≤ k) where
  each : (v : V2) → LinksTo R w v → IsFine entries (w, rank) low v
  each = walked_all entries (LinksTo R) (IsFine entries (w, rank) low) w low high n (links_begin R w) links count k place s past

  low_is : (b : ℤ) (i : ℕ) → low +ℤ pos i ≡ b → (0 < i → ⊥) → b ≡ low +ℤ pos 0
  low_is b i e z = omega (arith, ints)

  above : (b : ℤ) (i : ℕ) → low +ℤ pos i ≡ b → 0 < i → low <ℤ b
  above b i e l = omega (arith, ints)

  some : (b : ℤ) (i : ℕ) → low +ℤ pos i ≡ b → b ≤ℤ high → 0 < k
  some b i e l = omega (arith, ints, count.past)

  -- the entry is closed, where a step leads to the least pair of the span only if that is below
  pub closed : (0 < k → (v : V2) → LeadsTo R w v → v ≡ pair_from w low 0 → IsBelow entries (w, rank) v) → IsClosedAt R entries (w, rank)
  closed least = record {
    ahead = λ v leads.
        let f : pair w.b v.b ≡ v = ahead_begins R w v leads in
        let a = links.all v.b (subst (LinksTo R w) (sym f) (ahead_links R w v leads)) in
        let t = step_of_low low v.b a.0 in
        elim (dec_lt 0 t.0) as (λ _. IsBelow entries (w, rank) v) [
          | yes l ↦ (each v (ahead_links R w v leads)).1 (above v.b t.0 t.1 l)
          | no l ↦ least (some v.b t.0 t.1 a.1) v leads (sym f ∙ ap (pair w.b) (low_is v.b t.0 t.1 l))
        ];
    back = λ v back. (each v (back_links R w v back)).0;
  }
