-- Where pairs stand in an ascending list.
use Rattle.std.proofs.Common.{◌≡◌, ℕ, ◌+◌, ◌<◌, ◌≤◌, length, pos, ◌+ℤ◌, get_or, slice_get, Some, refl, sym, ap, subst, ◌∙◌, arith}
use Rattle.std.specs.Prelude.{Contains}
use Rattle.std.proofs.Math.Decide.{dec_lt}
use Rattle.std.proofs.lemmas.Int.{ints}
use Rattle.std.proofs.lemmas.Option.{same_Some, slice_get_within, slice_get_read, slice_get-get_or, get_or_from_slice_get}
use Rattle.srs_num.specs.declared.pairs.V2.{V2}
use Rattle.srs_map.specs.Step.{pair}
use Rattle.srs_path.specs.Core.{Precedes}
use Rattle.srs_path.specs.Lists.{IsRankList}
use Rattle.srs_path.proofs.Order.{precedes-trans}
use Rattle.srs_check.specs.Listed.{RankList, IsListed}
use Rattle.srs_check.specs.Places.{IsPlaceFor}

-- an entry that is listed, by its place
pub record Listed (entries : RankList) (e : V2 × ℕ) : Type 0 where
  pub place : ℕ
  pub is : slice_get entries place ≡ Some e

pub by_place : (entries : RankList) (e : V2 × ℕ) → Contains entries e → Listed entries e
by_place entries e c = record { place = c.0; is = slice_get_read entries (length entries) c.0 e refl c.1 (sym c.2) }

pub from_place : (entries : RankList) (i : ℕ) (e : V2 × ℕ) → slice_get entries i ≡ Some e → Contains entries e
from_place entries i e at = (i, slice_get_within entries i e at, get_or_from_slice_get entries i e e at)

pub not_before_itself : (w : V2) → Precedes w w → ⊥
not_before_itself w p = omega (arith, ints, p.0, p.1 refl)

-- the next pair with the same first entry
abbrev next : V2 → V2
next w = pair w.a (w.b +ℤ pos 1)

before_next : (w : V2) → Precedes w (next w)
before_next w = (omega (arith, ints), λ e. omega (arith, ints))

none_between : (w v : V2) → Precedes w v → Precedes v (next w) → ⊥
none_between w v p q = omega (arith, ints, p.0, q.0, p.1 (omega (arith, ints, p.0, q.0)), q.1 (omega (arith, ints, p.0, q.0)))

same_place : (entries : RankList) (i j : ℕ) (e f : V2 × ℕ) → slice_get entries i ≡ Some e → slice_get entries j ≡ Some f → i ≡ j → e ≡ f
same_place entries i j e f at bt q = same_Some e f (sym at ∙ ap (slice_get entries) q ∙ bt)

module _ (entries : RankList) (list : IsRankList entries) where
  pub ascends : (i j : ℕ) (e f : V2 × ℕ) → slice_get entries i ≡ Some e → slice_get entries j ≡ Some f → i < j → Precedes e.0 f.0
  ascends i j e f at bt l =
      let p : Precedes (get_or entries i e).0 (get_or entries j e).0 = list.ascending i j e l (slice_get_within entries j f bt) in
      let a : get_or entries i e ≡ e = get_or_from_slice_get entries i e e at in
      let b : get_or entries j e ≡ f = get_or_from_slice_get entries j f e bt in
      subst (λ (x : V2 × ℕ). Precedes x.0 f.0) a (subst (λ (x : V2 × ℕ). Precedes (get_or entries i e).0 x.0) b p)

  -- a pair has one rank
  pub one_rank : (w : V2) (n m : ℕ) → Contains entries (w, n) → Contains entries (w, m) → n ≡ m
  one_rank w n m c d =
      let a = by_place entries (w, n) c in
      let b = by_place entries (w, m) d in
      elim (dec_lt a.place b.place) as (λ _. n ≡ m) [
        | yes l ↦ absurd (not_before_itself w (ascends a.place b.place (w, n) (w, m) a.is b.is l))
        | no l ↦ elim (dec_lt b.place a.place) as (λ _. n ≡ m) [
          | yes g ↦ absurd (not_before_itself w (ascends b.place a.place (w, m) (w, n) b.is a.is g))
          | no g ↦ let q : a.place ≡ b.place = omega arith in ap (λ (x : V2 × ℕ). x.1) (same_place entries a.place b.place (w, n) (w, m) a.is b.is q)
        ]
      ]

  module _ (w : V2) (place : ℕ) (at : IsPlaceFor entries w place) where
    -- where the pair doesn't stand at its place, it isn't listed
    pub not_listed : ((n : ℕ) → slice_get entries place ≡ Some (w, n) → ⊥) → IsListed entries w → ⊥
    not_listed none (n, c) =
        let a = by_place entries (w, n) c in
        elim (dec_lt a.place place) as (λ _. ⊥) [
          | yes l ↦ not_before_itself w (at.before a.place (w, n) l a.is)
          | no l ↦ elim (dec_lt place a.place) as (λ _. ⊥) [
            | yes g ↦
                let l : place < length entries = omega (arith, g, slice_get_within entries a.place (w, n) a.is) in
                let e : V2 × ℕ = get_or entries place (w, n) in
                let is : slice_get entries place ≡ Some e = slice_get-get_or entries place (w, n) l in
                at.after place e (omega arith) is (ascends place a.place e (w, n) is a.is g)
            | no g ↦ let q : a.place ≡ place = omega arith in none n (ap (slice_get entries) (sym q) ∙ a.is)
          ]
        ]

    -- and where it does, the next pair has the next place
    pub next_place : (n : ℕ) → slice_get entries place ≡ Some (w, n) → IsPlaceFor entries (pair w.a (w.b +ℤ pos 1)) (place + 1)
    next_place n is = record {
      within = omega (arith, slice_get_within entries place (w, n) is);
      before = λ i e l f. elim (dec_lt i place) as (λ _. Precedes e.0 (next w)) [
        | yes g ↦ precedes-trans e.0 w (next w) (at.before i e g f) (before_next w)
        | no g ↦ let q : i ≡ place = omega arith in subst (λ (x : V2 × ℕ). Precedes x.0 (next w)) (sym (same_place entries i place e (w, n) f is q)) (before_next w)
      ];
      after = λ i e l f p. let g : place < i = omega arith in none_between w e.0 (ascends place i (w, n) e is f g) p;
    }

-- the place of w is from low to high
pub record Searching (entries : RankList) (w : V2) (low high : ℕ) : Type 0 where
  pub order : low ≤ high
  pub within : high ≤ length entries
  pub before : (i : ℕ) (e : V2 × ℕ) → i < low → slice_get entries i ≡ Some e → Precedes e.0 w
  pub after : (i : ℕ) (e : V2 × ℕ) → high ≤ i → slice_get entries i ≡ Some e → Precedes e.0 w → ⊥

pub search_all : (entries : RankList) (w : V2) → Searching entries w 0 (length entries)
search_all entries w = record {
  order = omega arith;
  within = omega arith;
  before = λ i e l at. absurd (omega arith);
  after = λ i e l at p. omega (arith, slice_get_within entries i e at);
}

pub search_ends : (entries : RankList) (w : V2) (low high : ℕ) → Searching entries w low high → high ≤ low → IsPlaceFor entries w low
search_ends entries w low high s l = record {
  within = omega (arith, s.order, s.within);
  before = s.before;
  after = λ i e g at. s.after i e (omega (arith, s.order)) at;
}

module _ (entries : RankList) (list : IsRankList entries) (w : V2) (low high middle : ℕ) (s : Searching entries w low high) (v : V2) (n : ℕ) (here : slice_get entries middle ≡ Some (v, n)) where
  pub search_above : low ≤ middle → middle < high → Precedes v w → Searching entries w (middle + 1) high
  search_above a b p = record {
    order = omega arith;
    within = s.within;
    before = λ i e l at. elim (dec_lt i middle) as (λ _. Precedes e.0 w) [
      | yes g ↦ precedes-trans e.0 v w (ascends entries list i middle e (v, n) at here g) p
      | no g ↦ let q : i ≡ middle = omega arith in subst (λ (x : V2 × ℕ). Precedes x.0 w) (sym (same_place entries i middle e (v, n) at here q)) p
    ];
    after = s.after;
  }

  pub search_below : low ≤ middle → middle < high → (Precedes v w → ⊥) → Searching entries w low middle
  search_below a b p = record {
    order = a;
    within = omega (arith, s.within);
    before = s.before;
    after = λ i e l at g. elim (dec_lt middle i) as (λ _. ⊥) [
      | yes m ↦ p (precedes-trans v e.0 w (ascends entries list middle i (v, n) e here at m) g)
      | no m ↦ let q : i ≡ middle = omega arith in p (subst (λ (x : V2 × ℕ). Precedes x.0 w) (same_place entries i middle e (v, n) at here q) g)
    ];
  }
