-- The places of the Lt parts, found by one walk over the events of a whole tree.
use Rattle.std.proofs.Common.{◌≡◌, ◌<◌, ◌+◌, ◌++◌, ◌⊎◌, ℕ, zero, suc, List, [], ◌∷◌, length, map, drop, get_or, set, Some, slice_get, refl, sym, ap, ◌∙◌, inl, inr, arith, length-append, subst, get_or-set_other, get_or-set_same}
use Rattle.std.proofs.lemmas.List.{same_from_push, drop_more, drop_all, get_or_append_left, length-set}
use Rattle.std.proofs.lemmas.Bool.Decides.{eqb_tells}
use Rattle.std.proofs.lemmas.Option.{same_Some, get_or_from_slice_get, slice_get_within}
use Rattle.srs_num.specs.Points.{LinearForm}
use Rattle.srs_path.specs.declared.paths.Side.{Side}
use Rattle.srs_path.specs.declared.paths.Side.TheVariants.{Ge, Lt}
use Rattle.srs_path.specs.declared.outcomes.Outcome.{Outcome}
use Rattle.srs_path.specs.declared.outcomes.Outcome.TheVariants.{Inside, Outside, Cut, Left}
use Rattle.srs_path.specs.declared.outcomes.Cause.TheVariants.{Memory}
use Rattle.srs_path.specs.Views.{Entry}
use Rattle.srs_tree.specs.Tree.{History}
use Rattle.srs_tree.specs.Rounds.{parts_by}
use Rattle.srs_tree.specs.WholeTrees.{ListsTrees, ListsWholeTree}
use Rattle.srs_cert.specs.Certificates.{StandsAt, ListsLtParts}

-- the path of the Lt part of the event at place c
abbrev pub lt_path : History → ℕ → List Side
lt_path H c = (get_or H c (record { path = []; outcome = Left Memory })).path ++ Lt ∷ []

-- a stack whose top is the first of these, as a list whose last one is the top
abbrev pub stacked : List ℕ → List ℕ
stacked [] = []
stacked (c ∷ cs) = stacked cs ++ c ∷ []

abbrev pub Holds : List ℕ → ℕ → Type 0
Holds [] k = ⊥
Holds (c ∷ cs) k = (k ≡ c) ⊎ Holds cs k

abbrev pub AreBelow : ℕ → List ℕ → Type 0
AreBelow i [] = Unit {0}
AreBelow i (c ∷ cs) = (c < i) × AreBelow i cs

-- the paths that wait are the next one and the Lt parts of the cuts on the stack, or none is left
abbrev pub Waits : History → List (List Side) → List ℕ → Type 0
Waits H waiting tops = ((waiting ≡ []) × (tops ≡ [])) ⊎ ((next : List Side) × (waiting ≡ next ∷ map (lt_path H) tops))

-- before the event at place i: the cuts on the stack wait for their Lt parts, and those of the other cuts are known
pub record PartsSoFar (H : History) (places waiting_cuts : List ℕ) (i : ℕ) : Type 0 where
  pub tops : List ℕ
  pub waiting : List (List Side)
  pub open_is : waiting_cuts ≡ stacked tops
  pub count : length places ≡ i
  pub below : AreBelow i tops
  pub waits : Waits H waiting tops
  pub listed : ListsTrees waiting (drop i H)
  pub settled : (k : ℕ) (e : Entry) (h : LinearForm) → slice_get H k ≡ Some e → k < i → e.outcome ≡ Cut h → Holds tops k ⊎ StandsAt H (e.path ++ Lt ∷ []) (get_or places k 0)

pub parts_start : (H : History) → ListsWholeTree H → PartsSoFar H [] [] 0
parts_start H tree = record {
  tops = [];
  waiting = [] ∷ [];
  open_is = refl;
  count = refl;
  below = tt;
  waits = inr ([], refl);
  listed = tree;
  settled = λ k e h at lt cut. absurd (omega arith);
}

drop_here : (H : History) (i : ℕ) (e : Entry) → slice_get H i ≡ Some e → drop i H ≡ e ∷ drop (i + 1) H
drop_here H i e at = drop_more H i e (slice_get_within H i e at) ∙ ap (λ x. x ∷ drop (i + 1) H) (get_or_from_slice_get H i e e at)

pub head_at : (H : History) (i : ℕ) (e : Entry) (rest : History) → drop i H ≡ e ∷ rest → slice_get H i ≡ Some e
head_at [] zero e rest d = cc
head_at [] (suc i) e rest d = cc
head_at (x ∷ H) zero e rest d = cc
head_at (x ∷ H) (suc i) e rest d = head_at H i e rest d

below_more : (i : ℕ) (tops : List ℕ) → AreBelow i tops → AreBelow (i + 1) tops
below_more i [] b = tt
below_more i (c ∷ cs) b = (omega (arith, b.0), below_more i cs b.1)

-- the event at place i is that of the next path, and its parts wait before the others
taken : (H : History) (waiting : List (List Side)) (tops : List ℕ) (i : ℕ) (e : Entry) → slice_get H i ≡ Some e → Waits H waiting tops → ListsTrees waiting (drop i H)
    → ListsTrees (parts_by e.path e.outcome ++ map (lt_path H) tops) (drop (i + 1) H)
taken H waiting tops i e at (inl (none, empty)) l =
    let l' : ListsTrees [] (e ∷ drop (i + 1) H) = rw (none, drop_here H i e at) at l in
    absurd l'
taken H waiting tops i e at (inr (next, w)) l =
    let l' : ListsTrees (next ∷ map (lt_path H) tops) (e ∷ drop (i + 1) H) = rw (w, drop_here H i e at) at l in
    l'.1

-- what is settled stays so when a place is appended
kept : (H : History) (places : List ℕ) (i : ℕ) (path : List Side) (k : ℕ) → length places ≡ i → k < i → StandsAt H path (get_or places k 0) → StandsAt H path (get_or (places ++ 0 ∷ []) k 0)
kept H places i path k size lt s = let within : k < length places = omega arith in subst (StandsAt H path) (sym (get_or_append_left places (0 ∷ []) 0 k within)) s

lt_path_is : (H : History) (i : ℕ) (e : Entry) → slice_get H i ≡ Some e → lt_path H i ≡ e.path ++ Lt ∷ []
lt_path_is H i e at = ap (λ (x : Entry). x.path ++ Lt ∷ []) (get_or_from_slice_get H i e (record { path = []; outcome = Left Memory }) at)

-- a cut goes on the stack
pub parts_cut : (H : History) (places waiting_cuts after more : List ℕ) (i : ℕ) (e : Entry) (h : LinearForm) → PartsSoFar H places waiting_cuts i → slice_get H i ≡ Some e → e.outcome ≡ Cut h
    → after ≡ places ++ 0 ∷ [] → more ≡ waiting_cuts ++ i ∷ [] → PartsSoFar H after more (i + 1)
parts_cut H places waiting_cuts after more i e h s at cut grown pushed = record {
  tops = i ∷ s.tops;
  waiting = (e.path ++ Ge ∷ []) ∷ map (lt_path H) (i ∷ s.tops);
  open_is = pushed ∙ ap (λ x. x ++ i ∷ []) s.open_is;
  count = omega (arith, ap length grown, s.count, length-append places (0 ∷ []));
  below = (omega arith, below_more i s.tops s.below);
  waits = inr (e.path ++ Ge ∷ [], refl);
  listed = listed;
  settled = λ k f g there lt is. settled k f g there is lt;
} where
  listed : ListsTrees ((e.path ++ Ge ∷ []) ∷ map (lt_path H) (i ∷ s.tops)) (drop (i + 1) H)
  listed =
      let l = taken H s.waiting s.tops i e at s.waits s.listed in
      let m : ListsTrees ((e.path ++ Ge ∷ []) ∷ (e.path ++ Lt ∷ []) ∷ map (lt_path H) s.tops) (drop (i + 1) H) = rw cut at l in
      rw (lt_path_is H i e at) m

  settled : (k : ℕ) (f : Entry) (g : LinearForm) → slice_get H k ≡ Some f → f.outcome ≡ Cut g → k < i + 1 → Holds (i ∷ s.tops) k ⊎ StandsAt H (f.path ++ Lt ∷ []) (get_or after k 0)
  settled k f g there is lt = elim (eqb_tells k i) [
    | inl same ↦ inl (inl same.1)
    | inr other ↦
        let earlier : k < i = omega (arith, other.1) in
        elim (s.settled k f g there earlier is) [
          | inl waits ↦ inl (inr waits)
          | inr known ↦ inr (rw grown (kept H places i (f.path ++ Lt ∷ []) k s.count earlier known))
        ]
  ]

pub no_parts : (path : List Side) (o : Outcome) → ((h : LinearForm) → o ≡ Cut h → ⊥) → parts_by path o ≡ []
no_parts path (Inside ranks) leaf = refl
no_parts path (Outside cycle) leaf = refl
no_parts path (Cut h) leaf = absurd (leaf h refl)
no_parts path (Left cause) leaf = refl

after_leaf : (H : History) (places waiting_cuts : List ℕ) (i : ℕ) (e : Entry) (s : PartsSoFar H places waiting_cuts i) → slice_get H i ≡ Some e → ((h : LinearForm) → e.outcome ≡ Cut h → ⊥) → ListsTrees (map (lt_path H) s.tops) (drop (i + 1) H)
after_leaf H places waiting_cuts i e s at leaf = let l = taken H s.waiting s.tops i e at s.waits s.listed in rw (no_parts e.path e.outcome leaf) at l

-- the last leaf
pub parts_last : (H : History) (places waiting_cuts after : List ℕ) (i : ℕ) (e : Entry) → PartsSoFar H places waiting_cuts i → slice_get H i ≡ Some e → ((h : LinearForm) → e.outcome ≡ Cut h → ⊥)
    → after ≡ places ++ 0 ∷ [] → waiting_cuts ≡ [] → PartsSoFar H after waiting_cuts (i + 1)
parts_last H places waiting_cuts after i e s at leaf grown empty = record {
  tops = s.tops;
  waiting = map (lt_path H) s.tops;
  open_is = s.open_is;
  count = omega (arith, ap length grown, s.count, length-append places (0 ∷ []));
  below = below_more i s.tops s.below;
  waits = inl (ap (map (lt_path H)) none, none);
  listed = after_leaf H places waiting_cuts i e s at leaf;
  settled = λ k f g there lt is. elim (eqb_tells k i) [
    | inl same ↦ absurd (leaf g (ap (λ (x : Entry). x.outcome) (same_Some e f (sym at ∙ rw same.1 at there)) ∙ is))
    | inr other ↦
        let earlier : k < i = omega (arith, other.1) in
        elim (s.settled k f g there earlier is) [
          | inl waits ↦ inl waits
          | inr known ↦ inr (rw grown (kept H places i (f.path ++ Lt ∷ []) k s.count earlier known))
        ]
  ];
} where
  empty_stack : (tops : List ℕ) → stacked tops ≡ [] → tops ≡ []
  empty_stack [] q = refl
  empty_stack (c ∷ cs) q = absurd (omega (arith, ap length q, length-append (stacked cs) (c ∷ [])))

  none : s.tops ≡ []
  none = empty_stack s.tops (sym s.open_is ∙ empty)

-- a leaf behind which the Lt part of the top of the stack begins
pub parts_leaf : (H : History) (places waiting_cuts after more : List ℕ) (i cut : ℕ) (e : Entry) → PartsSoFar H places waiting_cuts i → slice_get H i ≡ Some e → ((h : LinearForm) → e.outcome ≡ Cut h → ⊥)
    → waiting_cuts ≡ more ++ cut ∷ [] → after ≡ set (places ++ 0 ∷ []) cut (i + 1) → PartsSoFar H after more (i + 1)
parts_leaf H places waiting_cuts after more i cut e s at leaf popped grown = from s.tops refl
  where
    from : (tops : List ℕ) → s.tops ≡ tops → PartsSoFar H after more (i + 1)
    from [] q = absurd (omega (arith, ap length s.open_is, ap (λ x. length (stacked x)) q, ap length popped, length-append more (cut ∷ [])))
    from (c ∷ cs) q = record {
      tops = cs;
      waiting = lt_path H cut ∷ map (lt_path H) cs;
      open_is = sym stack.0;
      count = omega (arith, ap length grown, length-set (places ++ 0 ∷ []) cut (i + 1), s.count, length-append places (0 ∷ []));
      below = below_more i cs below.1;
      waits = inr (lt_path H cut, refl);
      listed = listed;
      settled = λ k f g there lt is. settled k f g there is lt;
    } where
      stack : (stacked cs ≡ more) × (c ≡ cut)
      stack = same_from_push (stacked cs) more c cut (sym (ap stacked q) ∙ sym s.open_is ∙ popped)

      below : AreBelow i (c ∷ cs)
      below = rw q at s.below

      listed : ListsTrees (lt_path H cut ∷ map (lt_path H) cs) (drop (i + 1) H)
      listed = let l = after_leaf H places waiting_cuts i e s at leaf in let m : ListsTrees (map (lt_path H) (c ∷ cs)) (drop (i + 1) H) = rw q at l in rw (← stack.1) m

      begins : (rest : History) → drop (i + 1) H ≡ rest → ListsTrees (lt_path H cut ∷ map (lt_path H) cs) rest → StandsAt H (lt_path H cut) (i + 1)
      begins [] d l = absurd l
      begins (f ∷ rest) d l = record { event = f; there = head_at H (i + 1) f rest d; path_is = l.0 }

      within : cut < length (places ++ 0 ∷ [])
      within = omega (arith, below.0, stack.1, s.count, length-append places (0 ∷ []))

      settled : (k : ℕ) (f : Entry) (g : LinearForm) → slice_get H k ≡ Some f → f.outcome ≡ Cut g → k < i + 1 → Holds cs k ⊎ StandsAt H (f.path ++ Lt ∷ []) (get_or after k 0)
      settled k f g there is lt = elim (eqb_tells k cut) [
        | inl same ↦
            let place : get_or after k 0 ≡ i + 1 = rw (grown, same.1) (get_or-set_same (places ++ 0 ∷ []) cut (i + 1) 0 within) in
            let path : lt_path H cut ≡ f.path ++ Lt ∷ [] = lt_path_is H cut f (rw same.1 at there) in
            inr (rw (place, ← path) (begins (drop (i + 1) H) refl listed))
        | inr other ↦ elim (eqb_tells k i) [
          | inl same ↦ absurd (leaf g (ap (λ (x : Entry). x.outcome) (same_Some e f (sym at ∙ rw same.1 at there)) ∙ is))
          | inr later ↦
              let earlier : k < i = omega (arith, later.1) in
              let place : get_or after k 0 ≡ get_or (places ++ 0 ∷ []) k 0 = rw grown (get_or-set_other (places ++ 0 ∷ []) cut k (i + 1) 0 other.1) in
              elim (s.settled k f g there earlier is) [
                | inl waits ↦ let w : Holds (c ∷ cs) k = rw q at waits in elim w [ inl here ↦ absurd (other.1 (here ∙ stack.1)) | inr on ↦ inl on ]
                | inr known ↦ inr (rw place (kept H places i (f.path ++ Lt ∷ []) k s.count earlier known))
              ]
        ]
      ]

-- the cut on the top of the stack stands before the event at place i
pub top_below : (H : History) (places waiting_cuts more : List ℕ) (i cut : ℕ) → PartsSoFar H places waiting_cuts i → waiting_cuts ≡ more ++ cut ∷ [] → cut < i
top_below H places waiting_cuts more i cut s popped = from s.tops s.open_is s.below
  where
    from : (tops : List ℕ) → waiting_cuts ≡ stacked tops → AreBelow i tops → cut < i
    from [] o b = absurd (omega (arith, ap length o, ap length popped, length-append more (cut ∷ [])))
    from (c ∷ cs) o b = let same = same_from_push (stacked cs) more c cut (sym o ∙ popped) in omega (arith, b.0, same.1)

pub parts_end : (H : History) (places waiting_cuts : List ℕ) (i : ℕ) → PartsSoFar H places waiting_cuts i → i ≡ length H → ListsLtParts H places
parts_end H places waiting_cuts i s over = record {
  all = s.count ∙ over;
  each = λ k e h at cut. elim (s.settled k e h at (omega (arith, slice_get_within H k e at)) cut) [
    | inl waits ↦ absurd (no_waits k waits)
    | inr known ↦ known
  ];
} where
  gone : drop i H ≡ []
  gone = drop_all i H (omega arith)

  none : s.tops ≡ []
  none = elim s.waits [
    | inl w ↦ w.1
    | inr w ↦ let l : ListsTrees (w.0 ∷ map (lt_path H) s.tops) [] = rw (w.1, gone) at s.listed in absurd l
  ]

  no_waits : (k : ℕ) → Holds s.tops k → ⊥
  no_waits k w = let v : Holds [] k = rw none at w in v
