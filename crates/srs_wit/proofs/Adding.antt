-- What one more pair makes of those found.
use Rattle.std.proofs.Common.{◌≡◌, ◌≢◌, ◌⊎◌, inl, inr, zero, suc, ◌^◌, ◌≤◌, List, [], ◌∷◌, ◌++◌, Bool, true, false, IsTrue, arith, ap, ap₂, subst, sym, ◌∙◌, refl, lit<, pos, append_assoc, length-append, get_or}
use Rattle.std.specs.Prelude.{Contains, AllPairs, if◌then◌else◌, Result, Ok, Err, OnOk, IfOk}
use Rattle.std.specs.List.{list_any}
use Rattle.std.proofs.lemmas.Bool.{false≢true}
use Rattle.std.proofs.lemmas.List.{append-nil}
use Rattle.std.proofs.lemmas.List.Elements.{Contains-append_left, Contains-append_right, Contains-append_cases, Contains-get_or}
use Rattle.std.proofs.lemmas.List.Folds.{list_any_at}
use Rattle.std.proofs.lemmas.List.Quantifiers.{all_pairs_push}
use Rattle.std.proofs.lemmas.Map.Views.{Contains-from_any}
use Rattle.indexmap.specs.IndexSet.{insert_key}
use Rattle.srs_num.specs.declared.pairs.V2.{V2}
use Rattle.srs_num.proofs.Ranges.{within_opposite}
use Rattle.srs_map.specs.Step.{pair, minus, IsNarrow}
use Rattle.srs_map.specs.Links.{right, left, up, down}
use Rattle.srs_plane.specs.Regions.{Area}
use Rattle.srs_path.specs.Witnesses.{IsWitness, unit}
use Rattle.srs_path.specs.Core.{pair_eq}
use Rattle.srs_path.proofs.WitnessLemmas.{pair-decides}
use Rattle.srs_wit.specs.Halves.{IsUpperOf, IsHeld, count_both}
use Rattle.srs_wit.specs.PairSets.{Lists, all_of, has_pair, with_pair, HasOneMore}
use Rattle.srs_wit.specs.Search.{AreHalf, Adds, Extends, HasUnits}
use Rattle.srs_wit.proofs.Mirrored.{minus_twice, witness_mirrored}

pub contains_one : (v w : V2) → Contains (v ∷ []) w → w ≡ v
contains_one v w (zero, h, e) = sym e
contains_one v w (suc k, h, e) = absurd (omega arith)

-- the same of the pair on the other side
pub mirror_held : (ws : List V2) (met : Bool) (v : V2) → IsHeld ws met v → IsHeld ws met (minus v)
mirror_held ws met v (inl c) = inr (inl (subst (Contains ws) (sym (minus_twice v)) c))
mirror_held ws met v (inr (inl c)) = inl c
mirror_held ws met v (inr (inr c)) = inr (inr (ap minus c.0, c.1))

pub upper_narrow : (v u : V2) → IsUpperOf v u → IsNarrow v → IsNarrow u
upper_narrow v u (h, inl e) n = subst IsNarrow (sym e) n
upper_narrow v u (h, inr e) n = subst IsNarrow (sym e) (within_opposite v.a (2 ^ 37) n.0, within_opposite v.b (2 ^ 37) n.1)

pub upper_witness : (R : Area) (v u : V2) → IsUpperOf v u → IsWitness R v → IsWitness R u
upper_witness R v u (h, inl e) w = subst (IsWitness R) (sym e) w
upper_witness R v u (h, inr e) w = subst (IsWitness R) (sym e) (witness_mirrored R w)

pub upper_held : (ws : List V2) (met : Bool) (v u : V2) → IsUpperOf v u → Contains ws u → IsHeld ws met v
upper_held ws met v u (h, inl e) c = inl (subst (Contains ws) e c)
upper_held ws met v u (h, inr e) c = inr (inl (subst (Contains ws) e c))

pub absent_pair : (vs : List V2) (v : V2) → list_any (pair_eq v) vs ≡ false → Contains vs v → ⊥
absent_pair vs v t c = false≢true (sym t ∙ list_any_at (pair_eq v) vs c.0 v c.1 ((pair-decides v (get_or vs c.0 v)).1 (sym c.2)))

-- an insertion of u, the upper one of v and -v, by what it answered
module _ (old : List V2) (was : Bool) (v u : V2) (new : List V2) (e : new ≡ insert_key pair_eq old u) (upper : IsUpperOf v u) where
  by_test : (b : Bool) → list_any (pair_eq u) old ≡ b → new ≡ (if b then old else old ++ u ∷ [])
  by_test b t = e ∙ ap (λ (x : Bool). if x then old else old ++ u ∷ []) t

  pub adds_known : (waited : List V2) → list_any (pair_eq u) old ≡ true → IsNarrow v → Adds old was v new was waited waited
  adds_known waited t n =
      let s : new ≡ old = by_test true t in
      record {
        more = [];
        is = s ∙ sym (append-nil old);
        waits = sym (append-nil waited);
        here = upper_held new was v u upper (subst (λ (x : List V2). Contains x u) (sym s) (Contains-from_any (λ x y. (pair-decides x y).0) u old t));
        others = λ w c. inl (subst (λ (x : List V2). Contains x w) s c);
        center = inl;
        stays = λ h. h;
        different = λ h. subst (AllPairs ◌≢◌) (sym s) h;
        narrow = n;
        few = rw s (omega arith);
      }

  module _ (t : list_any (pair_eq u) old ≡ false) where
    grown : new ≡ old ++ u ∷ []
    grown = by_test false t

    others : (w : V2) → Contains new w → Contains old w ⊎ IsUpperOf v w
    others w c = elim (Contains-append_cases old (u ∷ []) w (subst (λ (x : List V2). Contains x w) grown c)) [
      | inl x ↦ inl x
      | inr x ↦ inr (subst (IsUpperOf v) (sym (contains_one u w x)) upper)
    ]

    pub adds_new : (waited waiting : List V2) → IsNarrow v → waiting ≡ waited ++ u ∷ [] → Adds old was v new was waited waiting
    adds_new waited waiting n s = record {
      more = u ∷ [];
      is = grown;
      waits = s;
      here = upper_held new was v u upper (subst (λ (x : List V2). Contains x u) (sym grown) (Contains-append_right old (u ∷ []) u (0, lit< tt, refl)));
      others = others;
      center = inl;
      stays = λ h. h;
      different = λ h. subst (AllPairs ◌≢◌) (sym grown) (all_pairs_push ◌≢◌ old u h (λ k d lt same. absent_pair old u t (subst (Contains old) same (Contains-get_or old k d lt))));
      narrow = n;
      few = rw grown (omega (arith, length-append old (u ∷ [])));
    }

-- the upper one of v and -v was added to those that wait, where it is new
pub adds_one : (old new : Lists) (was : Bool) (v u : V2) → IsUpperOf v u → IsNarrow v → HasOneMore old u new → Adds (all_of old) was v (all_of new) was old.waiting new.waiting
adds_one old new was v u upper n h =
    let e : all_of new ≡ old.followed ++ with_pair old.followed old.waiting u = ap₂ (λ (x y : List V2). x ++ y) h.followed h.waiting in
    by_test e (has_pair (all_of old) u) refl
  where
    over : (b : Bool) → old.followed ++ (if b then old.waiting else old.waiting ++ u ∷ []) ≡ (if b then all_of old else all_of old ++ u ∷ [])
    over true = refl
    over false = sym (append_assoc old.followed old.waiting (u ∷ []))

    by_test : all_of new ≡ old.followed ++ with_pair old.followed old.waiting u → (b : Bool) → has_pair (all_of old) u ≡ b → Adds (all_of old) was v (all_of new) was old.waiting new.waiting
    by_test e true t =
        let s : new.waiting ≡ old.waiting = h.waiting ∙ ap (λ (x : Bool). if x then old.waiting else old.waiting ++ u ∷ []) t in
        subst (Adds (all_of old) was v (all_of new) was old.waiting) (sym s)
        (adds_known (all_of old) was v u (all_of new) (e ∙ over (has_pair (all_of old) u)) upper old.waiting t n)
    by_test e false t =
        adds_new (all_of old) was v u (all_of new) (e ∙ over (has_pair (all_of old) u)) upper t old.waiting new.waiting n
        (h.waiting ∙ ap (λ (x : Bool). if x then old.waiting else old.waiting ++ u ∷ []) t)

module _ (R : Area) where
  pub none_half : (met : Bool) → met ≡ false → AreHalf R [] met
  none_half met e = record {
    upper = λ w c. absurd (omega (arith, c.1));
    different = λ i j d h l. absurd (omega arith);
    each = λ w c. absurd (omega (arith, c.1));
    narrow = λ w c. absurd (omega (arith, c.1));
    center = λ t. absurd (false≢true (sym e ∙ t));
  }

  pub extends_none : (old : List V2) (was : Bool) (waited : List V2) → AreHalf R old was → Extends R old was old was waited waited
  extends_none old was waited f = record { more = []; is = sym (append-nil old); waits = sym (append-nil waited); stays = λ h. h; half = f }

  pub extends_more : (old : List V2) (was : Bool) (now : List V2) (yet : Bool) (new : List V2) (met : Bool) (waited wait waiting : List V2) (v : V2)
      → Extends R old was now yet waited wait → IsWitness R v → Adds now yet v new met wait waiting → Extends R old was new met waited waiting
  extends_more old was now yet new met waited wait waiting v x h a = record {
    more = x.more ++ a.more;
    is = a.is ∙ ap (λ (y : List V2). y ++ a.more) x.is ∙ append_assoc old x.more a.more;
    waits = a.waits ∙ ap (λ (y : List V2). y ++ a.more) x.waits ∙ append_assoc waited x.more a.more;
    stays = λ t. a.stays (x.stays t);
    half = record {
      upper = λ w c. elim (a.others w c) [ inl y ↦ x.half.upper w y | inr y ↦ y.0 ];
      different = a.different x.half.different;
      each = λ w c. elim (a.others w c) [ inl y ↦ x.half.each w y | inr y ↦ upper_witness R v w y h ];
      narrow = λ w c. elim (a.others w c) [ inl y ↦ x.half.narrow w y | inr y ↦ upper_narrow v w y a.narrow ];
      center = λ t. elim (a.center t) [ inl y ↦ x.half.center y | inr y ↦ subst (IsWitness R) y h ];
    };
  }

-- what is held stays so
pub held_longer : (old : List V2) (was : Bool) (new : List V2) (met : Bool) (more : List V2) → new ≡ old ++ more → (IsTrue was → IsTrue met) → (w : V2) → IsHeld old was w → IsHeld new met w
held_longer old was new met more e s w (inl c) = inl (subst (λ (x : List V2). Contains x w) (sym e) (Contains-append_left old more w c))
held_longer old was new met more e s w (inr (inl c)) = inr (inl (subst (λ (x : List V2). Contains x (minus w)) (sym e) (Contains-append_left old more (minus w) c)))
held_longer old was new met more e s w (inr (inr c)) = inr (inr (c.0, s c.1))

pub adds_keep : (old : List V2) (was : Bool) (v : V2) (new : List V2) (met : Bool) (waited waiting : List V2) → Adds old was v new met waited waiting → (w : V2) → IsHeld old was w → IsHeld new met w
adds_keep old was v new met waited waiting a w c = held_longer old was new met a.more a.is a.stays w c

-- the units, one after another
module _ (k0 k1 k2 : List V2) (m0 m1 m2 : Bool) (w0 w1 w2 : List V2) (e0 : k0 ≡ []) (g0 : m0 ≡ false) (f0 : w0 ≡ []) (a1 : Adds k0 m0 (pair (pos 1) (pos 0)) k1 m1 w0 w1) (a2 : Adds k1 m1 (pair (pos 0) (pos 1)) k2 m2 w1 w2) where
  units_0 : (R : Area) → Extends R [] false k0 m0 [] w0
  units_0 R = record {
    more = [];
    is = e0;
    waits = f0;
    stays = λ t. absurd (false≢true t);
    half = subst (λ (x : List V2). AreHalf R x m0) (sym e0) (none_half R m0 g0);
  }

  units_1 : (R : Area) → Extends R [] false k1 m1 [] w1
  units_1 R = extends_more R [] false k0 m0 k1 m1 [] w0 w1 _ (units_0 R) (unit right) a1

  pub units_2 : (R : Area) → Extends R [] false k2 m2 [] w2
  units_2 R = extends_more R [] false k1 m1 k2 m2 [] w1 w2 _ (units_1 R) (unit up) a2

  pub few_units : count_both k2 m2 ≤ 4
  few_units =
      let none : count_both k0 m0 ≤ 0 = rw (e0, g0) (omega arith) in
      omega (arith, none, a1.few, a2.few)

  pub has_units : HasUnits k2 m2
  has_units w right = adds_keep k1 m1 _ k2 m2 w1 w2 a2 w a1.here
  has_units w left = mirror_held k2 m2 (pair (pos 1) (pos 0)) (adds_keep k1 m1 _ k2 m2 w1 w2 a2 (pair (pos 1) (pos 0)) a1.here)
  has_units w up = a2.here
  has_units w down = mirror_held k2 m2 (pair (pos 0) (pos 1)) a2.here

pub on_ok : {X E : Type 0} (r : Result X E) (Y : Type 0) → Y → OnOk r Y
on_ok (Ok x) Y y = y
on_ok (Err e) Y y = tt

-- what the pairs that were listed are known to be
pub shown_along : {E : Type 0} (P : List V2 → Type 0) (ws : List V2) (r : Result (List V2) E) → IfOk r (λ ps. ps ≡ ws) → P ws → IfOk r P
shown_along P ws (Ok ps) e h = subst P (sym e) h
shown_along P ws (Err x) e h = tt

pub on_ok_then : {X E : Type 0} (r : Result X E) (P Q : Type 0) → (P → Q) → OnOk r P → OnOk r Q
on_ok_then (Ok x) P Q f p = f p
on_ok_then (Err e) P Q f p = tt
