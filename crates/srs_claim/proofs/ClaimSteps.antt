-- Each step keeps the rule of some claims.
use Rattle.std.proofs.Common.{◌≡◌, ◌≢◌, ℕ, zero, suc, ◌+◌, ◌-◌, ◌%◌, ◌^◌, ◌<◌, ◌≤◌, List, [], ◌∷◌, ◌++◌, get_or, set, sym, refl, ap, ◌∙◌, subst, ⊎_elim, arith, length-set, length-append, mod-eq_of_lt}
use Rattle.std.specs.Prelude.{Bool, true, false}
use mathlib.Core.Logic.{dite}
use mathlib.Core.Option.{some, none, some-injective, some-ne-none}
use native.Mathlib.Decide.{ℕ_discrete, dec_le}
use lib.ListN.{get_elem?}
use Rattle.atomic_table.specs.Table.{State, Me, step, Act, keeps, Valid, carried_after, stepped, Allows, Splits, Joins, opening}
use Rattle.atomic_table.proofs.Lists.{at_set, at_snoc}
use Rattle.srs_claim.specs.declared.view.Role.{Role}
use Rattle.srs_claim.specs.declared.view.Role.TheVariants.{Live, Joining, Spent}
use Rattle.srs_claim.specs.declared.view.View.{View}
use Rattle.srs_claim.specs.Numbers.{times}
use Rattle.srs_claim.specs.ClaimWord.{knows, first_view, spent_view, with_less_spare, new_view, joining_view, times_by, ends_of, total_of, Fits, IsClaimTable, Drew, Compared}
use Rattle.srs_claim.proofs.SumLemmas.{times-append, times-self, times-other, total_of-set, total_of-snoc, total_of-one, ends_by-le, total_ends-le}

-- what every seat but one knows
each_but : (P Q : ℕ → View → Type 0) (vs : List View) (me : ℕ) (w : View) → Q me w → ((j : ℕ) (v : View) → j ≢ me → P j v → Q j v)
    → ((j : ℕ) (v : View) → get_elem? vs j ≡ some v → P j v) → (j : ℕ) (v : View) → get_elem? (set vs me w) j ≡ some v → Q j v
each_but P Q vs me w mine others all j v e = ⊎_elim (λ (t : (j ≡ me) × (w ≡ v)). subst (λ (x : ℕ × View). Q x.0 x.1) (λ i. (sym t.0 i, t.1 i)) mine)
    (λ (t : (j ≢ me) × (get_elem? vs j ≡ some v)). others j v t.0 (all j v t.1)) (at_set vs me j w v e)

-- the word grows
later : (word word' n m : ℕ) (ended : Bool) (role : Role) → word ≤ word' → Fits word n m ended role → Fits word' n m ended role
later word word' n m ended Live le h = (h.0, λ e. let k = h.1 e in omega arith)
later word word' n m ended (Joining other) le h = (h.0, λ e. let k = h.1 e in omega arith)
later word word' n m ended Spent le h = tt

abbrev S : Type 0
S = Unit {0}

module _ (n seats : ℕ) where
  abbrev St : Type 0
  St = State S View

  abbrev M : Type 0
  M = Me S View

  abbrev Rule : St → Type 0
  Rule = IsClaimTable n seats

  -- the first table keeps the rule
  pub starts : (xs : List S) → n < 4294967296 → 0 < seats → seats ≤ 4294967296 → Rule (opening (0 ∷ []) xs (first_view n seats))
  starts xs few some_seat small = record {
    word = 0;
    words = refl;
    few = few;
    small = small;
    each = one;
    once = λ x. omega arith;
    below = λ x _. omega arith;
    room = omega arith;
    reach = omega arith;
  }
    where
      one : (id : ℕ) (v : View) → get_elem? (first_view n seats ∷ []) id ≡ some v → Fits 0 n v.n v.ended v.role
      one zero v e = subst (λ (v : View). Fits 0 n v.n v.ended v.role) (some-injective _ _ e) (refl, λ e. absurd (cc))
      one (suc id) v e = absurd (some-ne-none v (sym e))

  abbrev V : Type 0
  V = View

  -- what the rule says of a seat at this word
  abbrev fits : ℕ → ℕ → V → Type 0
  fits word j v = Fits word n v.n v.ended v.role

  -- a step of a live seat that has not ended, at a word below n
  drawn_at : (s : St) (r : Rule s) (id spare : ℕ) (drawn : List ℕ) (cs : List (ℕ × S)) → get_elem? s.views id ≡ some (knows Live n drawn false spare) → r.word < n
      → Rule (stepped s 0 (r.word + 1) id cs (knows Live n (drawn ++ r.word ∷ []) false spare) keeps) × (times r.word drawn ≡ 0)
  drawn_at s r id spare drawn cs at lt =
      let v : V = knows Live n drawn false spare in
      let w : V = knows Live n (drawn ++ r.word ∷ []) false spare in (
        record {
          word = r.word + 1;
          words = ap (λ (ws : List ℕ). set ws 0 (r.word + 1)) r.words;
          few = r.few;
          small = r.small;
          each = each_but (fits r.word) (fits (r.word + 1)) s.views id w (refl, λ e. absurd (cc)) (λ j u _ h. later r.word (r.word + 1) n u.n u.ended u.role (omega arith) h) r.each;
          once = λ x. dite (ℕ_discrete x r.word)
              (λ e. let a = total_of-set (times_by x) s.views id v w at in let b = times-append x drawn (r.word ∷ []) in let c = r.below r.word (omega arith) in
              let d : total_of (times_by x) s.views ≡ 0 = ap (λ (y : ℕ). total_of (times_by y) s.views) e ∙ c in let f : times x (r.word ∷ []) ≡ 1 = subst (λ (y : ℕ). times x (y ∷ []) ≡ 1) e (times-self x) in omega arith)
              (λ ne. let a = total_of-set (times_by x) s.views id v w at in let b = times-append x drawn (r.word ∷ []) in let c = times-other x r.word ne in let d = r.once x in omega arith);
          below = λ x le. let a = total_of-set (times_by x) s.views id v w at in let b = times-append x drawn (r.word ∷ []) in let c = times-other x r.word (λ e. omega arith) in let d = r.below x (omega arith) in omega arith;
          room = let a = total_of-set (λ u. u.spare) s.views id v w at in let b = length-set s.views id w in let c = r.room in omega arith;
          reach = omega arith;
        },
        (let a = total_of-one (times_by r.word) s.views id v at in let b = r.below r.word (omega arith) in omega arith),
      )

  -- the same at a word that has reached n
  ended_at : (s : St) (r : Rule s) (id spare : ℕ) (drawn : List ℕ) (cs : List (ℕ × S)) → get_elem? s.views id ≡ some (knows Live n drawn false spare) → n ≤ r.word
      → Rule (stepped s 0 (r.word + 1) id cs (knows Live n drawn true spare) keeps)
  ended_at s r id spare drawn cs at le =
      let v : V = knows Live n drawn false spare in
      let w : V = knows Live n drawn true spare in record {
        word = r.word + 1;
        words = ap (λ (ws : List ℕ). set ws 0 (r.word + 1)) r.words;
        few = r.few;
        small = r.small;
        each = each_but (fits r.word) (fits (r.word + 1)) s.views id w (refl, λ _. omega arith) (λ j u _ h. later r.word (r.word + 1) n u.n u.ended u.role (omega arith) h) r.each;
        once = λ x. let a = total_of-set (times_by x) s.views id v w at in let d = r.once x in omega arith;
        below = λ x l. let a = total_of-set (times_by x) s.views id v w at in let d = r.below x (omega arith) in omega arith;
        room = let a = total_of-set (λ u. u.spare) s.views id v w at in let b = length-set s.views id w in let c = r.room in omega arith;
        reach = let a = total_of-set ends_of s.views id v w at in let c = r.reach in omega arith;
      }

  -- the word does not wrap
  fits_word : (s : St) (r : Rule s) → (r.word + 1) % 2 ^ 64 ≡ r.word + 1
  fits_word s r = let a = total_ends-le s.views in let b = r.reach in let c = r.room in let d = r.few in let e = r.small in mod-eq_of_lt (omega arith)

  -- the addition, by a seat that has not ended
  draws_at : (slots id spare : ℕ) (drawn : List ℕ) → Allows Rule slots id (knows Live n drawn false spare, []) 0 (λ k. (k + 1) % 2 ^ 64) (Drew (step slots 0 1 0 none) (knows Live n drawn false spare, []))
  draws_at slots id spare drawn s r long at lt =
      let v : V = knows Live n drawn false spare in
      let P : ℕ → ℕ → Type 0 = λ k j. (w : V) × (a : Act S) × Valid s.homes [] a × Rule (stepped s 0 j id [] w a) × Drew (step slots 0 1 0 none) (v, []) k (w, carried_after [] a) in
      let here : P r.word (r.word + 1) = dite (dec_le n r.word)
      (λ le. (knows Live n drawn true spare, keeps, tt, ended_at s r id spare drawn [] at le, ((λ l. absurd (omega arith)), (λ _. refl))))
      (λ not. let lt : r.word < n = omega arith in let d = drawn_at s r id spare drawn [] at lt in (knows Live n (drawn ++ r.word ∷ []) false spare, keeps, tt, d.0, ((λ _. (refl, d.1)), (λ le. absurd (omega arith))))) in
      let e : r.word ≡ get_or s.words 0 0 = sym (ap (λ (ws : List ℕ). get_or ws 0 0) r.words) in
      let f : r.word + 1 ≡ (get_or s.words 0 0 + 1) % 2 ^ 64 = sym (fits_word s r) ∙ ap (λ (k : ℕ). (k + 1) % 2 ^ 64) e in
      subst (λ (x : ℕ × ℕ). P x.0 x.1) (λ i. (e i, f i)) here

  -- the same of each such seat
  pub draws : (slots id : ℕ) (m : M) → m.0.role ≡ Live → m.0.ended ≡ false → m.1 ≡ [] → Allows Rule slots id m 0 (λ k. (k + 1) % 2 ^ 64) (Drew (step slots 0 1 0 none) m)
  draws slots id m live going none_out s r long at lt =
      let own : m.0.n ≡ n = (subst (Fits r.word n m.0.n m.0.ended) live (r.each id m.0 at)).0 in
      let is : (knows Live n m.0.drawn false m.0.spare, []) ≡ m = λ i. (record { role = sym live i; n = sym own i; drawn = m.0.drawn; ended = sym going i; spare = m.0.spare }, sym none_out i) in
      (subst (λ (m : M). Allows Rule slots id m 0 (λ k. (k + 1) % 2 ^ 64) (Drew (step slots 0 1 0 none) m)) is (draws_at slots id m.0.spare m.0.drawn)) s r long at lt

  -- a seat is split off
  splits_at : (id m spare : ℕ) (drawn : List ℕ) (ended : Bool) → 0 < spare → Splits Rule id (knows Live m drawn ended spare) (knows Live m drawn ended (spare - 1)) (knows Live m [] false 0)
  splits_at id m spare drawn ended more s r at =
      let v : V = knows Live m drawn ended spare in
      let w : V = knows Live m drawn ended (spare - 1) in
      let u : V = knows Live m [] false 0 in
      let mine = r.each id v at in record {
        word = r.word;
        words = r.words;
        few = r.few;
        small = r.small;
        each = λ j x e. ⊎_elim (each_but (fits r.word) (fits r.word) s.views id w mine (λ j u _ h. h) r.each j x) (λ (t : u ≡ x). subst (fits r.word j) t (mine.0, λ e. absurd (cc))) (at_snoc (set s.views id w) u x j e);
        once = λ x. let a = total_of-set (times_by x) s.views id v w at in let b = total_of-snoc (times_by x) (set s.views id w) u in let d = r.once x in omega arith;
        below = λ x l. let a = total_of-set (times_by x) s.views id v w at in let b = total_of-snoc (times_by x) (set s.views id w) u in let d = r.below x l in omega arith;
        room = let a = total_of-set (λ u. u.spare) s.views id v w at in let b = total_of-snoc (λ u. u.spare) (set s.views id w) u in let c = length-set s.views id w in let d = length-append (set s.views id w) (u ∷ []) in let e = r.room in omega arith;
        reach = let a = total_of-set ends_of s.views id v w at in let b = total_of-snoc ends_of (set s.views id w) u in let c = r.reach in omega arith;
      }

  pub splits : (id : ℕ) (v : V) → v.role ≡ Live → 0 < v.spare → Splits Rule id v (with_less_spare v) (new_view v)
  splits id v live more = subst (λ (v : V). Splits Rule id v (with_less_spare v) (new_view v)) (λ i. record { role = sym live i; n = v.n; drawn = v.drawn; ended = v.ended; spare = v.spare }) (splits_at id v.n v.spare v.drawn v.ended more)

  -- a seat is taken in
  joins_at : (id other m l spare left : ℕ) (drawn taken : List ℕ) (ended gone : Bool)
      → Joins Rule id (knows Live m drawn ended spare) other (knows Live l taken gone left) (knows (Joining taken) m drawn ended (spare + left)) spent_view
  joins_at id other m l spare left drawn taken ended gone s r at apart there =
      let v : V = knows Live m drawn ended spare in
      let w : V = knows Live l taken gone left in
      let b : V = knows (Joining taken) m drawn ended (spare + left) in
      let mid : List V = set s.views id b in
      let mine = r.each id v at in record {
        word = r.word;
        words = r.words;
        few = r.few;
        small = r.small;
        each = each_but (fits r.word) (fits r.word) mid other spent_view tt (λ j u _ h. h) (each_but (fits r.word) (fits r.word) s.views id b mine (λ j u _ h. h) r.each);
        once = λ x. let a = total_of-set (times_by x) s.views id v b at in let c = total_of-set (times_by x) mid other w spent_view there in let d = r.once x in omega arith;
        below = λ x le. let a = total_of-set (times_by x) s.views id v b at in let c = total_of-set (times_by x) mid other w spent_view there in let d = r.below x le in omega arith;
        room = let a = total_of-set (λ u. u.spare) s.views id v b at in let c = total_of-set (λ u. u.spare) mid other w spent_view there in let d = length-set s.views id b in let e = length-set mid other spent_view in let f = r.room in omega arith;
        reach = let a = total_of-set ends_of s.views id v b at in let c = total_of-set ends_of mid other w spent_view there in let d = ends_by-le Live gone in let e = r.reach in omega arith;
      }

  pub joins : (id other : ℕ) (v u : V) → v.role ≡ Live → u.role ≡ Live → Joins Rule id v other u (joining_view v u) spent_view
  joins id other v u a b = subst (λ (x : V × V). Joins Rule id x.0 other x.1 (joining_view x.0 x.1) spent_view)
      (λ i. (record { role = sym a i; n = v.n; drawn = v.drawn; ended = v.ended; spare = v.spare }, record { role = sym b i; n = u.n; drawn = u.drawn; ended = u.ended; spare = u.spare }))
      (joins_at id other v.n u.n v.spare u.spare v.drawn u.drawn v.ended u.ended)

  -- the load behind a join
  compares_at : (slots id m spare : ℕ) (drawn taken : List ℕ) (ended : Bool)
      → Allows Rule slots id (knows (Joining taken) m drawn ended spare, []) 0 (λ k. k) (Compared (step slots 0 0 0 none) (knows (Joining taken) m drawn ended spare, []))
  compares_at slots id m spare drawn taken ended s r long at lt =
      let v : V = knows (Joining taken) m drawn ended spare in
      let w : V = knows Live m (drawn ++ taken) ended spare in
      let mine = r.each id v at in (
        w,
        keeps,
        tt,
        record {
          word = r.word;
          words = ap (λ (ws : List ℕ). set ws 0 (get_or ws 0 0)) r.words;
          few = r.few;
          small = r.small;
          each = each_but (fits r.word) (fits r.word) s.views id w mine (λ j u _ h. h) r.each;
          once = λ x. let a = total_of-set (times_by x) s.views id v w at in let b = times-append x drawn taken in let d = r.once x in omega arith;
          below = λ x le. let a = total_of-set (times_by x) s.views id v w at in let b = times-append x drawn taken in let d = r.below x le in omega arith;
          room = let a = total_of-set (λ u. u.spare) s.views id v w at in let b = length-set s.views id w in let c = r.room in omega arith;
          reach = let a = total_of-set ends_of s.views id v w at in let c = r.reach in omega arith;
        },
        (
          refl,
          (λ x. let a = total_of-one (times_by x) s.views id v at in let b = r.once x in omega arith),
          (λ x le. let a = total_of-one (times_by x) s.views id v at in let b = times-append x drawn taken in let c = mine.0 in let d = r.below x (omega arith) in omega arith),
        ),
      )

  pub compares : (slots id : ℕ) (m : M) (v u : V) → m ≡ (joining_view v u, []) → Allows Rule slots id m 0 (λ k. k) (Compared (step slots 0 0 0 none) m)
  compares slots id m v u e = subst (λ (m : M). Allows Rule slots id m 0 (λ k. k) (Compared (step slots 0 0 0 none) m)) (sym e) (compares_at slots id v.n (v.spare + u.spare) v.drawn u.drawn v.ended)
