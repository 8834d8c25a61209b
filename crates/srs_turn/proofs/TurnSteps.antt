-- Each step keeps the rule of a turn.
use Rattle.std.proofs.Common.{◌≡◌, ◌≢◌, ℕ, zero, suc, ◌<◌, List, [], ◌∷◌, length, get_or, set, ◌==◌, sym, refl, ap, ◌∙◌, subst, ⊎_elim, arith, Option, Some, None}
use mathlib.Core.Option.{some, none, some-injective, some-ne-none}
use lib.ListN.{get_elem?}
use prog.Atomic.{either}
use Rattle.atomic_table.specs.Table.{State, Me, step, rest, Act, keeps, takes, gives, Valid, carried_after, stepped, Allows, Splits, Joins, opening}
use Rattle.atomic_table.proofs.Lists.{set_else, at_longer, at_set, set_again, at_snoc}
use Rattle.srs_turn.specs.declared.view.Role.{Role}
use Rattle.srs_turn.specs.declared.view.Role.TheVariants.{Idle, Holder, Joining, Spent}
use Rattle.srs_turn.specs.declared.view.View.{View}
use Rattle.srs_turn.specs.Prefixes.{Begins, longer}
use Rattle.srs_turn.specs.TurnWords.{knows, spent_view, Fits, IsHeldBy, joining_view, IsIdle, Counted, Rested, Freed, Compared, first_view, IsHome, IsTurnTable, Tried, Grew}
use Rattle.srs_turn.proofs.PrefixLemmas.{begins_refl, begins_trans, begins_either, longer_begins}

-- a seat with nothing in hand is no holder
not_holder_idle : {E : Type 0} → ◌≡◌ {A = Role E} Idle Holder → ⊥
not_holder_idle e = absurd (cc)

-- nor is one that took in another
not_holder_both : {E : Type 0} (other : List E) → ◌≡◌ {A = Role E} (Joining other) Holder → ⊥
not_holder_both other e = absurd (cc)

module _ {B : Type 0} where
  -- the one slot that was taken is the last
  pub slot_last : (slots : List (ℕ × Option B)) (value : Option B) → slots ≡ (0, value) ∷ [] → slots ≡ (0, value) ∷ rest slots
  slot_last slots value e = e ∙ ap (λ others. (0, value) ∷ others) (sym (ap rest e))

  -- a seat that has the one slot has it with what was put in
  pub slot_filled : {V : Type 0} → (old new : Me (Option B) V) (value : Option B) → new ≡ (old.0, (0, value) ∷ rest old.1) → old.1 ≡ (0, None) ∷ [] → new.1 ≡ (0, value) ∷ []
  slot_filled old new value e one = ap (λ seat. seat.1) e ∙ ap (λ others. (0, value) ∷ rest others) one

module _ {E F : Type 0} where
  -- what every seat but one knows
  each_but : (P Q : ℕ → View E F → Type 0) (vs : List (View E F)) (me : ℕ) (w : View E F) → Q me w → ((j : ℕ) (v : View E F) → j ≢ me → P j v → Q j v)
      → ((j : ℕ) (v : View E F) → get_elem? vs j ≡ some v → P j v) → (j : ℕ) (v : View E F) → get_elem? (set vs me w) j ≡ some v → Q j v
  each_but P Q vs me w mine others all j v e = ⊎_elim (λ (t : (j ≡ me) × (w ≡ v)). subst (λ (x : ℕ × View E F). Q x.0 x.1) (λ i. (sym t.0 i, t.1 i)) mine)
      (λ (t : (j ≢ me) × (get_elem? vs j ≡ some v)). others j v t.0 (all j v t.1)) (at_set vs me j w v e)

  -- the list grows, and no other seat holds the turn
  others_fit : (lock lock' holder holder' j : ℕ) (list list' seen : List E) (f : F) (g : Option F) (role : Role E) → Begins list list' → (lock ≡ 1 → holder ≡ j → ⊥)
      → Fits lock list f holder j seen g role → Fits lock' list' f holder' j seen g role
  others_fit lock lock' holder holder' j list list' seen f g Idle more alone h = (begins_trans seen list list' h.0 more, h.1)
  others_fit lock lock' holder holder' j list list' seen f g Holder more alone h = absurd (alone h.0 h.1)
  others_fit lock lock' holder holder' j list list' seen f g (Joining other) more alone h = (begins_trans seen list list' h.0 more, begins_trans other list list' h.1 more, h.2)
  others_fit lock lock' holder holder' j list list' seen f g Spent more alone h = tt

  -- the view that was put into a place of the list is there
  set_some : (l : List (View E F)) (i : ℕ) (a b : View E F) → get_elem? l i ≡ some b → get_elem? (set l i a) i ≡ some a
  set_some [] i a b e = absurd (some-ne-none b (sym e))
  set_some (x ∷ xs) zero a b e = refl
  set_some (x ∷ xs) (suc i) a b e = set_some xs i a b e

  -- another seat holds the turn, so it still does
  held_other : (lock holder me : ℕ) (views : List (View E F)) (v w : View E F) → get_elem? views me ≡ some v → (v.role ≡ Holder → ⊥) → IsHeldBy lock holder views → IsHeldBy lock holder (set views me w)
  held_other lock holder me views v w at free held one =
      let h = held one in
      let apart : holder ≢ me = λ e. free (ap (λ (u : View E F). u.role) (some-injective _ _ (sym at ∙ ap (get_elem? views) (sym e) ∙ h.1)) ∙ h.2) in
      (h.0, set_else views me holder w apart ∙ h.1, h.2)

module _ {B E F : Type 0} (told : B → List E) (fixed : B → F) (f : F) where
  abbrev V : Type 0
  V = View E F

  abbrev St : Type 0
  St = State (Option B) V

  abbrev M : Type 0
  M = Me (Option B) V

  abbrev Rule : St → Type 0
  Rule = IsTurnTable told fixed f

  abbrev fits : (s : St) → Rule s → ℕ → V → Type 0
  fits s r j v = Fits r.lock r.list f r.holder j v.seen v.fixed v.role

  -- a free turn is not held
  zero_one : ◌≡◌ {A = ℕ} 0 1 → ⊥
  zero_one e = absurd (omega arith)

  -- the first table keeps the rule
  pub starts : (book : B) → fixed book ≡ f → Rule (opening (0 ∷ length (told book) ∷ 0 ∷ []) (Some book ∷ []) (first_view told fixed book))
  starts book is = record {
    lock = 0;
    list = told book;
    holder = 0;
    asleep = 0;
    words = refl;
    home = (book, refl, refl, is);
    held = λ e. absurd (zero_one e);
    each = one;
  }
    where
      one : (id : ℕ) (v : V) → get_elem? (first_view told fixed book ∷ []) id ≡ some v → Fits 0 (told book) f 0 id v.seen v.fixed v.role
      one zero v e = subst (λ (v : V). Fits 0 (told book) f 0 0 v.seen v.fixed v.role) (some-injective _ _ e) (begins_refl (told book), ap Some is)
      one (suc id) v e = absurd (some-ne-none v (sym e))

  -- a step that changes no word and no slot
  unmoved : (s : St) (r : Rule s) (i me : ℕ) (cs : List (ℕ × Option B)) (w : V) → i < 2 → fits s r me w → IsHeldBy r.lock r.holder (set s.views me w) → Rule (stepped s i (get_or s.words i 0) me cs w keeps)
  unmoved s r i me cs w two mine held = record {
    lock = r.lock;
    list = r.list;
    holder = r.holder;
    asleep = r.asleep;
    words = same i two;
    home = r.home;
    held = held;
    each = each_but (fits s r) (fits s r) s.views me w mine (λ j v _ h. h) r.each;
  }
    where
      same : (i : ℕ) → i < 2 → set s.words i (get_or s.words i 0) ≡ r.lock ∷ length r.list ∷ r.asleep ∷ []
      same zero two = ap (λ (ws : List ℕ). set ws 0 (get_or ws 0 0)) r.words
      same (suc zero) two = ap (λ (ws : List ℕ). set ws 1 (get_or ws 1 0)) r.words
      same (suc (suc i)) two = absurd (omega arith)

  -- the load of the count
  counts_at : (slots id : ℕ) (seen : List E) (g : Option F) → Allows Rule slots id (knows Idle seen g, []) 1 (λ n. n) (Counted (step slots 1 0 0 none) (knows Idle seen g, []))
  counts_at slots id seen g s r long at lt =
      let mine = r.each id (knows Idle seen g) at in
      let w : V = knows Idle r.list g in
      (w, keeps, tt, unmoved s r 1 id [] w (omega arith) (begins_refl r.list, mine.1) (held_other r.lock r.holder id s.views (knows Idle seen g) w at not_holder_idle r.held), ((refl, refl), refl, mine.0, sym (ap (λ (ws : List ℕ). get_or ws 1 0) r.words)))

  -- a seat that holds nothing, by its parts
  as_idle : (m : M) → IsIdle m → (knows Idle m.0.seen m.0.fixed, []) ≡ m
  as_idle m h = λ i. (record { role = sym h.0 i; seen = m.0.seen; fixed = m.0.fixed }, sym h.1 i)

  -- the same of each seat that holds nothing
  pub counts : (slots id : ℕ) (m : M) → IsIdle m → Allows Rule slots id m 1 (λ n. n) (Counted (step slots 1 0 0 none) m)
  counts slots id m h = subst (λ (m : M). Allows Rule slots id m 1 (λ n. n) (Counted (step slots 1 0 0 none) m)) (as_idle m h) (counts_at slots id m.0.seen m.0.fixed)

  -- a change of the third word
  rests_at : (slots id : ℕ) (seen : List E) (g : Option F) (to : ℕ → ℕ) (k : ℕ) → Allows Rule slots id (knows Idle seen g, []) 2 to (Rested (step slots 2 k 0 none) (knows Idle seen g, []))
  rests_at slots id seen g to k s r long at lt =
      let w : V = knows Idle seen g in (
        w,
        keeps,
        tt,
        record {
          lock = r.lock;
          list = r.list;
          holder = r.holder;
          asleep = to (get_or s.words 2 0);
          words = ap (λ (ws : List ℕ). set ws 2 (to (get_or s.words 2 0))) r.words;
          home = r.home;
          held = held_other r.lock r.holder id s.views w w at not_holder_idle r.held;
          each = each_but (fits s r) (fits s r) s.views id w (r.each id w at) (λ j v _ h. h) r.each;
        },
        refl,
      )

  -- the same of each seat that holds nothing
  pub rests : (slots id : ℕ) (m : M) (to : ℕ → ℕ) (k : ℕ) → IsIdle m → Allows Rule slots id m 2 to (Rested (step slots 2 k 0 none) m)
  rests slots id m to k h = subst (λ (m : M). Allows Rule slots id m 2 to (Rested (step slots 2 k 0 none) m)) (as_idle m h) (rests_at slots id m.0.seen m.0.fixed to k)

  -- what a step owes, at a table whose words and slots are known
  abbrev Goes : List ℕ → List (mathlib.Core.Option.Option (Option B)) → List V → ℕ → M → ℕ → (ℕ → ℕ) → (ℕ → M → Type 0) → Type 0
  Goes words homes views id m i to then =
      (w : V) × (a : Act (Option B)) × Valid homes m.1 a × Rule (stepped record { words = words; homes = homes; views = views } i (to (get_or words i 0)) id m.1 w a)
      × then (get_or words i 0) (w, carried_after m.1 a)

  -- what the rule says of all seats
  abbrev Each : ℕ → List E → ℕ → List V → Type 0
  Each lock list holder views = (id : ℕ) (v : V) → get_elem? views id ≡ some v → Fits lock list f holder id v.seen v.fixed v.role

  -- the compare-exchange where the turn is free
  wins_free : (slots id holder asleep : ℕ) (seen list : List E) (g : Option F) (views : List V) (book : B) → told book ≡ list → fixed book ≡ f → Each 0 list holder views → get_elem? views id ≡ some (knows Idle seen g)
      → Goes (0 ∷ length list ∷ asleep ∷ []) (some (Some book) ∷ []) views id (knows Idle seen g, []) 0 (λ n. either (n == 0) 1 n) (Tried told fixed (step slots 0 0 1 none) (knows Idle seen g, []))
  wins_free slots id holder asleep seen list g views book lists fixes each at =
      let mine = each id (knows Idle seen g) at in
      let w : V = knows Holder list g in (
        w,
        takes 0 (Some book),
        refl,
        record {
          lock = 1;
          list = list;
          holder = id;
          asleep = asleep;
          words = refl;
          home = (refl, refl);
          held = λ _. (w, set_some views id w (knows Idle seen g) at, refl);
          each = each_but (λ j v. Fits 0 list f holder j v.seen v.fixed v.role) (λ j v. Fits 1 list f id j v.seen v.fixed v.role) views id w (refl, refl, refl, mine.1)
              (λ j v other h. others_fit 0 1 holder id j list list v.seen f v.fixed v.role (begins_refl list) (λ e _. zero_one e) h) each;
        },
        (refl, mine.0, (λ _. (refl, (book, refl, lists, mine.1 ∙ ap Some (sym fixes)))), (λ n. absurd (n refl))),
      )

  -- the compare-exchange where the turn is held
  wins_taken : (slots id holder asleep : ℕ) (seen list : List E) (g : Option F) (views : List V) → IsHeldBy 1 holder views → Each 1 list holder views → get_elem? views id ≡ some (knows Idle seen g)
      → Goes (1 ∷ length list ∷ asleep ∷ []) (none ∷ []) views id (knows Idle seen g, []) 0 (λ n. either (n == 0) 1 n) (Tried told fixed (step slots 0 0 1 none) (knows Idle seen g, []))
  wins_taken slots id holder asleep seen list g views held each at =
      let mine = each id (knows Idle seen g) at in
      let w : V = knows Idle seen g in
      let P : ℕ → V → Type 0 = λ j v. Fits 1 list f holder j v.seen v.fixed v.role in (
        w,
        keeps,
        tt,
        record {
          lock = 1;
          list = list;
          holder = holder;
          asleep = asleep;
          words = refl;
          home = (refl, refl);
          held = held_other 1 holder id views (knows Idle seen g) w at not_holder_idle held;
          each = each_but P P views id w mine (λ j v _ h. h) each;
        },
        (refl, begins_refl seen, (λ e. absurd (zero_one (sym e))), (λ _. refl)),
      )

  -- the compare-exchange at a table whose first word is known
  wins_from : (slots id holder asleep lock : ℕ) (seen list : List E) (g : Option F) (homes : List (mathlib.Core.Option.Option (Option B))) (views : List V) → IsHome told fixed lock list f homes → IsHeldBy lock holder views → Each lock list holder views
      → get_elem? views id ≡ some (knows Idle seen g) → Goes (lock ∷ length list ∷ asleep ∷ []) homes views id (knows Idle seen g, []) 0 (λ n. either (n == 0) 1 n) (Tried told fixed (step slots 0 0 1 none) (knows Idle seen g, []))
  wins_from slots id holder asleep zero seen list g homes views home held each at =
      subst (λ (hs : List (mathlib.Core.Option.Option (Option B))). Goes (0 ∷ length list ∷ asleep ∷ []) hs views id (knows Idle seen g, []) 0 (λ n. either (n == 0) 1 n) (Tried told fixed (step slots 0 0 1 none) (knows Idle seen g, []))) (sym home.1)
      (wins_free slots id holder asleep seen list g views home.0 home.2 home.3 each at)
  wins_from slots id holder asleep (suc k) seen list g homes views home held each at =
      subst (λ (x : ℕ × List (mathlib.Core.Option.Option (Option B))). IsHeldBy (suc x.0) holder views → Each (suc x.0) list holder views → Goes (suc x.0 ∷ length list ∷ asleep ∷ []) x.1 views id (knows Idle seen g, []) 0 (λ n. either (n == 0) 1 n) (Tried told fixed (step slots 0 0 1 none) (knows Idle seen g, [])))
      (λ i. (sym home.0 i, sym home.1 i)) (λ held each. wins_taken slots id holder asleep seen list g views held each at) held each

  -- the compare-exchange at each table
  pub wins : (slots id : ℕ) (m : M) → IsIdle m → Allows Rule slots id m 0 (λ n. either (n == 0) 1 n) (Tried told fixed (step slots 0 0 1 none) m)
  wins slots id m h = subst (λ (m : M). Allows Rule slots id m 0 (λ n. either (n == 0) 1 n) (Tried told fixed (step slots 0 0 1 none) m)) (as_idle m h)
      (λ s r long at lt. subst (λ (ws : List ℕ). Goes ws s.homes s.views id (knows Idle m.0.seen m.0.fixed, []) 0 (λ n. either (n == 0) 1 n) (Tried told fixed (step slots 0 0 1 none) (knows Idle m.0.seen m.0.fixed, []))) (sym r.words)
      (wins_from slots id r.holder r.asleep r.lock m.0.seen r.list m.0.fixed s.homes s.views r.home r.held r.each at))

  -- while the turn is held, its slot is empty, whatever the list is
  home_held : (lock : ℕ) (list list' : List E) (homes : List (mathlib.Core.Option.Option (Option B))) → lock ≡ 1 → IsHome told fixed lock list f homes → IsHome told fixed lock list' f homes
  home_held zero list list' homes e h = absurd (zero_one e)
  home_held (suc k) list list' homes e h = h

  -- while the turn is held, its slot is empty
  empty_home : (lock : ℕ) (list : List E) (homes : List (mathlib.Core.Option.Option (Option B))) → lock ≡ 1 → IsHome told fixed lock list f homes → homes ≡ none ∷ []
  empty_home zero list homes e h = absurd (zero_one e)
  empty_home (suc k) list homes e h = h.1

  -- the store of the count, the book being in the slot that the holder has
  grows_at : (slots id n : ℕ) (seen : List E) (g : Option F) (book : B) → Begins seen (told book) → n ≡ length (told book)
      → Allows Rule slots id (knows Holder seen g, (0, Some book) ∷ []) 1 (λ _. n) (λ _. Grew told (step slots 1 n 0 none) (knows Holder seen g, (0, Some book) ∷ []) n)
  grows_at slots id n seen g book more is s r long at lt =
      let mine = r.each id (knows Holder seen g) at in
      let w : V = knows Holder (told book) g in (
        w,
        keeps,
        tt,
        record {
          lock = r.lock;
          list = told book;
          holder = r.holder;
          asleep = r.asleep;
          words = ap (λ (ws : List ℕ). set ws 1 n) r.words ∙ ap (λ (k : ℕ). r.lock ∷ k ∷ r.asleep ∷ []) is;
          home = home_held r.lock r.list (told book) s.homes mine.0 r.home;
          held = λ _. (w, ap (get_elem? (set s.views id w)) mine.1 ∙ set_some s.views id w (knows Holder seen g) at, refl);
          each = each_but (fits s r) (λ j v. Fits r.lock (told book) f r.holder j v.seen v.fixed v.role) s.views id w (mine.0, mine.1, refl, mine.3)
              (λ j v other h. others_fit r.lock r.lock r.holder r.holder j r.list (told book) v.seen f v.fixed v.role (subst (λ l. Begins l (told book)) mine.2 more) (λ _ e. other (sym e ∙ mine.1)) h) r.each;
        },
        refl,
      )

  -- what is in an option, or else x
  some_back : F → Option F → F
  some_back x (Some y) = y
  some_back x None = x

  -- two options that are equal have equal values
  some_same : (x y : F) → Some x ≡ Some y → x ≡ y
  unfolding some_back
  some_same x y e = ap (some_back x) e

  -- the store of the turn
  frees_at : (slots id : ℕ) (seen : List E) (g : Option F) (book : B) → told book ≡ seen → g ≡ Some (fixed book)
      → Allows Rule slots id (knows Holder seen g, (0, Some book) ∷ []) 0 (λ _. 0) (λ _. Freed (step slots 0 0 0 none) (knows Holder seen g, (0, Some book) ∷ []) 0)
  frees_at slots id seen g book lists fixes s r long at lt =
      let mine = r.each id (knows Holder seen g) at in
      let w : V = knows Idle seen g in (
        w,
        gives,
        tt,
        record {
          lock = 0;
          list = r.list;
          holder = id;
          asleep = r.asleep;
          words = ap (λ (ws : List ℕ). set ws 0 0) r.words;
          home = (book, ap (λ hs. set hs 0 (some (Some book))) (empty_home r.lock r.list s.homes mine.0 r.home), lists ∙ mine.2, some_same _ _ (sym fixes ∙ mine.3));
          held = λ e. absurd (zero_one e);
          each = each_but (fits s r) (λ j v. Fits 0 r.list f id j v.seen v.fixed v.role) s.views id w (subst (Begins seen) mine.2 (begins_refl seen), mine.3)
              (λ j v other h. others_fit r.lock 0 r.holder id j r.list r.list v.seen f v.fixed v.role (begins_refl r.list) (λ _ e. other (sym e ∙ mine.1)) h) r.each;
        },
        refl,
      )

  -- a seat is split off
  splits_at : (id : ℕ) (seen : List E) (g : Option F) → Splits Rule id (knows Idle seen g) (knows Idle seen g) (knows Idle seen g)
  splits_at id seen g s r at = let mine = r.each id (knows Idle seen g) at in record {
    lock = r.lock;
    list = r.list;
    holder = r.holder;
    asleep = r.asleep;
    words = r.words;
    home = r.home;
    held = λ one. let h = r.held one in (h.0, at_longer _ _ r.holder h.0 (ap (λ vs. get_elem? vs r.holder) (set_again s.views id (knows Idle seen g) at) ∙ h.1), h.2);
    each = λ j v e. ⊎_elim (λ was. r.each j v (subst (λ vs. get_elem? vs j ≡ some v) (set_again s.views id (knows Idle seen g) at) was))
        (λ (t : knows Idle seen g ≡ v). subst (fits s r j) t mine) (at_snoc (set s.views id (knows Idle seen g)) (knows Idle seen g) v j e);
  }

  pub splits : (id : ℕ) (v : V) → v.role ≡ Idle → Splits Rule id v v v
  splits id v h = subst (λ (v : V). Splits Rule id v v v) (λ i. record { role = sym h i; seen = v.seen; fixed = v.fixed }) (splits_at id v.seen v.fixed)

  -- a seat is taken in
  joins_at : (id other : ℕ) (seen told_of : List E) (g h : Option F) → Joins Rule id (knows Idle seen g) other (knows Idle told_of h) (knows (Joining told_of) seen g) spent_view
  joins_at id other seen told_of g h s r at apart there =
      let mine = r.each id (knows Idle seen g) at in
      let w : V = knows (Joining told_of) seen g in
      let theirs = ⊎_elim (λ (t : (other ≡ id) × (w ≡ knows Idle told_of h)). absurd (apart t.0)) (λ (t : (other ≢ id) × (get_elem? s.views other ≡ some (knows Idle told_of h))). r.each other (knows Idle told_of h) t.1)
      (at_set s.views id other w (knows Idle told_of h) there) in record {
        lock = r.lock;
        list = r.list;
        holder = r.holder;
        asleep = r.asleep;
        words = r.words;
        home = r.home;
        held = held_other r.lock r.holder other (set s.views id w) (knows Idle told_of h) spent_view there not_holder_idle (held_other r.lock r.holder id s.views (knows Idle seen g) w at not_holder_idle r.held);
        each = each_but (fits s r) (fits s r) (set s.views id w) other spent_view tt (λ j v _ h. h)
            (each_but (fits s r) (fits s r) s.views id w (mine.0, theirs.0, mine.1) (λ j v _ h. h) r.each);
      }

  pub joins : (id other : ℕ) (v u : V) → v.role ≡ Idle → u.role ≡ Idle → Joins Rule id v other u (joining_view v u) spent_view
  joins id other v u a b = subst (λ (x : V × V). Joins Rule id x.0 other x.1 (joining_view x.0 x.1) spent_view)
      (λ i. (record { role = sym a i; seen = v.seen; fixed = v.fixed }, record { role = sym b i; seen = u.seen; fixed = u.fixed })) (joins_at id other v.seen u.seen v.fixed u.fixed)

  -- the load behind a join
  compares_at : (slots id : ℕ) (seen other : List E) (g : Option F) → Allows Rule slots id (knows (Joining other) seen g, []) 0 (λ n. n) (Compared (step slots 0 0 0 none) (knows (Joining other) seen g, []))
  compares_at slots id seen other g s r long at lt =
      let mine = r.each id (knows (Joining other) seen g) at in
      let w : V = knows Idle (longer seen other) g in
      (w, keeps, tt, unmoved s r 0 id [] w (omega arith) (longer_begins seen other r.list mine.0 mine.1, mine.2) (held_other r.lock r.holder id s.views (knows (Joining other) seen g) w at (not_holder_both other) r.held), (refl, begins_either seen other r.list mine.0 mine.1))

  pub compares : (slots id : ℕ) (m : M) (v u : V) (held : List (ℕ × Option B)) → m ≡ (joining_view v u, held) → held ≡ [] → Allows Rule slots id m 0 (λ n. n) (Compared (step slots 0 0 0 none) m)
  compares slots id m v u held e free = subst (λ (m : M). Allows Rule slots id m 0 (λ n. n) (Compared (step slots 0 0 0 none) m)) (sym (e ∙ ap (λ l. (joining_view v u, l)) free)) (compares_at slots id v.seen u.seen v.fixed)

  -- a seat that holds the turn with the book in its slot, by its parts
  as_holder : (m : M) (book : B) → m.0.role ≡ Holder → m.1 ≡ (0, Some book) ∷ [] → (knows Holder m.0.seen m.0.fixed, (0, Some book) ∷ []) ≡ m
  as_holder m book r c = λ i. (record { role = sym r i; seen = m.0.seen; fixed = m.0.fixed }, sym c i)

  pub grows : (slots id n : ℕ) (m : M) (book : B) → m.0.role ≡ Holder → m.1 ≡ (0, Some book) ∷ [] → Begins m.0.seen (told book) → n ≡ length (told book)
      → Allows Rule slots id m 1 (λ _. n) (λ _. Grew told (step slots 1 n 0 none) m n)
  grows slots id n m book r c more is = subst (λ (m : M). Allows Rule slots id m 1 (λ _. n) (λ _. Grew told (step slots 1 n 0 none) m n)) (as_holder m book r c) (grows_at slots id n m.0.seen m.0.fixed book more is)

  pub frees : (slots id : ℕ) (m : M) (book : B) → m.0.role ≡ Holder → m.1 ≡ (0, Some book) ∷ [] → told book ≡ m.0.seen → m.0.fixed ≡ Some (fixed book)
      → Allows Rule slots id m 0 (λ _. 0) (λ _. Freed (step slots 0 0 0 none) m 0)
  frees slots id m book r c lists fixes = subst (λ (m : M). Allows Rule slots id m 0 (λ _. 0) (λ _. Freed (step slots 0 0 0 none) m 0)) (as_holder m book r c) (frees_at slots id m.0.seen m.0.fixed book lists fixes)
