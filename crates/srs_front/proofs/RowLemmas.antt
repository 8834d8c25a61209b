-- What joining two slots does to rows of slots.
use Rattle.std.proofs.Common.{◌≡◌, ◌≢◌, ℕ, ◌<◌, ◌^◌, Bool, true, false, cond, eqb, List, [], ◌∷◌, ◌++◌, length, refl, sym, ap, subst, ◌∙◌, arith}
use Rattle.std.specs.List.{AllByRecursion}
use Rattle.std.proofs.lemmas.List.{get_or-set_same, get_or-set_other, length-set, append-nil}
use Rattle.std.proofs.lemmas.Bool.{eqb-true}
use Rattle.srs_front.specs.declared.links.LinkPlace.{LinkPlace}
use Rattle.srs_front.specs.declared.links.LinkPlace.TheVariants.{Next, Prev, First, Final}
use Rattle.srs_front.specs.declared.links.TheConstants.{NO_SLOT}
use Rattle.srs_front.specs.Numbers.{Numbers, HasPlace, number_at, with_number, place_behind, place_ahead, behind, ahead, IsEnd, AreJoined, joined, spliced_out, spliced_in, AreInRow}
use Rattle.srs_front.specs.Walks.{AreSlots}

-- x isn't among the slots
abbrev pub Lacks : ℕ → List ℕ → Type 0
Lacks x slots = AllByRecursion (λ other. x ≢ other) slots

-- one number at a place
same_number : (n : Numbers) (at : LinkPlace) (to : ℕ) → HasPlace n at → number_at (with_number n at to) at ≡ to
same_number n (Next slot) to h = get_or-set_same n.next slot to 0 h
same_number n (Prev slot) to h = get_or-set_same n.prev slot to 0 h
same_number n First to h = refl
same_number n Final to h = refl

other_number : (n : Numbers) (at other : LinkPlace) (to : ℕ) → other ≢ at → number_at (with_number n at to) other ≡ number_at n other
other_number n (Next slot) (Next other) to d = get_or-set_other n.next slot other to 0 (λ e. d (ap Next e))
other_number n (Next slot) (Prev other) to d = refl
other_number n (Next slot) First to d = refl
other_number n (Next slot) Final to d = refl
other_number n (Prev slot) (Next other) to d = refl
other_number n (Prev slot) (Prev other) to d = get_or-set_other n.prev slot other to 0 (λ e. d (ap Prev e))
other_number n (Prev slot) First to d = refl
other_number n (Prev slot) Final to d = refl
other_number n First (Next other) to d = refl
other_number n First (Prev other) to d = refl
other_number n First First to d = absurd (d refl)
other_number n First Final to d = refl
other_number n Final (Next other) to d = refl
other_number n Final (Prev other) to d = refl
other_number n Final First to d = refl
other_number n Final Final to d = absurd (d refl)

still_place : (n : Numbers) (at other : LinkPlace) (to : ℕ) → HasPlace n other → HasPlace (with_number n at to) other
still_place n (Next slot) (Next other) to h = omega (arith, h, length-set n.next slot to)
still_place n (Next slot) (Prev other) to h = h
still_place n (Next slot) First to h = tt
still_place n (Next slot) Final to h = tt
still_place n (Prev slot) (Next other) to h = h
still_place n (Prev slot) (Prev other) to h = omega (arith, h, length-set n.prev slot to)
still_place n (Prev slot) First to h = tt
still_place n (Prev slot) Final to h = tt
still_place n First (Next other) to h = h
still_place n First (Prev other) to h = h
still_place n First First to h = tt
still_place n First Final to h = tt
still_place n Final (Next other) to h = h
still_place n Final (Prev other) to h = h
still_place n Final First to h = tt
still_place n Final Final to h = tt

-- the slot of a place
slot_of : LinkPlace → ℕ
slot_of (Next slot) = slot
slot_of (Prev slot) = slot
slot_of First = NO_SLOT
slot_of Final = NO_SLOT

slot_of-behind : (slot : ℕ) (b : Bool) → eqb slot NO_SLOT ≡ b → slot_of (cond b First (Next slot)) ≡ slot
unfolding slot_of
slot_of-behind slot true e = sym (eqb-true slot NO_SLOT e)
slot_of-behind slot false e = refl

slot_of-ahead : (slot : ℕ) (b : Bool) → eqb slot NO_SLOT ≡ b → slot_of (cond b Final (Prev slot)) ≡ slot
unfolding slot_of
slot_of-ahead slot true e = sym (eqb-true slot NO_SLOT e)
slot_of-ahead slot false e = refl

other_behind : (c a : ℕ) → c ≢ a → place_behind c ≢ place_behind a
other_behind c a d e = d (sym (slot_of-behind c _ refl) ∙ ap slot_of e ∙ slot_of-behind a _ refl)

other_ahead : (c a : ℕ) → c ≢ a → place_ahead c ≢ place_ahead a
other_ahead c a d e = d (sym (slot_of-ahead c _ refl) ∙ ap slot_of e ∙ slot_of-ahead a _ refl)

sides_by : (a b : ℕ) (x y : Bool) → cond x First (Next a) ≢ cond y Final (Prev b)
sides_by a b true true e = cc
sides_by a b true false e = cc
sides_by a b false true e = cc
sides_by a b false false e = cc

sides_differ : (a b : ℕ) → place_behind a ≢ place_ahead b
sides_differ a b = sides_by a b (eqb a NO_SLOT) (eqb b NO_SLOT)

-- what joining a and b changes
module _ (n : Numbers) (a b : ℕ) where
  pub is_behind : IsEnd n a → behind (joined n a b) a ≡ b
  is_behind end = other_number (with_number n (place_behind a) b) (place_ahead b) (place_behind a) a (sides_differ a b) ∙ same_number n (place_behind a) b end.to

  pub is_ahead : IsEnd n b → ahead (joined n a b) b ≡ a
  is_ahead end = same_number (with_number n (place_behind a) b) (place_ahead b) a (still_place n (place_behind a) (place_ahead b) b end.back)

  pub behind_stays : (c : ℕ) → c ≢ a → behind (joined n a b) c ≡ behind n c
  behind_stays c d =
      other_number (with_number n (place_behind a) b) (place_ahead b) (place_behind c) a (sides_differ c b) ∙ other_number n (place_behind a) (place_behind c) b (other_behind c a d)

  pub ahead_stays : (c : ℕ) → c ≢ b → ahead (joined n a b) c ≡ ahead n c
  ahead_stays c d =
      other_number (with_number n (place_behind a) b) (place_ahead b) (place_ahead c) a (other_ahead c b d)
      ∙ other_number n (place_behind a) (place_ahead c) b (λ e. sides_differ a c (sym e))

  pub end_stays : (c : ℕ) → IsEnd n c → IsEnd (joined n a b) c
  end_stays c end = record {
    to = still_place (with_number n (place_behind a) b) (place_ahead b) (place_behind c) a (still_place n (place_behind a) (place_behind c) b end.to);
    back = still_place (with_number n (place_behind a) b) (place_ahead b) (place_ahead c) a (still_place n (place_behind a) (place_ahead c) b end.back);
  }

  pub are_joined : IsEnd n a → IsEnd n b → AreJoined (joined n a b) a b
  are_joined end_a end_b = record { to = is_behind end_a; back = is_ahead end_b }

  -- other slots stay joined
  pub still_joined : (c d : ℕ) → AreJoined n c d → c ≢ a → d ≢ b → AreJoined (joined n a b) c d
  still_joined c d are c_other d_other = record { to = behind_stays c c_other ∙ are.to; back = ahead_stays d d_other ∙ are.back }

  -- a row that a isn't ahead in, and b not behind, stays
  pub row_stays : (c : ℕ) (slots : List ℕ) (d : ℕ) → AreInRow n c slots d → c ≢ a → Lacks a slots → Lacks b slots → d ≢ b → AreInRow (joined n a b) c slots d
  row_stays c [] d row ca la lb db = still_joined c d row ca db
  row_stays c (x ∷ slots) d row ca la lb db =
      (still_joined c x row.0 ca (λ e. lb.0 (sym e)), row_stays x slots d row.1 (λ e. la.0 (sym e)) la.1 lb.1 db)

-- the numbers stay as many
next-length : (n : Numbers) (at : LinkPlace) (to : ℕ) → length (with_number n at to).next ≡ length n.next
next-length n (Next slot) to = length-set n.next slot to
next-length n (Prev slot) to = refl
next-length n First to = refl
next-length n Final to = refl

prev-length : (n : Numbers) (at : LinkPlace) (to : ℕ) → length (with_number n at to).prev ≡ length n.prev
prev-length n (Next slot) to = refl
prev-length n (Prev slot) to = length-set n.prev slot to
prev-length n First to = refl
prev-length n Final to = refl

pub nexts_stay : (n : Numbers) (a b : ℕ) → length (joined n a b).next ≡ length n.next
nexts_stay n a b = next-length (with_number n (place_behind a) b) (place_ahead b) a ∙ next-length n (place_behind a) b

pub prevs_stay : (n : Numbers) (a b : ℕ) → length (joined n a b).prev ≡ length n.prev
prevs_stay n a b = prev-length (with_number n (place_behind a) b) (place_ahead b) a ∙ prev-length n (place_behind a) b

-- two rows, one after the other
pub rows_together : (n : Numbers) (a : ℕ) (slots : List ℕ) (b : ℕ) (others : List ℕ) (c : ℕ) → AreInRow n a slots b → AreInRow n b others c → AreInRow n a (slots ++ b ∷ others) c
rows_together n a [] b others c front back = (front, back)
rows_together n a (x ∷ slots) b others c front back = (front.0, rows_together n x slots b others c front.1 back)

pub rows_apart : (n : Numbers) (a : ℕ) (slots : List ℕ) (b : ℕ) (others : List ℕ) (c : ℕ) → AreInRow n a (slots ++ b ∷ others) c → AreInRow n a slots b × AreInRow n b others c
rows_apart n a [] b others c row = (row.0, row.1)
rows_apart n a (x ∷ slots) b others c row = let r = rows_apart n x slots b others c row.1 in ((row.0, r.0), r.1)

-- the slot ahead of the end of a row is none of those that aren't in it
pub lacks_ahead : (n : Numbers) (a : ℕ) (slots : List ℕ) (b : ℕ) (others : List ℕ) → AreInRow n a slots b → Lacks a others → AllByRecursion (λ x. Lacks x others) slots → Lacks (ahead n b) others
lacks_ahead n a [] b others row la apart = subst (λ (x : ℕ). Lacks x others) (sym row.back) la
lacks_ahead n a (x ∷ slots) b others row la apart = lacks_ahead n x slots b others row.1 apart.0 apart.1

-- the ends of a row have their numbers
pub end_ahead : (n : Numbers) (a : ℕ) (slots : List ℕ) (b : ℕ) → AreInRow n a slots b → IsEnd n a → AllByRecursion (IsEnd n) slots → IsEnd n (ahead n b)
end_ahead n a [] b row end ends = subst (IsEnd n) (sym row.back) end
end_ahead n a (x ∷ slots) b row end ends = end_ahead n x slots b row.1 ends.0 ends.1

pub end_behind : (n : Numbers) (a : ℕ) (slots : List ℕ) (b : ℕ) → AreInRow n a slots b → IsEnd n b → AllByRecursion (IsEnd n) slots → IsEnd n (behind n a)
end_behind n a [] b row end ends = subst (IsEnd n) (sym row.to) end
end_behind n a (x ∷ slots) b row end ends = subst (IsEnd n) (sym row.0.to) ends.0

-- a row ends at q, after q was joined with what was ahead of its end
pub row_to : (n : Numbers) (k : ℕ) (a : ℕ) (slots : List ℕ) (s q : ℕ) → AreInRow n a slots s → Lacks a slots → AreSlots k slots → Lacks q slots → IsEnd n (ahead n s) → IsEnd n q
    → AreInRow (joined n (ahead n s) q) a slots q
row_to n k a [] s q row la differ lq end_p end_q = record {
  to = ap (behind (joined n (ahead n s) q)) (sym row.back) ∙ is_behind n (ahead n s) q end_p;
  back = is_ahead n (ahead n s) q end_q ∙ row.back;
}
row_to n k a (x ∷ slots) s q row la differ lq end_p end_q =
    let other = lacks_ahead n x slots s (a ∷ []) row.1 ((λ e. la.0 (sym e)), tt) (flip a slots la.1) in
    (still_joined n (ahead n s) q a x row.0 (λ e. other.0 (sym e)) (λ e. lq.0 (sym e)), row_to n k x slots s q row.1 differ.1 differ.2 lq.1 end_p end_q)
  where
    flip : (a : ℕ) (slots : List ℕ) → Lacks a slots → AllByRecursion (λ x. Lacks x (a ∷ [])) slots
    flip a [] l = tt
    flip a (y ∷ slots) l = (((λ e. l.0 (sym e)), tt), flip a slots l.1)

-- parts of lists of slots
pub lacks_parts : (x : ℕ) (slots others : List ℕ) → Lacks x (slots ++ others) → Lacks x slots × Lacks x others
lacks_parts x [] others l = (tt, l)
lacks_parts x (y ∷ slots) others l = let r = lacks_parts x slots others l.1 in ((l.0, r.0), r.1)

pub lacks_both : (x : ℕ) (slots others : List ℕ) → Lacks x slots → Lacks x others → Lacks x (slots ++ others)
lacks_both x [] others l m = m
lacks_both x (y ∷ slots) others l m = (l.0, lacks_both x slots others l.1 m)

-- none is no slot
pub none_apart : (k : ℕ) (slots : List ℕ) → AreSlots k slots → k < 2 ^ 63 → Lacks NO_SLOT slots
none_apart k [] are small = tt
none_apart k (x ∷ slots) are small = ((λ e. let lt : x < k = are.0 in absurd (omega (arith, e, lt, small))), none_apart k slots are.2 small)

-- two parts of slots that differ
pub slots_apart : (k : ℕ) (slots others : List ℕ) → AreSlots k (slots ++ others) → AreSlots k slots × AreSlots k others × AllByRecursion (λ x. Lacks x others) slots
slots_apart k [] others are = (tt, are, tt)
slots_apart k (x ∷ slots) others are =
    let r = slots_apart k slots others are.2 in
    let l = lacks_parts x slots others are.1 in
    ((are.0, l.0, r.0), r.1, (l.1, r.2))

-- a slot in the middle, and the others
pub slot_out : (k : ℕ) (slots : List ℕ) (s : ℕ) (others : List ℕ) → AreSlots k (slots ++ s ∷ others) → (s < k) × Lacks s (slots ++ others) × AreSlots k (slots ++ others)
slot_out k [] s others are = (are.0, are.1, are.2)
slot_out k (x ∷ slots) s others are =
    let r = slot_out k slots s others are.2 in
    let l = lacks_parts x slots (s ∷ others) are.1 in
    (r.0, ((λ e. l.1.0 (sym e)), r.1), (are.0, lacks_both x slots others l.0 l.1.1, r.2))

pub slot_in : (k : ℕ) (slots : List ℕ) (s : ℕ) (others : List ℕ) → s < k → Lacks s (slots ++ others) → AreSlots k (slots ++ others) → AreSlots k (slots ++ s ∷ others)
slot_in k [] s others lt l are = (lt, l, are)
slot_in k (x ∷ slots) s others lt l are =
    let m = lacks_parts x slots others are.1 in
    (are.0, lacks_both x slots (s ∷ others) m.0 ((λ e. l.0 (sym e)), m.1), slot_in k slots s others lt l.1 are.2)

-- a row without one of its slots
pub row_without : (n : Numbers) (k : ℕ) (slots : List ℕ) (s : ℕ) (others : List ℕ) → AreInRow n NO_SLOT (slots ++ s ∷ others) NO_SLOT → AreSlots k (slots ++ s ∷ others) → k < 2 ^ 63
    → IsEnd n (ahead n s) → IsEnd n (behind n s) → AreInRow (spliced_out n s) NO_SLOT (slots ++ others) NO_SLOT
row_without n k slots s [] row are small end_a end_b =
    let parts = rows_apart n NO_SLOT slots s [] NO_SLOT row in
    let kinds = slots_apart k slots (s ∷ []) are in
    let none = none_apart k slots kinds.0 small in
    let to_end : behind n s ≡ NO_SLOT = parts.1.to in
    let made : AreInRow (spliced_out n s) NO_SLOT slots (behind n s)
    = row_to n k NO_SLOT slots s (behind n s) parts.0 none kinds.0 (subst (λ (x : ℕ). Lacks x slots) (sym to_end) none) end_a end_b in
    subst (λ (xs : List ℕ). AreInRow (spliced_out n s) NO_SLOT xs NO_SLOT) (sym (append-nil slots)) (subst (AreInRow (spliced_out n s) NO_SLOT slots) to_end made)
row_without n k slots s (y ∷ others) row are small end_a end_b =
    let parts = rows_apart n NO_SLOT slots s (y ∷ others) NO_SLOT row in
    let out = slot_out k slots s (y ∷ others) are in
    let kinds = slots_apart k slots (y ∷ others) out.2 in
    let none = none_apart k slots kinds.0 small in
    let none_behind = none_apart k (y ∷ others) kinds.1 small in
    let to_y : behind n s ≡ y = parts.1.0.to in
    let away : Lacks y slots = lacks_from y others slots kinds.2 in
    let front : AreInRow (spliced_out n s) NO_SLOT slots (behind n s)
    = row_to n k NO_SLOT slots s (behind n s) parts.0 none kinds.0 (subst (λ (x : ℕ). Lacks x slots) (sym to_y) away) end_a end_b in
    let far : Lacks (ahead n s) (y ∷ others) = lacks_ahead n NO_SLOT slots s (y ∷ others) parts.0 none_behind kinds.2 in
    let back : AreInRow (spliced_out n s) y others NO_SLOT
    = row_stays n (ahead n s) (behind n s) y others NO_SLOT parts.1.1 (λ e. far.0 (sym e)) far.1 (subst (λ (x : ℕ). Lacks x others) (sym to_y) kinds.1.1) (λ e. none_behind.0 (e ∙ to_y)) in
    rows_together (spliced_out n s) NO_SLOT slots y others NO_SLOT (subst (AreInRow (spliced_out n s) NO_SLOT slots) to_y front) back
  where
    lacks_from : (y : ℕ) (others slots : List ℕ) → AllByRecursion (λ x. Lacks x (y ∷ others)) slots → Lacks y slots
    lacks_from y others [] apart = tt
    lacks_from y others (x ∷ slots) apart = ((λ e. apart.0.0 (sym e)), lacks_from y others slots apart.1)

-- a row with one more slot at its end
pub row_push : (n : Numbers) (k : ℕ) (slots : List ℕ) (s : ℕ) → AreInRow n NO_SLOT slots NO_SLOT → AreSlots k slots → k < 2 ^ 63 → s < k → Lacks s slots
    → IsEnd n (ahead n NO_SLOT) → IsEnd n s → IsEnd n NO_SLOT → AreInRow (spliced_in n s (ahead n NO_SLOT) NO_SLOT) NO_SLOT (slots ++ s ∷ []) NO_SLOT
row_push n k slots s row are small lt other end_a end_s end_none =
    let none = none_apart k slots are small in
    let some : s ≢ NO_SLOT = λ e. absurd (omega (arith, e, lt, small)) in
    let m : Numbers = joined n (ahead n NO_SLOT) s in
    let front : AreInRow m NO_SLOT slots s = row_to n k NO_SLOT slots NO_SLOT s row none are other end_a end_s in
    let kept = row_stays m s NO_SLOT NO_SLOT slots s front (λ e. some (sym e)) other none some in
    rows_together (joined m s NO_SLOT) NO_SLOT slots s [] NO_SLOT kept (are_joined m s NO_SLOT (end_stays n (ahead n NO_SLOT) s s end_s) (end_stays n (ahead n NO_SLOT) s NO_SLOT end_none))

-- a row with one more slot at its head
pub row_first : (n : Numbers) (k : ℕ) (slots : List ℕ) (s : ℕ) → AreInRow n NO_SLOT slots NO_SLOT → AreSlots k slots → k < 2 ^ 63 → s < k → Lacks s slots
    → IsEnd n (behind n NO_SLOT) → IsEnd n s → IsEnd n NO_SLOT → AreInRow (spliced_in n s NO_SLOT (behind n NO_SLOT)) NO_SLOT (s ∷ slots) NO_SLOT
row_first n k [] s row are small lt other end_b end_s end_none =
    let some : s ≢ NO_SLOT = λ e. absurd (omega (arith, e, lt, small)) in
    let m : Numbers = joined n NO_SLOT s in
    let f : ℕ = behind n NO_SLOT in
    let end : IsEnd m f = end_stays n NO_SLOT s f end_b in
    let first : AreJoined (joined m s f) NO_SLOT s
    = still_joined m s f NO_SLOT s (are_joined n NO_SLOT s end_none end_s) (λ e. some (sym e)) (λ e. some (e ∙ row.to)) in
    let then : AreJoined (joined m s f) s f = are_joined m s f (end_stays n NO_SLOT s s end_s) end in
    (first, subst (AreJoined (joined m s f) s) row.to then)
row_first n k (x ∷ slots) s row are small lt other end_b end_s end_none =
    let some : s ≢ NO_SLOT = λ e. absurd (omega (arith, e, lt, small)) in
    let none = none_apart k (x ∷ slots) are small in
    let m : Numbers = joined n NO_SLOT s in
    let f : ℕ = behind n NO_SLOT in
    let is : f ≡ x = row.0.to in
    let end : IsEnd m f = end_stays n NO_SLOT s f end_b in
    let first : AreJoined (joined m s f) NO_SLOT s
    = still_joined m s f NO_SLOT s (are_joined n NO_SLOT s end_none end_s) (λ e. some (sym e)) (λ e. other.0 (e ∙ is)) in
    let then : AreJoined (joined m s f) s f = are_joined m s f (end_stays n NO_SLOT s s end_s) end in
    let kept : AreInRow m x slots NO_SLOT = row_stays n NO_SLOT s x slots NO_SLOT row.1 (λ e. none.0 (sym e)) none.1 other.1 (λ e. some (sym e)) in
    let rest : AreInRow (joined m s f) x slots NO_SLOT
    = row_stays m s f x slots NO_SLOT kept (λ e. other.0 (sym e)) other.1 (subst (λ (y : ℕ). Lacks y slots) (sym is) are.1) (λ e. none.0 (e ∙ is)) in
    (first, (subst (AreJoined (joined m s f) s) is then, rest))
