-- How a set of pairs stays indexed.
use Rattle.std.proofs.Common.{◌≡◌, ◌⊎◌, ◌^◌, negsuc, to_z, of_z, w64, inl, inr, ℕ, ◌*◌, ◌/◌, ◌%◌, ◌<◌, ◌≤◌, ◌+◌, List, [], ◌∷◌, ◌++◌, Bool, true, false, ◌||◌, true≢false, ℤ, pos, neg_ℤ, unsigned_abs, ◌+ℤ◌, ◌≤ℤ◌, ◌<ℤ◌, arith, ap, ap₂, subst, sym, ◌∙◌, refl, append_assoc}
use Rattle.std.specs.Prelude.{if◌then◌else◌, Result, Ok, Err, OnOk, OnErr}
use Rattle.std.proofs.lemmas.Int.{ints}
use Rattle.std.specs.List.Sorted.{IsPermutation}
use Rattle.std.proofs.lemmas.List.Sorted.{list_any-IsPermutation}
use Rattle.std.proofs.lemmas.List.Folds.{list_any-append}
use Rattle.std.proofs.lemmas.Nat.{div-mul-add, mod-mul-add, mul-add-lt}
use Rattle.indexmap.specs.IndexSet.{insert_key}
use Rattle.srs_num.specs.declared.pairs.V2.{V2}
use Rattle.srs_map.specs.Step.{pair, IsNarrow}
use Rattle.srs_path.specs.Core.{pair_eq}
use Rattle.srs_path.proofs.WitnessLemmas.{pair-decides}
use Rattle.srs_wit.specs.Marks.{is_marked, Marks}
use Rattle.srs_wit.proofs.Permuting.{moved_last}
use Rattle.srs_wit.specs.PairSets.{has_pair, IsNear, IsNumber, AreIndexed, number_of}

-- ---- the numbers of near pairs
row_within : (s : ℕ) (a : ℤ) → pos 0 ≤ℤ a → a <ℤ pos s → unsigned_abs a < s
row_within s a h k = omega (arith, ints)

column_within : (s : ℕ) (b : ℤ) → neg_ℤ (pos s) ≤ℤ b → b <ℤ pos s → unsigned_abs (b +ℤ pos s) < 2 * s
column_within s b h k = omega (arith, ints)

pub near_number : (side : ℕ) (v : V2) → IsNear side v → IsNumber side v (number_of side v)
near_number side v h = record {
  near = h;
  is = refl;
  within = mul-add-lt (unsigned_abs v.a) (2 * side) (unsigned_abs (v.b +ℤ pos side)) side (row_within side v.a h.from_a h.below_a) (column_within side v.b h.from_b h.below_b);
}

-- a number whose bits are those of a small one is that number
small_bits : (z : ℤ) (k : ℕ) → unsigned_abs z ≤ 2 ^ 38 → k ≡ of_z w64 z → k < 2 ^ 38 → (pos 0 ≤ℤ z) × (unsigned_abs z ≡ k)
small_bits (pos n) k h e l = (omega (arith, ints), omega (arith, ints))
small_bits (negsuc n) k h e l = absurd (omega (arith, ints))

same_bits : (z : ℤ) (k : ℕ) → unsigned_abs z ≤ 2 ^ 38 → k ≡ of_z w64 (to_z w64 (of_z w64 z)) → k ≡ of_z w64 z
same_bits z k h e = e ∙ ap (of_z w64) (back z h)
  where
    back : (z : ℤ) → unsigned_abs z ≤ 2 ^ 38 → to_z w64 (of_z w64 z) ≡ z
    back z h = omega (arith, ints)

-- entries whose bits are below the side and twice the side
pub near_from_bits : (side : ℕ) (v : V2) (row column : ℕ) → side ≤ 2 ^ 10 → IsNarrow v → row ≡ of_z w64 (to_z w64 (of_z w64 v.a)) → row < side
    → column ≡ of_z w64 (to_z w64 (of_z w64 (to_z w64 (of_z w64 v.b) +ℤ to_z w64 side))) → column < 2 * side → IsNumber side v (row * (2 * side) + column)
near_from_bits side v row column small narrow e h f k =
    let r = small_bits v.a row (omega (arith, narrow.0)) (same_bits v.a row (omega (arith, narrow.0)) e) (omega arith) in
    let shifted = shift side v.b small narrow.1 in
    let z = v.b +ℤ pos side in
    let c = small_bits z column shifted.1 (same_bits z column shifted.1 (f ∙ ap (λ (x : ℤ). of_z w64 (to_z w64 (of_z w64 x))) shifted.0)) (omega arith) in
    subst (IsNumber side v) (ap₂ (λ (x y : ℕ). x * (2 * side) + y) r.1 c.1)
    (near_number side v (record {
      from_a = r.0;
      below_a = below_row side v.a row r.0 r.1 h;
      from_b = from_column side v.b c.0;
      below_b = below_column side v.b column c.0 c.1 k;
    }))
  where
    shift : (s : ℕ) (b : ℤ) → s ≤ 2 ^ 10 → unsigned_abs b ≤ 2 ^ 37 → (to_z w64 (of_z w64 b) +ℤ to_z w64 s ≡ b +ℤ pos s) × (unsigned_abs (b +ℤ pos s) ≤ 2 ^ 38)
    shift s b l h = (omega (arith, ints), omega (arith, ints))

    below_row : (s : ℕ) (a : ℤ) (r : ℕ) → pos 0 ≤ℤ a → unsigned_abs a ≡ r → r < s → a <ℤ pos s
    below_row s a r h e l = omega (arith, ints)

    from_column : (s : ℕ) (b : ℤ) → pos 0 ≤ℤ (b +ℤ pos s) → neg_ℤ (pos s) ≤ℤ b
    from_column s b h = omega (arith, ints)

    below_column : (s : ℕ) (b : ℤ) (c : ℕ) → pos 0 ≤ℤ (b +ℤ pos s) → unsigned_abs (b +ℤ pos s) ≡ c → c < 2 * s → b <ℤ pos s
    below_column s b c h e l = omega (arith, ints)

-- the bits of a near pair
pub near_bits : (side : ℕ) (v : V2) (row column : ℕ) → side ≤ 2 ^ 10 → IsNear side v → row ≡ of_z w64 (to_z w64 (of_z w64 v.a))
    → column ≡ of_z w64 (to_z w64 (of_z w64 (to_z w64 (of_z w64 v.b) +ℤ to_z w64 side))) → IsNumber side v (row * (2 * side) + column)
near_bits side v row column small near e f =
    near_from_bits side v row column small (narrow_a side v.a small near.from_a near.below_a, narrow_b side v.b small near.from_b near.below_b)
    e (row_below side v.a row small near.from_a near.below_a e) f (column_below side v.b column small near.from_b near.below_b f)
  where
    narrow_a : (s : ℕ) (a : ℤ) → s ≤ 2 ^ 10 → pos 0 ≤ℤ a → a <ℤ pos s → unsigned_abs a ≤ 2 ^ 37
    narrow_a s a l h k = omega (arith, ints)

    narrow_b : (s : ℕ) (b : ℤ) → s ≤ 2 ^ 10 → neg_ℤ (pos s) ≤ℤ b → b <ℤ pos s → unsigned_abs b ≤ 2 ^ 37
    narrow_b s b l h k = omega (arith, ints)

    row_below : (s : ℕ) (a : ℤ) (r : ℕ) → s ≤ 2 ^ 10 → pos 0 ≤ℤ a → a <ℤ pos s → r ≡ of_z w64 (to_z w64 (of_z w64 a)) → r < s
    row_below s a r l h k e = omega (arith, ints)

    column_below : (s : ℕ) (b : ℤ) (c : ℕ) → s ≤ 2 ^ 10 → neg_ℤ (pos s) ≤ℤ b → b <ℤ pos s → c ≡ of_z w64 (to_z w64 (of_z w64 (to_z w64 (of_z w64 b) +ℤ to_z w64 s))) → c < 2 * s
    column_below s b c l h k e = omega (arith, ints)

-- near pairs with one number are one pair
one_number : (side : ℕ) (v u : V2) → IsNear side v → IsNear side u → number_of side v ≡ number_of side u → v ≡ u
one_number side v u h k e =
    let w = 2 * side in
    let bv = column_within side v.b h.from_b h.below_b in
    let bu = column_within side u.b k.from_b k.below_b in
    ap₂ pair
    (same_a v.a u.a h.from_a k.from_a (sym (div-mul-add (unsigned_abs v.a) w (unsigned_abs (v.b +ℤ pos side)) bv) ∙ ap (λ (x : ℕ). x / w) e ∙ div-mul-add (unsigned_abs u.a) w (unsigned_abs (u.b +ℤ pos side)) bu))
    (same_b side v.b u.b h.from_b k.from_b (sym (mod-mul-add (unsigned_abs v.a) w (unsigned_abs (v.b +ℤ pos side)) bv) ∙ ap (λ (x : ℕ). x % w) e ∙ mod-mul-add (unsigned_abs u.a) w (unsigned_abs (u.b +ℤ pos side)) bu))
  where
    same_a : (x y : ℤ) → pos 0 ≤ℤ x → pos 0 ≤ℤ y → unsigned_abs x ≡ unsigned_abs y → x ≡ y
    same_a x y h k e = omega (arith, ints)

    same_b : (s : ℕ) (x y : ℤ) → neg_ℤ (pos s) ≤ℤ x → neg_ℤ (pos s) ≤ℤ y → unsigned_abs (x +ℤ pos s) ≡ unsigned_abs (y +ℤ pos s) → x ≡ y
    same_b s x y h k e = omega (arith, ints)

-- ---- what one more pair makes of the look-up
same_or_not : (v u : V2) → (v ≡ u) ⊎ (v ≡ u → ⊥)
same_or_not v u = by_test (pair_eq v u) refl
  where
    by_test : (b : Bool) → pair_eq v u ≡ b → (v ≡ u) ⊎ (v ≡ u → ⊥)
    by_test true e = inl ((pair-decides v u).0 e)
    by_test false e = inr (λ q. true≢false (sym ((pair-decides v u).1 q) ∙ e))

has_last : (vs : List V2) (u : V2) → has_pair (vs ++ u ∷ []) u ≡ true
has_last vs u = list_any-append (pair_eq u) vs (u ∷ []) ∙ ap (λ (b : Bool). has_pair vs u || (b || false)) ((pair-decides u u).1 refl) ∙ or_true (has_pair vs u)
  where
    or_true : (b : Bool) → (b || true) ≡ true
    or_true true = refl
    or_true false = refl

has_other : (vs : List V2) (u v : V2) → (v ≡ u → ⊥) → has_pair (vs ++ u ∷ []) v ≡ has_pair vs v
has_other vs u v ne = list_any-append (pair_eq v) vs (u ∷ []) ∙ by_test (pair_eq v u) refl
  where
    or_false : (b : Bool) → (b || false) ≡ b
    or_false true = refl
    or_false false = refl

    by_test : (b : Bool) → pair_eq v u ≡ b → (has_pair vs v || (pair_eq v u || false)) ≡ has_pair vs v
    by_test true e = absurd (ne ((pair-decides v u).0 e))
    by_test false e = ap (λ (x : Bool). has_pair vs v || (x || false)) e ∙ or_false (has_pair vs v)

module _ (side : ℕ) (vs : List V2) (words : List ℕ) (far : List V2) (u : V2) (x : AreIndexed side vs words far) where
  -- a near pair more
  pub indexed_near : (n : ℕ) (new : List ℕ) → IsNumber side u n → Marks words n new → AreIndexed side (vs ++ u ∷ []) new far
  indexed_near n new num m = record {
    bounded = x.bounded;
    room = omega (arith, x.room, m.size);
    near = λ v h. elim (same_or_not v u) [
      | inl q ↦ subst (λ (y : V2). has_pair (vs ++ u ∷ []) y ≡ is_marked new (number_of side y)) (sym q) (has_last vs u ∙ sym m.here ∙ ap (is_marked new) num.is)
      | inr ne ↦ has_other vs u v ne ∙ x.near v h ∙ sym (m.others (number_of side v) (λ e. ne (one_number side v u h num.near (e ∙ num.is))))
    ];
    apart = λ v h. has_other vs u v (λ q. h (subst (IsNear side) (sym q) num.near)) ∙ x.apart v h;
  }

  module _ (away : IsNear side u → ⊥) where
    -- a pair far away more
    indexed_more : AreIndexed side (vs ++ u ∷ []) words (far ++ u ∷ [])
    indexed_more = record {
      bounded = x.bounded;
      room = x.room;
      near = λ v h. has_other vs u v (λ q. away (subst (IsNear side) q h)) ∙ x.near v h;
      apart = λ v h. elim (same_or_not v u) [
        | inl q ↦ subst (λ (y : V2). has_pair (vs ++ u ∷ []) y ≡ has_pair (far ++ u ∷ []) y) (sym q) (has_last vs u ∙ sym (has_last far u))
        | inr ne ↦ has_other vs u v ne ∙ x.apart v h ∙ sym (has_other far u v ne)
      ];
    }

    both : (ws more : List V2) → ws ≡ vs → more ≡ far → AreIndexed side ws words more
    both ws more e f = subst (λ (y : List V2). AreIndexed side y words more) (sym e) (subst (λ (y : List V2). AreIndexed side vs words y) (sym f) x)

    pub indexed_far : {O E : Type 0} (r : Result O E) (ws more : List V2)
        → OnOk r (more ≡ insert_key pair_eq far u) → OnOk r (ws ≡ (if has_pair far u then vs else vs ++ u ∷ []))
        → OnErr r (more ≡ far) → OnErr r (ws ≡ vs) → AreIndexed side ws words more
    indexed_far (Err y) ws more f e g h = both ws more h g
    indexed_far (Ok x) ws more f e g h = by_test (has_pair far u) refl
      where
        by_test : (b : Bool) → has_pair far u ≡ b → AreIndexed side ws words more
        by_test true t =
            both ws more (e ∙ ap (λ (z : Bool). if z then vs else vs ++ u ∷ []) t) (f ∙ ap (λ (z : Bool). if z then far else far ++ u ∷ []) t)
        by_test false t =
            let p : ws ≡ vs ++ u ∷ [] = e ∙ ap (λ (z : Bool). if z then vs else vs ++ u ∷ []) t in
            let q : more ≡ far ++ u ∷ [] = f ∙ ap (λ (z : Bool). if z then far else far ++ u ∷ []) t in
            subst (λ (y : List V2). AreIndexed side y words more) (sym p) (subst (λ (y : List V2). AreIndexed side (vs ++ u ∷ []) words y) (sym q) indexed_more)

-- ---- the pairs are those that were followed and those that wait
push_over : (followed waiting : List V2) (u : V2) (b : Bool) → followed ++ (if b then waiting else waiting ++ u ∷ []) ≡ (if b then followed ++ waiting else (followed ++ waiting) ++ u ∷ [])
push_over followed waiting u true = refl
push_over followed waiting u false = sym (append_assoc followed waiting (u ∷ []))

module _ (side : ℕ) (followed waiting : List V2) (words : List ℕ) (far : List V2) (u : V2) (x : AreIndexed side (followed ++ waiting) words far) where
  pub waits_near : (n : ℕ) (new : List ℕ) → IsNumber side u n → Marks words n new → AreIndexed side (followed ++ (waiting ++ u ∷ [])) new far
  waits_near n new num m =
      subst (λ (y : List V2). AreIndexed side y new far) (append_assoc followed waiting (u ∷ []))
      (indexed_near side (followed ++ waiting) words far u x n new num m)

  module _ (away : IsNear side u → ⊥) {O E : Type 0} where
    pub waits_far : (r : Result O E) (wait more : List V2)
        → OnOk r (more ≡ insert_key pair_eq far u) → OnOk r (wait ≡ (if has_pair far u then waiting else waiting ++ u ∷ []))
        → OnErr r (more ≡ far) → OnErr r (wait ≡ waiting) → AreIndexed side (followed ++ wait) words more
    waits_far (Err y) wait more f e g h = indexed_far side (followed ++ waiting) words far u x away {O = O} {E = E} (Err y) (followed ++ wait) more f e g (ap (λ (z : List V2). followed ++ z) h)
    waits_far (Ok y) wait more f e g h =
        indexed_far side (followed ++ waiting) words far u x away {O = O} {E = E} (Ok y) (followed ++ wait) more f
        (ap (λ (z : List V2). followed ++ z) e ∙ push_over followed waiting u (has_pair far u)) g h

-- the marks stay where the pair that waited last is followed
pub indexed_next : (side : ℕ) (followed waiting new rest : List V2) (words : List ℕ) (far : List V2) (w : V2) → waiting ≡ rest ++ w ∷ [] → new ≡ followed ++ w ∷ []
    → AreIndexed side (followed ++ waiting) words far → AreIndexed side (new ++ rest) words far
indexed_next side followed waiting new rest words far w e f x =
    let p : IsPermutation (followed ++ waiting) (new ++ rest) =
    subst (λ (y : List V2). IsPermutation (followed ++ y) (new ++ rest)) (sym e) (subst (λ (y : List V2). IsPermutation (followed ++ (rest ++ w ∷ [])) (y ++ rest)) (sym f) (moved_last followed rest w)) in
    record {
      bounded = x.bounded;
      room = x.room;
      near = λ v h. sym (list_any-IsPermutation (pair_eq v) (followed ++ waiting) (new ++ rest) p) ∙ x.near v h;
      apart = λ v h. sym (list_any-IsPermutation (pair_eq v) (followed ++ waiting) (new ++ rest) p) ∙ x.apart v h;
    }
