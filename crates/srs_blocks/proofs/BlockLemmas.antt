-- Lists in blocks of 64: where an item stands, and what a write does.
use Rattle.std.proofs.Common.{◌≡◌, ◌≢◌, ℕ, zero, suc, ◌+◌, ◌*◌, ◌/◌, ◌%◌, ◌^◌, ◌≤◌, ◌<◌, List, [], ◌∷◌, ◌++◌, length, length-append, take, drop, get_or, slice_get, refl, sym, ap, ap₂, subst, ◌∙◌, arith, append_assoc, append-nil, Some, None}
use Rattle.std.specs.Prelude.{slice_set}
use Rattle.std.proofs.Math.Nat.{div-add-mod, mod-lt}
use Rattle.std.proofs.Math.Seq.{take-set-lt}
use Rattle.std.proofs.lemmas.Option.{get_or_from_slice_get}
use Rattle.std.proofs.lemmas.List.{get_or_past, get_or_default, length-take-le}
use Rattle.srs_blocks.specs.Blocks.{joined, written, block_at, written_below, AreEven, items_of, AreRows, written_in, IsWritable}

module _ {X : Type 0} where
  -- a write behind the last item is an append
  pub written_end : (xs : List X) (i : ℕ) (x : X) → i ≡ length xs → written xs i x ≡ xs ++ x ∷ []
  written_end [] i x e = refl
  written_end (y ∷ ys) zero x e = absurd (omega (arith, e))
  written_end (y ∷ ys) (suc i) x e = ap (λ (zs : List X). y ∷ zs) (written_end ys i x (omega (arith, e)))

  -- any other write is one in place
  pub written_within : (xs : List X) (i : ℕ) (x : X) → i < length xs → written xs i x ≡ slice_set xs i x
  written_within [] i x l = absurd (omega (arith, l))
  written_within (y ∷ ys) zero x l = refl
  written_within (y ∷ ys) (suc i) x l = ap (λ (zs : List X). y ∷ zs) (written_within ys i x (omega (arith, l)))

  pub length-written : (xs : List X) (i : ℕ) (x : X) → i < length xs → length (written xs i x) ≡ length xs
  length-written [] i x l = absurd (omega (arith, l))
  length-written (y ∷ ys) zero x l = refl
  length-written (y ∷ ys) (suc i) x l = ap suc (length-written ys i x (omega (arith, l)))

  pub written_few : (n : ℕ) (xs : List X) (i : ℕ) (x : X) → length xs ≤ n → i < n → length (written xs i x) ≤ n
  written_few n [] i x l m = omega (arith, l, m)
  written_few n (y ∷ ys) zero x l m = l
  written_few zero (y ∷ ys) (suc i) x l m = absurd (omega (arith, m))
  written_few (suc n) (y ∷ ys) (suc i) x l m = let t = written_few n ys i x (omega (arith, l)) (omega (arith, m)) in omega (arith, t)

  written_left : (xs ys : List X) (i : ℕ) (x : X) → i < length xs → written (xs ++ ys) i x ≡ written xs i x ++ ys
  written_left [] ys i x l = absurd (omega (arith, l))
  written_left (z ∷ zs) ys zero x l = refl
  written_left (z ∷ zs) ys (suc i) x l = ap (λ (u : List X). z ∷ u) (written_left zs ys i x (omega (arith, l)))

  written_right : (xs ys : List X) (i j : ℕ) (x : X) → i ≡ length xs + j → written (xs ++ ys) i x ≡ xs ++ written ys j x
  written_right [] ys i j x e = ap (λ (n : ℕ). written ys n x) (omega (arith, e))
  written_right (z ∷ zs) ys zero j x e = absurd (omega (arith, e))
  written_right (z ∷ zs) ys (suc i) j x e = ap (λ (u : List X). z ∷ u) (written_right zs ys i j x (omega (arith, e)))

  get_left : (xs ys : List X) (i : ℕ) → i < length xs → slice_get (xs ++ ys) i ≡ slice_get xs i
  get_left [] ys i l = absurd (omega (arith, l))
  get_left (z ∷ zs) ys zero l = refl
  get_left (z ∷ zs) ys (suc i) l = get_left zs ys i (omega (arith, l))

  get_right : (xs ys : List X) (i j : ℕ) → i ≡ length xs + j → slice_get (xs ++ ys) i ≡ slice_get ys j
  get_right [] ys i j e = ap (slice_get ys) (omega (arith, e))
  get_right (z ∷ zs) ys zero j e = absurd (omega (arith, e))
  get_right (z ∷ zs) ys (suc i) j e = get_right zs ys i j (omega (arith, e))

  or_left : (xs ys : List X) (i : ℕ) (d : X) → i < length xs → get_or (xs ++ ys) i d ≡ get_or xs i d
  or_left [] ys i d l = absurd (omega (arith, l))
  or_left (z ∷ zs) ys zero d l = refl
  or_left (z ∷ zs) ys (suc i) d l = or_left zs ys i d (omega (arith, l))

  or_right : (xs ys : List X) (i j : ℕ) (d : X) → i ≡ length xs + j → get_or (xs ++ ys) i d ≡ get_or ys j d
  or_right [] ys i j d e = ap (λ (n : ℕ). get_or ys n d) (omega (arith, e))
  or_right (z ∷ zs) ys zero j d e = absurd (omega (arith, e))
  or_right (z ∷ zs) ys (suc i) j d e = or_right zs ys i j d (omega (arith, e))

  pub get_taken : (xs : List X) (n i : ℕ) → i < n → slice_get (take n xs) i ≡ slice_get xs i
  get_taken xs zero i l = absurd (omega (arith, l))
  get_taken [] (suc n) i l = refl
  get_taken (x ∷ xs) (suc n) zero l = refl
  get_taken (x ∷ xs) (suc n) (suc i) l = get_taken xs n i (omega (arith, l))

  -- a list that doesn't end the lists has 64 items, and so has one that ends before the place i
  is_full : (xs : List X) (xss : List (List X)) (q r i : ℕ) → AreEven (xs ∷ xss) → i ≡ 64 * suc q + r → i ≤ length (xs ++ joined xss) → length xs ≡ 64
  is_full xs [] q r i even e l = let few = even.0 in omega (arith, few, e, l, length-append xs [])
  is_full xs (ys ∷ yss) q r i even e l = even.1 (omega arith)

  rest_of : (xs : List X) (ys : List X) (q r i : ℕ) → length xs ≡ 64 → i ≡ 64 * suc q + r → i ≤ length (xs ++ ys) → 64 * q + r ≤ length ys
  rest_of xs ys q r i full e l = omega (arith, full, e, l, length-append xs ys)

  -- a block has room for each place to which the list reaches
  pub within_block : (xss : List (List X)) (q r i : ℕ) → AreEven xss → r < 64 → i ≡ 64 * q + r → i ≤ length (joined xss) → (q ≤ length xss) × (r ≤ length (block_at xss q))
  within_block [] zero r i even m e l = (omega arith, omega (arith, e, l))
  within_block [] (suc q) r i even m e l = absurd (omega (arith, e, l))
  within_block (xs ∷ []) zero r i even m e l = (omega arith, omega (arith, e, l, length-append xs []))
  within_block (xs ∷ ys ∷ yss) zero r i even m e l = let full = even.1 (omega arith) in (omega arith, omega (arith, full, m))
  within_block (xs ∷ xss) (suc q) r i even m e l =
      let full = is_full xs xss q r i even e l in
      let t = within_block xss q r (64 * q + r) even.2 m refl (rest_of xs (joined xss) q r i full e l) in
      let a = t.0 in
      (omega (arith, a), t.1)

  -- an item of the list stands in its block
  pub block_get : (xss : List (List X)) (q r i : ℕ) → AreEven xss → r < 64 → i ≡ 64 * q + r → i < length (joined xss)
      → (q < length xss) × (r < length (block_at xss q)) × (slice_get (block_at xss q) r ≡ slice_get (joined xss) i)
  block_get [] q r i even m e l = absurd (omega (arith, l))
  block_get (xs ∷ []) zero r i even m e l =
      let n : r ≡ i = omega (arith, e) in
      (omega arith, omega (arith, e, l, length-append xs []), ap (slice_get xs) n ∙ ap (λ (u : List X). slice_get u i) (sym (append-nil xs)))
  block_get (xs ∷ ys ∷ yss) zero r i even m e l =
      let full = even.1 (omega arith) in
      let n : r ≡ i = omega (arith, e) in
      (omega arith, omega (arith, full, m), ap (slice_get xs) n ∙ sym (get_left xs (joined (ys ∷ yss)) i (omega (arith, full, m, e))))
  block_get (xs ∷ xss) (suc q) r i even m e l =
      let full = is_full xs xss q r i even e (omega (arith, l)) in
      let t = block_get xss q r (64 * q + r) even.2 m refl (omega (arith, full, e, l, length-append xs (joined xss))) in
      let a = t.0 in
      (omega (arith, a), t.1, t.2 ∙ sym (get_right xs (joined xss) i (64 * q + r) (omega (arith, full, e))))

  -- the same, also behind the last item
  pub block_or : (xss : List (List X)) (q r i : ℕ) (d : X) → AreEven xss → r < 64 → i ≡ 64 * q + r → i ≤ length (joined xss) → get_or (block_at xss q) r d ≡ get_or (joined xss) i d
  block_or [] zero r i d even m e l = refl
  block_or [] (suc q) r i d even m e l = absurd (omega (arith, e, l))
  block_or (xs ∷ []) zero r i d even m e l =
      let n : r ≡ i = omega (arith, e) in
      ap₂ (λ (u : List X) (k : ℕ). get_or u k d) (sym (append-nil xs)) n
  block_or (xs ∷ ys ∷ yss) zero r i d even m e l =
      let full = even.1 (omega arith) in
      let n : r ≡ i = omega (arith, e) in
      ap (λ (k : ℕ). get_or xs k d) n ∙ sym (or_left xs (joined (ys ∷ yss)) i d (omega (arith, full, m, e)))
  block_or (xs ∷ xss) (suc q) r i d even m e l =
      let full = is_full xs xss q r i even e l in
      block_or xss q r (64 * q + r) d even.2 m refl (rest_of xs (joined xss) q r i full e l) ∙ sym (or_right xs (joined xss) i (64 * q + r) d (omega (arith, full, e)))

  -- a write into its block is a write into the list
  pub joined-written : (xss : List (List X)) (q r i : ℕ) (x : X) → AreEven xss → r < 64 → i ≡ 64 * q + r → i ≤ length (joined xss)
      → joined (written xss q (written (block_at xss q) r x)) ≡ written (joined xss) i x
  joined-written [] zero r i x even m e l = refl
  joined-written [] (suc q) r i x even m e l = absurd (omega (arith, e, l))
  joined-written (xs ∷ []) zero r i x even m e l =
      let n : r ≡ i = omega (arith, e) in
      append-nil (written xs r x) ∙ ap (written xs r) refl ∙ ap₂ (λ (u : List X) (k : ℕ). written u k x) (sym (append-nil xs)) n
  joined-written (xs ∷ ys ∷ yss) zero r i x even m e l =
      let full = even.1 (omega arith) in
      let n : r ≡ i = omega (arith, e) in
      sym (written_left xs (joined (ys ∷ yss)) r x (omega (arith, full, m))) ∙ ap (λ (k : ℕ). written (xs ++ joined (ys ∷ yss)) k x) n
  joined-written (xs ∷ xss) (suc q) r i x even m e l =
      let full = is_full xs xss q r i even e l in
      ap (λ (u : List X). xs ++ u) (joined-written xss q r (64 * q + r) x even.2 m refl (rest_of xs (joined xss) q r i full e l))
      ∙ sym (written_right xs (joined xss) i (64 * q + r) x (omega (arith, full, e)))

  -- the blocks stay even
  pub even-written : (xss : List (List X)) (q r i : ℕ) (x : X) → AreEven xss → r < 64 → i ≡ 64 * q + r → i ≤ length (joined xss)
      → AreEven (written xss q (written (block_at xss q) r x))
  even-written [] q r i x even m e l = (omega arith, λ n. absurd (omega (arith, n)), tt)
  even-written (xs ∷ []) zero r i x even m e l = (written_few 64 xs r x even.0 m, λ n. absurd (omega (arith, n)), tt)
  even-written (xs ∷ ys ∷ yss) zero r i x even m e l =
      let full = even.1 (omega arith) in
      (written_few 64 xs r x even.0 m, λ n. length-written xs r x (omega (arith, full, m)) ∙ full, even.2)
  even-written (xs ∷ xss) (suc q) r i x even m e l =
      let full = is_full xs xss q r i even e l in
      (even.0, λ n. full, even-written xss q r (64 * q + r) x even.2 m refl (rest_of xs (joined xss) q r i full e l))

-- writes, as the code makes them
module _ {X : Type 0} where
  past : (xss : List (List X)) (q : ℕ) → q ≡ length xss → block_at xss q ≡ []
  past xss q e = get_or_past xss q [] (omega (arith, e))

  -- a new block at the end
  pub block_new : (xss after : List (List X)) (q i : ℕ) (x : X) (b : List X) → q ≡ length xss → b ≡ x ∷ [] → after ≡ xss ++ b ∷ [] → after ≡ written_below xss q i x
  block_new xss after q i x b e one is =
      is ∙ ap (λ (u : List X). xss ++ u ∷ []) one ∙ sym (written_end xss q (x ∷ []) e)
      ∙ ap (λ (u : List X). written xss q (written u i x)) (sym (past xss q e))

  -- a block that changes
  pub block_changed : (xss : List (List X)) (q i : ℕ) (x : X) (old new : List X) → q < length xss → old ≡ get_or xss q old → new ≡ written old i x → slice_set xss q new ≡ written_below xss q i x
  block_changed xss q i x old new l read is =
      sym (written_within xss q new l)
      ∙ ap (written xss q) (is ∙ ap (λ (u : List X). written u i x) (read ∙ get_or_default xss q old [] l))

  -- a new row at the end
  pub row_new : (rows after : List (List (List X))) (q p i : ℕ) (x : X) (row : List (List X)) (b : List X) → q ≡ length rows → b ≡ x ∷ [] → row ≡ b ∷ [] → after ≡ rows ++ row ∷ []
      → after ≡ written rows q (written_below (block_at rows q) p i x)
  row_new rows after q p i x row b e one is all =
      all ∙ ap (λ (u : List (List X)). rows ++ u ∷ []) (is ∙ ap (λ (u : List X). u ∷ []) one)
      ∙ sym (written_end rows q ((x ∷ []) ∷ []) e)
      ∙ ap (λ (u : List (List X)). written rows q (written_below u p i x)) (sym (get_or_past rows q [] (omega (arith, e))))

  -- a row that changes
  pub row_changed : (rows : List (List (List X))) (q p i : ℕ) (x : X) (old new : List (List X)) → q < length rows → old ≡ get_or rows q old → new ≡ written_below old p i x
      → slice_set rows q new ≡ written rows q (written_below (block_at rows q) p i x)
  row_changed rows q p i x old new l read is =
      sym (written_within rows q new l)
      ∙ ap (written rows q) (is ∙ ap (λ (u : List (List X)). written_below u p i x) (read ∙ get_or_default rows q old [] l))

  -- a row or a block that was read
  pub read_at : (xss : List (List X)) (q : ℕ) (xs : List X) → q < length xss → xs ≡ get_or xss q xs → xs ≡ block_at xss q
  read_at xss q xs l e = e ∙ get_or_default xss q xs [] l

  pub got_at : (xss : List (List X)) (q : ℕ) (xs : List X) → slice_get xss q ≡ Some xs → xs ≡ block_at xss q
  got_at xss q xs e = sym (get_or_from_slice_get xss q xs [] e)

-- rows of blocks
module _ {X : Type 0} (rows : List (List (List X))) (i n : ℕ) (even : AreRows rows n) where
  abbrev block : ℕ
  block = i / 64

  abbrev row : List (List X)
  row = block_at rows (block / 64)

  low : i ≡ 64 * block + i % 64
  low = sym (div-add-mod i 64)

  high : block ≡ 64 * (block / 64) + block % 64
  high = sym (div-add-mod block 64)

  place : i % 64 < 64
  place = mod-lt i {m = 64} (omega arith)

  block_place : block % 64 < 64
  block_place = mod-lt block {m = 64} (omega arith)

  same_block : block ≤ length (joined rows) → block_at row (block % 64) ≡ block_at (joined rows) block
  same_block l = block_or rows (block / 64) (block % 64) block [] even.even_rows block_place high l

  -- an item of the list stands in a block of a row
  pub item_get : i < n → (block / 64 < length rows) × (block % 64 < length row) × (i % 64 < length (block_at row (block % 64)))
      × (slice_get (block_at row (block % 64)) (i % 64) ≡ slice_get (items_of rows) i)
  item_get l =
      let within = even.within in
      let a = block_get (joined rows) block (i % 64) i even.even_blocks place low (omega (arith, l, within)) in
      let first = a.0 in
      let b = block_get rows (block / 64) (block % 64) block even.even_rows block_place high first in
      let same = same_block (omega (arith, first)) in
      (b.0, b.1, subst (λ (u : List X). i % 64 < length u) (sym same) a.1, ap (λ (u : List X). slice_get u (i % 64)) same ∙ a.2)

  -- the same, for what is seen of the list
  pub seen_get : i < length (take n (items_of rows)) → (i < n) × (slice_get (take n (items_of rows)) i ≡ slice_get (items_of rows) i)
  seen_get l =
      let within = even.within in
      let k : i < n = omega (arith, l, length-take-le n (items_of rows) within) in
      (k, get_taken (items_of rows) n i k)

  module _ (l : i ≤ n) where
    here : i ≤ length (joined (joined rows))
    here = let within = even.within in omega (arith, l, within)

    in_block : (block ≤ length (joined rows)) × (i % 64 ≤ length (block_at (joined rows) block))
    in_block = within_block (joined rows) block (i % 64) i even.even_blocks place low here

    -- the next item has a place
    pub writable : IsWritable rows i
    writable =
        let t = within_block rows (block / 64) (block % 64) block even.even_rows block_place high in_block.0 in
        record { row = t.0; block = t.1; place = subst (λ (u : List X). i % 64 ≤ length u) (sym (same_block in_block.0)) in_block.1 }

    module _ (x : X) where
      abbrev new : List X
      new = written (block_at (joined rows) block) (i % 64) x

      by_rows : written_in rows i x ≡ written rows (block / 64) (written row (block % 64) new)
      by_rows = ap (λ (u : List X). written rows (block / 64) (written row (block % 64) (written u (i % 64) x))) (same_block in_block.0)

      blocks_after : joined (written_in rows i x) ≡ written (joined rows) block new
      blocks_after = ap joined by_rows ∙ joined-written rows (block / 64) (block % 64) block new even.even_rows block_place high in_block.0

      -- the items after the write
      pub items_after : items_of (written_in rows i x) ≡ written (items_of rows) i x
      items_after = ap joined blocks_after ∙ joined-written (joined rows) block (i % 64) i x even.even_blocks place low here

      -- the rows after the write hold m items, if they were so many with the new one
      pub rows_after : (m : ℕ) → m ≤ length (written (items_of rows) i x) → m ≤ 2 ^ 48 → AreRows (written_in rows i x) m
      rows_after m few most = record {
        even_rows = subst AreEven (sym by_rows) (even-written rows (block / 64) (block % 64) block new even.even_rows block_place high in_block.0);
        even_blocks = subst AreEven (sym blocks_after) (even-written (joined rows) block (i % 64) i x even.even_blocks place low here);
        within = omega (arith, few, ap length items_after);
        most = most;
      }

-- what is seen of a list after a write
module _ {X : Type 0} (xs : List X) (x : X) where
  pub longer : (i : ℕ) → i ≤ length xs → i + 1 ≤ length (written xs i x)
  longer i l = longer_by xs i l
    where
      longer_by : (ys : List X) (k : ℕ) → k ≤ length ys → k + 1 ≤ length (written ys k x)
      longer_by [] k m = omega (arith, m)
      longer_by (y ∷ ys) zero m = omega arith
      longer_by (y ∷ ys) (suc k) m = let t = longer_by ys k (omega (arith, m)) in omega (arith, t)

  pub take-appended : (n : ℕ) → n ≤ length xs → take (n + 1) (written xs n x) ≡ take n xs ++ x ∷ []
  take-appended n l = by_list xs n l
    where
      by_list : (ys : List X) (k : ℕ) → k ≤ length ys → take (k + 1) (written ys k x) ≡ take k ys ++ x ∷ []
      by_list [] zero m = refl
      by_list [] (suc k) m = absurd (omega (arith, m))
      by_list (y ∷ ys) zero m = refl
      by_list (y ∷ ys) (suc k) m =
          let n : suc k + 1 ≡ suc (k + 1) = omega arith in
          ap (λ (j : ℕ). take j (y ∷ written ys k x)) n ∙ ap (λ (zs : List X). y ∷ zs) (by_list ys k (omega (arith, m)))

  pub take-changed : (n i : ℕ) → i < n → n ≤ length xs → take n (written xs i x) ≡ slice_set (take n xs) i x
  take-changed n i l m =
      ap (take n) (written_within xs i x (omega (arith, l, m))) ∙ take-set-lt n xs i x l

-- a list after a write
module _ {X : Type 0} (rows after : List (List (List X))) (x : X) where
  pub pushed : (n : ℕ) → AreRows rows n → n < 2 ^ 48 → after ≡ written_in rows n x → AreRows after (n + 1) × (take (n + 1) (items_of after) ≡ take n (items_of rows) ++ x ∷ [])
  pushed n even few is =
      let within = even.within in
      let kept : AreRows (written_in rows n x) (n + 1) = rows_after rows n n even (omega arith) x (n + 1) (longer (items_of rows) x n within) (omega (arith, few)) in (
        subst (λ (u : List (List (List X))). AreRows u (n + 1)) (sym is) kept,
        ap (λ (u : List (List (List X))). take (n + 1) (items_of u)) is ∙ ap (take (n + 1)) (items_after rows n n even (omega arith) x) ∙ take-appended (items_of rows) x n within,
      )

  pub changed : (n i : ℕ) → AreRows rows n → i < n → after ≡ written_in rows i x → AreRows after n × (take n (items_of after) ≡ slice_set (take n (items_of rows)) i x)
  changed n i even l is =
      let within = even.within in
      let same = length-written (items_of rows) i x (omega (arith, l, within)) in
      let kept : AreRows (written_in rows i x) n = rows_after rows i n even (omega (arith, l)) x n (omega (arith, within, same)) even.most in (
        subst (λ (u : List (List (List X))). AreRows u n) (sym is) kept,
        ap (λ (u : List (List (List X))). take n (items_of u)) is ∙ ap (take n) (items_after rows i n even (omega (arith, l)) x) ∙ take-changed (items_of rows) x n i l within,
      )

-- an item that is read, by the row, the block and the place where it stands
module _ {X : Type 0} (rows : List (List (List X))) (n i : ℕ) (even : AreRows rows n) (within : i < length (take n (items_of rows))) where
  seen : (i < n) × (slice_get (take n (items_of rows)) i ≡ slice_get (items_of rows) i)
  seen = seen_get rows i n even within

  pub row_there : i / 64 / 64 < length rows
  row_there = (item_get rows i n even seen.0).0

  module _ (read row : List (List X)) (is_read : read ≡ get_or rows (i / 64 / 64) read) (is_row : row ≡ read) where
    same_row : row ≡ block_at rows (i / 64 / 64)
    same_row = is_row ∙ read_at rows (i / 64 / 64) read row_there is_read

    pub block_there : i / 64 % 64 < length row
    block_there = omega (arith, (item_get rows i n even seen.0).1, ap length same_row)

    module _ (held block : List X) (is_held : slice_get row (i / 64 % 64) ≡ Some held) (is_block : block ≡ held) where
      same : block ≡ block_at (block_at rows (i / 64 / 64)) (i / 64 % 64)
      same = is_block ∙ got_at row (i / 64 % 64) held is_held ∙ ap (λ (u : List (List X)). block_at u (i / 64 % 64)) same_row

      pub item_there : i % 64 < length block
      item_there = omega (arith, (item_get rows i n even seen.0).2, ap length same)

      pub item_is : slice_get block (i % 64) ≡ slice_get (take n (items_of rows)) i
      item_is = ap (λ (u : List X). slice_get u (i % 64)) same ∙ (item_get rows i n even seen.0).3 ∙ sym seen.1
