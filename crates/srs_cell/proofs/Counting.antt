-- Counting the corners on each side of a line.
use Rattle.std.proofs.Common.{◌≡◌, ℕ, ◌+◌, ◌≤◌, List, [], ◌∷◌, ◌++◌, length-append, ℤ, pos, neg_ℤ, ◌≤ℤ◌, ◌<ℤ◌, arith, zero, suc}
use Rattle.std.specs.List.{Contains}
use Rattle.std.proofs.lemmas.Int.{by_lt_z}
use Rattle.std.proofs.lemmas.List.Elements.{All-nil, All-push, All-weaker, Contains-append_left, Contains-push, All-contains}
use Rattle.srs_num.specs.Points.{LinearForm, Point, value, opposite}
use Rattle.srs_num.proofs.Linear.{linear}
use Rattle.srs_num.proofs.Identities.{value-opposite}
use Rattle.srs_cell.specs.Hull.{IsAbove, IsBelow}
use Rattle.srs_cell.specs.Tallies.{TellsSome, IsTally}
use Rattle.srs_cell.specs.declared.tallies.Tally.{Tally}

-- ---- one count
counts_none : (P : Point → Type 0) → TellsSome P [] 0
counts_none P = record { none = λ e. All-nil (λ c. P c → ⊥); some = λ h. absurd (omega (arith, h)); few = omega arith }

counts_hit : (P : Point → Type 0) (cs : List Point) (n : ℕ) (c : Point) → P c → TellsSome P cs n → TellsSome P (cs ++ c ∷ []) (n + 1)
counts_hit P cs n c p k = record {
  none = λ e. absurd (omega (arith, e));
  some = λ h. (c, Contains-push cs c, p);
  few = let few = k.few in omega (arith, length-append cs (c ∷ []));
}

counts_miss : (P : Point → Type 0) (cs : List Point) (n : ℕ) (c : Point) → (P c → ⊥) → TellsSome P cs n → TellsSome P (cs ++ c ∷ []) n
counts_miss P cs n c p k = record {
  none = λ e. All-push (λ c. P c → ⊥) cs c (k.none e) p;
  some = λ h. let s = k.some h in (s.0, Contains-append_left cs (c ∷ []) s.0 s.1, s.2);
  few = let few = k.few in omega (arith, length-append cs (c ∷ []));
}

counts_same : (P Q : Point → Type 0) → ((c : Point) → P c → Q c) → ((c : Point) → Q c → P c) → (cs : List Point) (n : ℕ) → TellsSome P cs n → TellsSome Q cs n
counts_same P Q f g cs n k = record {
  none = λ e. All-weaker (λ c. P c → ⊥) (λ c. Q c → ⊥) (λ c off q. off (g c q)) cs (k.none e);
  some = λ h. let s = k.some h in (s.0, s.1, f s.0 s.2);
  few = k.few;
}

-- ---- signs
not_on : (a : ℤ) → pos 0 <ℤ a → a ≡ pos 0 → ⊥
not_on a h e = omega (arith, linear)

not_on_below : (a : ℤ) → a <ℤ pos 0 → a ≡ pos 0 → ⊥
not_on_below a h e = omega (arith, linear)

not_both : (a : ℤ) → pos 0 <ℤ a → a <ℤ pos 0 → ⊥
not_both a h k = omega (arith, linear)

not_above_on : (a : ℤ) → a ≡ pos 0 → pos 0 <ℤ a → ⊥
not_above_on a e h = omega (arith, linear)

not_below_on : (a : ℤ) → a ≡ pos 0 → a <ℤ pos 0 → ⊥
not_below_on a e h = omega (arith, linear)

-- ---- the three counts
pub tally_none : (g : LinearForm) → IsTally g [] (record { above = 0; on = 0; below = 0 })
tally_none g = record {
  above = counts_none (λ c. pos 0 <ℤ value g c);
  on = counts_none (λ c. value g c ≡ pos 0);
  below = counts_none (λ c. value g c <ℤ pos 0);
}

module _ (g : LinearForm) (cs : List Point) (t : Tally) (c : Point) (k : IsTally g cs t) where
  pub tally_above : pos 0 <ℤ value g c → IsTally g (cs ++ c ∷ []) (record { above = t.above + 1; on = t.on; below = t.below })
  tally_above h = record {
    above = counts_hit (λ c. pos 0 <ℤ value g c) cs t.above c h k.above;
    on = counts_miss (λ c. value g c ≡ pos 0) cs t.on c (not_on _ h) k.on;
    below = counts_miss (λ c. value g c <ℤ pos 0) cs t.below c (not_both _ h) k.below;
  }

  pub tally_on : value g c ≡ pos 0 → IsTally g (cs ++ c ∷ []) (record { above = t.above; on = t.on + 1; below = t.below })
  tally_on h = record {
    above = counts_miss (λ c. pos 0 <ℤ value g c) cs t.above c (not_above_on _ h) k.above;
    on = counts_hit (λ c. value g c ≡ pos 0) cs t.on c h k.on;
    below = counts_miss (λ c. value g c <ℤ pos 0) cs t.below c (not_below_on _ h) k.below;
  }

  pub tally_below : value g c <ℤ pos 0 → IsTally g (cs ++ c ∷ []) (record { above = t.above; on = t.on; below = t.below + 1 })
  tally_below h = record {
    above = counts_miss (λ c. pos 0 <ℤ value g c) cs t.above c (λ up. not_both _ up h) k.above;
    on = counts_miss (λ c. value g c ≡ pos 0) cs t.on c (not_on_below _ h) k.on;
    below = counts_hit (λ c. value g c <ℤ pos 0) cs t.below c h k.below;
  }

pub tally_turned : (g : LinearForm) (cs : List Point) (t : Tally) → IsTally g cs t → IsTally (opposite g) cs (record { above = t.below; on = t.on; below = t.above })
tally_turned g cs t k = record {
  above = counts_same (λ c. value g c <ℤ pos 0) (λ c. pos 0 <ℤ value (opposite g) c) (λ c h. up _ _ (value-opposite g c) h) (λ c h. down_back _ _ (value-opposite g c) h) cs t.below k.below;
  on = counts_same (λ c. value g c ≡ pos 0) (λ c. value (opposite g) c ≡ pos 0) (λ c h. flat _ _ (value-opposite g c) h) (λ c h. flat_back _ _ (value-opposite g c) h) cs t.on k.on;
  below = counts_same (λ c. pos 0 <ℤ value g c) (λ c. value (opposite g) c <ℤ pos 0) (λ c h. down _ _ (value-opposite g c) h) (λ c h. up_back _ _ (value-opposite g c) h) cs t.above k.above;
}
  where
    up : (r a : ℤ) → r ≡ neg_ℤ a → a <ℤ pos 0 → pos 0 <ℤ r
    up r a e h = omega (arith, linear)

    down_back : (r a : ℤ) → r ≡ neg_ℤ a → pos 0 <ℤ r → a <ℤ pos 0
    down_back r a e h = omega (arith, linear)

    flat : (r a : ℤ) → r ≡ neg_ℤ a → a ≡ pos 0 → r ≡ pos 0
    flat r a e h = omega (arith, linear)

    flat_back : (r a : ℤ) → r ≡ neg_ℤ a → r ≡ pos 0 → a ≡ pos 0
    flat_back r a e h = omega (arith, linear)

    down : (r a : ℤ) → r ≡ neg_ℤ a → pos 0 <ℤ a → r <ℤ pos 0
    down r a e h = omega (arith, linear)

    up_back : (r a : ℤ) → r ≡ neg_ℤ a → r <ℤ pos 0 → pos 0 <ℤ a
    up_back r a e h = omega (arith, linear)

-- ---- what the counts tell
not_below : (a : ℤ) → (a <ℤ pos 0 → ⊥) → pos 0 ≤ℤ a
not_below a n = by_lt_z a (pos 0) (λ h. absurd (n h)) (λ h. h)

only_below : (a : ℤ) → (pos 0 <ℤ a → ⊥) → (a ≡ pos 0 → ⊥) → a <ℤ pos 0
only_below a n m = by_lt_z a (pos 0) (λ h. h) (λ h. by_lt_z (pos 0) a (λ k. absurd (n k)) (λ k. absurd (m (both a h k))))
  where
    both : (a : ℤ) → pos 0 ≤ℤ a → a ≤ℤ pos 0 → a ≡ pos 0
    both a h k = omega (arith, linear)

clash : (a : ℤ) → pos 0 ≤ℤ a → a <ℤ pos 0 → ⊥
clash a h k = omega (arith, linear)

module _ (g : LinearForm) (cs : List Point) (t : Tally) (k : IsTally g cs t) where
  pub none_below : t.below ≡ 0 → IsAbove g cs
  none_below e = All-weaker (λ c. value g c <ℤ pos 0 → ⊥) (λ c. pos 0 ≤ℤ value g c) (λ c n. not_below _ n) cs (k.below.none e)

  pub some_below : 1 ≤ t.below → IsAbove g cs → ⊥
  some_below h up = let s = k.below.some h in clash _ (All-contains (λ c. pos 0 ≤ℤ value g c) cs s.0 up s.1) s.2

  pub low_corners : t.above ≡ 0 → t.on ≡ 0 → IsBelow g cs
  low_corners e f = λ i d lt. only_below _ (k.above.none e i d lt) (k.on.none f i d lt)

  pub not_all_below : 1 ≤ t.above + t.on → IsBelow g cs → ⊥
  not_all_below h low = by t.above t.on h k.above.some k.on.some
    where
      by : (a o : ℕ) → 1 ≤ a + o → (1 ≤ a → (c : Point) × Contains cs c × (pos 0 <ℤ value g c)) → (1 ≤ o → (c : Point) × Contains cs c × (value g c ≡ pos 0)) → ⊥
      by zero o h up on = let s = on (omega (arith, h)) in not_below_on _ s.2 (All-contains (λ c. value g c <ℤ pos 0) cs s.0 low s.1)
      by (suc a) o h up on = let s = up (omega arith) in not_both _ s.2 (All-contains (λ c. value g c <ℤ pos 0) cs s.0 low s.1)

pub same_zero : (a b : ℤ) → a ≡ b → a ≡ pos 0 → b ≡ pos 0
same_zero a b e h = omega (arith, linear)
