-- Shifts that round down.
use Rattle.std.proofs.Common.{◌≡◌, ℕ, ◌+◌, ◌*◌, ◌/◌, ◌%◌, ◌<◌, ◌≤◌, ℤ, pos, negsuc, neg_ℤ, ◌+ℤ◌, ◌*ℤ◌, ◌≤ℤ◌, ◌<ℤ◌, [], ◌∷◌, ap, ◌∙◌, arith}
use Rattle.std.proofs.lemmas.Int.{ints}
use Rattle.std.specs.Int.Signed.{shr_z}
use Rattle.std.proofs.lemmas.Nat.{div-add-mod'}
use Rattle.std.proofs.Math.Nat.{mod-lt, div-le_self}
use Rattle.srs_num.specs.Points.{IsWithin}
use Rattle.srs_num.specs.Floor.{IsFloor}
use Rattle.srs_num.proofs.Ring.{v, lit, ◌⊕◌, ◌⊗◌, minus, ring}

-- they are the floors of quotients
pub shift_floor : (z : ℤ) (n : ℕ) → 1 ≤ n → IsFloor z (pos n) (shr_z z n)
shift_floor (pos a) n h = record {
  not_above = low (a / n * n) (a % n) a (div-add-mod' a n);
  greatest = high (a / n * n) (a % n) a n (div-add-mod' a n) (mod-lt a h);
}
  where
    low : (x r a : ℕ) → x + r ≡ a → pos x ≤ℤ pos a
    low x r a e = omega (arith, ints)

    high : (x r a n : ℕ) → x + r ≡ a → r < n → pos a <ℤ (pos x +ℤ pos n)
    high x r a n e h = omega (arith, ints)
shift_floor (negsuc a) n h = record {
  not_above = low _ (a / n * n) (a % n) a n (product (a / n) n) (div-add-mod' a n) (mod-lt a h);
  greatest = high _ (a / n * n) (a % n) a n (product (a / n) n) (div-add-mod' a n);
}
  where
    turned : (q : ℕ) → negsuc q ≡ neg_ℤ (pos q +ℤ pos 1)
    turned q = omega (arith, ints)

    product : (q n : ℕ) → negsuc q *ℤ pos n ≡ neg_ℤ (pos (q * n) +ℤ pos n)
    product q n =
        ap (λ (x : ℤ). x *ℤ pos n) (turned q)
        ∙ ring (pos q ∷ pos n ∷ []) (minus (v 0 ⊕ lit (pos 1)) ⊗ v 1) (minus (v 0 ⊗ v 1 ⊕ v 1)) tt

    low : (z : ℤ) (x r a n : ℕ) → z ≡ neg_ℤ (pos x +ℤ pos n) → x + r ≡ a → r < n → z ≤ℤ negsuc a
    low z x r a n e f h = omega (arith, ints)

    high : (z : ℤ) (x r a n : ℕ) → z ≡ neg_ℤ (pos x +ℤ pos n) → x + r ≡ a → negsuc a <ℤ (z +ℤ pos n)
    high z x r a n e f = omega (arith, ints)

pub shift_within : (m : ℕ) (z : ℤ) (n : ℕ) → IsWithin m z → IsWithin m (shr_z z n)
shift_within m (pos a) n h = let less : a / n ≤ a = div-le_self a n in omega (arith, ints)
shift_within m (negsuc a) n h = let less : a / n ≤ a = div-le_self a n in omega (arith, ints)
