-- Powers of 2.
use Rattle.std.proofs.Common.{◌≡◌, ℕ, ◌*◌, ◌%◌, ◌^◌, ◌<◌, ◌≤◌, lit<, w64, to_z, pos, ap, ◌∙◌, arith}
use Rattle.std.proofs.lemmas.Int.{to_z_pos}
use Rattle.std.proofs.Math.Nat.{one-mul, mod-eq_of_lt, pow-le-pow_right}

pub power_within : (m n : ℕ) → m ≤ n → 2 ^ m ≤ 2 ^ n
power_within m n h = pow-le-pow_right (lit< tt) h

pub shifted : (m : ℕ) → m ≤ 36 → to_z w64 ((1 * 2 ^ m) % 2 ^ 64) ≡ pos (2 ^ m)
shifted m h =
    let small : 2 ^ m ≤ 2 ^ 36 = power_within m 36 h in
    let low : 2 ^ m < 2 ^ 63 = omega arith in
    let fits : 2 ^ m < 2 ^ 64 = omega arith in
    ap (λ n. to_z w64 (n % 2 ^ 64)) (one-mul (2 ^ m)) ∙ ap (to_z w64) (mod-eq_of_lt fits) ∙ to_z_pos w64 (2 ^ m) low
