-- The sides of a path as binary digits.
use Rattle.std.proofs.Common.{◌≡◌, ◌≢◌, ℕ, zero, suc, ◌+◌, ◌-◌, ◌*◌, ◌/◌, ◌%◌, ◌^◌, ◌<◌, ◌≤◌, List, [], ◌∷◌, ◌++◌, length, length-append, sym, subst, arith, ap, ap₂, ◌∙◌, refl}
use Rattle.std.proofs.lemmas.Nat.Bits.{bit_at-lt}
use Rattle.std.specs.Prelude.{slice_get, Some}
use Rattle.std.specs.Int.{bit_at}
use Rattle.std.proofs.lemmas.Option.{none-some}
use Rattle.std.proofs.Math.Nat.{pow-suc, pow-succ', div-div-eq-div-mul}
use Rattle.srs_path.specs.declared.paths.Side.{Side}
use Rattle.srs_path.specs.declared.paths.Side.TheVariants.{Ge, Lt}
use Rattle.srs_path.specs.Paths.{digit_of, side_of, sides_of, digits_then, IsPacked}

digit_back : (d : ℕ) → d < 2 → digit_of (side_of d) ≡ d
digit_back zero h = refl
digit_back (suc zero) h = refl
digit_back (suc (suc d)) h = omega (arith, h)

side_back : (s : Side) → side_of (digit_of s) ≡ s
side_back Ge = refl
side_back Lt = refl

pub digit_below : (s : Side) → digit_of s < 2
digit_below Ge = omega arith
digit_below Lt = omega arith

pub count_of : (n b : ℕ) → length (sides_of n b) ≡ n
count_of zero b = refl
count_of (suc n) b = length-append (sides_of n (b / 2)) (side_of (b % 2) ∷ []) ∙ omega (arith, count_of n (b / 2))

-- one side more
pub digits_then-push : (b : ℕ) (v : List Side) (s : Side) → digits_then b (v ++ s ∷ []) ≡ digits_then b v * 2 + digit_of s
digits_then-push b [] s = refl
digits_then-push b (t ∷ v) s = digits_then-push (b * 2 + digit_of t) v s

pub digits_back : (n b : ℕ) → b < 2 ^ n → digits_then 0 (sides_of n b) ≡ b
digits_back zero b h = omega (arith, h)
digits_back (suc n) b h =
    let half : b / 2 < 2 ^ n = omega (arith, h, pow-suc 2 n) in
    digits_then-push 0 (sides_of n (b / 2)) (side_of (b % 2))
    ∙ ap₂ (λ (x y : ℕ). x * 2 + y) (digits_back n (b / 2) half) (digit_back (b % 2) (omega arith))
    ∙ omega arith

-- the number of a cell, by the digits of its path
pub number_is : (n b : ℕ) → b < 2 ^ n → digits_then 1 (sides_of n b) ≡ 2 ^ n + b
number_is zero b h = omega (arith, h)
number_is (suc n) b h =
    let half : b / 2 < 2 ^ n = omega (arith, h, pow-suc 2 n) in
    digits_then-push 1 (sides_of n (b / 2)) (side_of (b % 2))
    ∙ ap₂ (λ (x y : ℕ). x * 2 + y) (number_is n (b / 2) half) (digit_back (b % 2) (omega arith))
    ∙ omega (arith, pow-suc 2 n)

pub packed : (n b : ℕ) → n ≤ 48 → b < 2 ^ n → IsPacked n b
packed n b short below = record { short = short; below = below; count = count_of n b; digits = digits_back n b below }

-- one side more
pub more : (n b : ℕ) (s : Side) → sides_of (n + 1) (b * 2 + digit_of s) ≡ sides_of n b ++ s ∷ []
more n b s =
    let d = digit_below s in
    let one_more : n + 1 ≡ suc n = omega arith in
    let before : (b * 2 + digit_of s) / 2 ≡ b = omega (arith, d) in
    let last : (b * 2 + digit_of s) % 2 ≡ digit_of s = omega (arith, d) in
    ap (λ (k : ℕ). sides_of k (b * 2 + digit_of s)) one_more ∙ ap₂ (λ (x y : ℕ). sides_of n x ++ side_of y ∷ []) before last
    ∙ ap (λ (t : Side). sides_of n b ++ t ∷ []) (side_back s)

-- the last side and those before it
pub fewer : (n m b : ℕ) → n ≡ m + 1 → sides_of n b ≡ sides_of m (b / 2) ++ side_of (b % 2) ∷ []
fewer n m b e = let one_more : n ≡ suc m = omega (arith, e) in ap (λ (k : ℕ). sides_of k b) one_more

last_item : {X : Type 0} (xs : List X) (x : X) (i : ℕ) → i ≡ length xs → slice_get (xs ++ x ∷ []) i ≡ Some x
last_item [] x i e = ap (slice_get (x ∷ [])) e
last_item (y ∷ xs) x i e = ap (slice_get (y ∷ xs ++ x ∷ [])) e ∙ last_item xs x (length xs) refl

earlier_item : {X : Type 0} (xs : List X) (x y : X) (i : ℕ) → slice_get xs i ≡ Some y → slice_get (xs ++ x ∷ []) i ≡ Some y
earlier_item [] x y i e = absurd (none-some y e)
earlier_item (z ∷ xs) x y zero e = e
earlier_item (z ∷ xs) x y (suc i) e = earlier_item xs x y i e

halves : (b k : ℕ) → b / 2 / 2 ^ k ≡ b / 2 ^ suc k
halves b k = div-div-eq-div-mul b 2 (2 ^ k) ∙ ap (λ (m : ℕ). b / m) (sym (pow-succ' 2 k))

-- the side number i, from the root on
pub side_at : (n b i k : ℕ) → i + k + 1 ≡ n → slice_get (sides_of n b) i ≡ Some (side_of (b / 2 ^ k % 2))
side_at zero b i k e = let none : ⊥ = omega (arith, e) in absurd none
side_at (suc n) b i zero e =
    let whole : b ≡ b / 2 ^ 0 = omega arith in
    last_item (sides_of n (b / 2)) (side_of (b % 2)) i (omega (arith, e, count_of n (b / 2))) ∙ ap (λ (x : ℕ). Some (side_of (x % 2))) whole
side_at (suc n) b i (suc k) e =
    earlier_item (sides_of n (b / 2)) (side_of (b % 2)) (side_of (b / 2 / 2 ^ k % 2)) i (side_at n (b / 2) i k (omega (arith, e)))
    ∙ ap (λ (x : ℕ). Some (side_of (x % 2))) (halves b k)

-- its digit tells the side number i
pub ge_at : (n b i : ℕ) → i < n → bit_at b (n - 1 - i) ≡ 0 → slice_get (sides_of n b) i ≡ Some Ge
ge_at n b i within e = side_at n b i (n - 1 - i) (omega (arith, within)) ∙ ap (λ (d : ℕ). Some (side_of d)) e

pub lt_at : (n b i : ℕ) → i < n → bit_at b (n - 1 - i) ≢ 0 → slice_get (sides_of n b) i ≡ Some Lt
lt_at n b i within ne =
    let one : bit_at b (n - 1 - i) ≡ 1 = omega (arith, ne, bit_at-lt b (n - 1 - i)) in
    side_at n b i (n - 1 - i) (omega (arith, within)) ∙ ap (λ (d : ℕ). Some (side_of d)) one

pub packed_more : (n b : ℕ) (s : Side) → IsPacked n b → n < 48 → IsPacked (n + 1) (b * 2 + digit_of s)
packed_more n b s h room =
    let below : b * 2 + digit_of s < 2 ^ suc n = omega (arith, h.below, digit_below s, pow-suc 2 n) in
    let one_more : suc n ≡ n + 1 = omega arith in
    packed (n + 1) (b * 2 + digit_of s) (omega (arith, room)) (subst (λ (k : ℕ). b * 2 + digit_of s < 2 ^ k) one_more below)

pub packed_fewer : (n m b : ℕ) → n ≡ m + 1 → IsPacked n b → IsPacked m (b / 2)
packed_fewer n m b e h =
    let one_more : n ≡ suc m = omega (arith, e) in
    let below : b < 2 ^ suc m = subst (λ (k : ℕ). b < 2 ^ k) one_more h.below in
    packed m (b / 2) (omega (arith, e, h.short)) (omega (arith, below, pow-suc 2 m))

-- equal sides are packed equally
pub packed_once : (n m b c : ℕ) → IsPacked n b → IsPacked m c → sides_of n b ≡ sides_of m c → (b ≡ c) × (n ≡ m)
packed_once n m b c g h e = (sym g.digits ∙ ap (digits_then 0) e ∙ h.digits, sym g.count ∙ ap length e ∙ h.count)
