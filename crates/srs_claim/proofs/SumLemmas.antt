-- Sums over all seats.
use Rattle.std.proofs.Common.{◌≡◌, ◌≢◌, ℕ, zero, suc, ◌+◌, ◌≤◌, List, [], ◌∷◌, ◌++◌, length, set, sym, ap, arith}
use mathlib.Core.Option.{some, some-injective, some-ne-none}
use lib.ListN.{get_elem?}
use Rattle.std.proofs.lemmas.Bool.Decides.{nat_tests}
use Rattle.srs_claim.specs.declared.view.Role.{Role}
use Rattle.srs_claim.specs.declared.view.Role.TheVariants.{Live, Joining, Spent}
use Rattle.srs_claim.specs.declared.view.View.{View}
use Rattle.srs_claim.specs.Numbers.{times}
use Rattle.srs_claim.specs.ClaimWord.{total_of, ends_of, ends_by}
use Rattle.std.specs.Prelude.{Bool, true, false}

pub times-append : (x : ℕ) (xs ys : List ℕ) → times x (xs ++ ys) ≡ times x xs + times x ys
times-append x [] ys = omega arith
times-append x (y ∷ xs) ys = omega (arith, times-append x xs ys)

pub times-self : (x : ℕ) → times x (x ∷ []) ≡ 1
times-self x = grind (arith, nat_tests)

pub times-other : (x y : ℕ) → x ≢ y → times x (y ∷ []) ≡ 0
times-other x y apart = grind (arith, nat_tests)

-- the sum over all seats after one of them changed
pub total_of-set : (f : View → ℕ) (views : List View) (i : ℕ) (v w : View) → get_elem? views i ≡ some v → total_of f (set views i w) + f v ≡ total_of f views + f w
total_of-set f [] i v w at = absurd (some-ne-none v (sym at))
total_of-set f (u ∷ us) zero v w at = let e = ap f (some-injective u v at) in omega arith
total_of-set f (u ∷ us) (suc i) v w at = omega (arith, total_of-set f us i v w at)

-- the sum over all seats with a new one
pub total_of-snoc : (f : View → ℕ) (views : List View) (w : View) → total_of f (views ++ w ∷ []) ≡ total_of f views + f w
total_of-snoc f [] w = omega arith
total_of-snoc f (u ∷ us) w = omega (arith, total_of-snoc f us w)

-- a seat has no more than all
pub total_of-one : (f : View → ℕ) (views : List View) (i : ℕ) (v : View) → get_elem? views i ≡ some v → f v ≤ total_of f views
total_of-one f [] i v at = absurd (some-ne-none v (sym at))
total_of-one f (u ∷ us) zero v at = let e = ap f (some-injective u v at) in omega arith
total_of-one f (u ∷ us) (suc i) v at = omega (arith, total_of-one f us i v at)

-- a seat ends once at most
pub ends_by-le : (role : Role) (ended : Bool) → ends_by role ended ≤ 1
ends_by-le Live true = omega arith
ends_by-le Live false = omega arith
ends_by-le (Joining other) true = omega arith
ends_by-le (Joining other) false = omega arith
ends_by-le Spent ended = omega arith

-- no more seats have ended than there are
pub total_ends-le : (views : List View) → total_of ends_of views ≤ length views
total_ends-le [] = omega arith
total_ends-le (u ∷ us) = omega (arith, ends_by-le u.role u.ended, total_ends-le us)
