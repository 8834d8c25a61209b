-- Tokens that are numbers, one more of them.
use Rattle.std.proofs.Common.{ℕ, ℤ, List, [], ◌∷◌, ◌++◌}
use Rattle.srs_text.specs.Spelling.{IsNumber}
use Rattle.srs_line.specs.Fields.{AreNumbers}

pub numbers_push : (done : List (List ℕ)) (zs : List ℤ) (t : List ℕ) (z : ℤ) → AreNumbers done zs → IsNumber t z → AreNumbers (done ++ t ∷ []) (zs ++ z ∷ [])
numbers_push [] [] t z a n = (n, tt)
numbers_push [] (y ∷ zs) t z a n = absurd a
numbers_push (s ∷ done) [] t z a n = absurd a
numbers_push (s ∷ done) (y ∷ zs) t z a n = (a.0, numbers_push done zs t z a.1 n)

pub no_numbers : (done : List (List ℕ)) (t : List ℕ) (more : List (List ℕ)) (zs : List ℤ) → ((z : ℤ) → IsNumber t z → ⊥) → AreNumbers (done ++ t ∷ more) zs → ⊥
no_numbers [] t more [] none a = a
no_numbers [] t more (z ∷ zs) none a = none z a.0
no_numbers (s ∷ done) t more [] none a = a
no_numbers (s ∷ done) t more (z ∷ zs) none a = no_numbers done t more zs none a.1
