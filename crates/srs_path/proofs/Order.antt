-- The order of pairs by a and then by b.
use Rattle.std.proofs.Common.{◌≡◌, ℕ, zero, suc, List, length, arith, get_or, add-one, subst}
use Rattle.std.specs.Prelude.{AllPairs}
use Rattle.std.specs.List.{AllAdjacentBelow}
use Rattle.std.proofs.Math.Decide.{dec_lt}
use Rattle.std.proofs.lemmas.Int.{ints}
use Rattle.srs_num.specs.declared.pairs.V2.{V2}
use Rattle.srs_path.specs.Core.{Precedes}

pub precedes-trans : (u v w : V2) → Precedes u v → Precedes v w → Precedes u w
precedes-trans u v w h k = (omega (arith, ints, h.0, k.0), λ e. omega (arith, ints, h.0, k.0, h.1 (omega (arith, ints, h.0, k.0, e)), k.1 (omega (arith, ints, h.0, k.0, e))))

-- where each pair stands before the next, it stands before all that follow
pub ascends_from_adjacent : (ks : List V2) → AllAdjacentBelow Precedes ks (length ks) → AllPairs Precedes ks
ascends_from_adjacent ks step i zero d h l = absurd (omega arith)
ascends_from_adjacent ks step i (suc j) d h l =
    let s : Precedes (get_or ks j d) (get_or ks (suc j) d) = rw add-one at (step j d (omega arith)) in
    elim (dec_lt i j) as (λ _. Precedes (get_or ks i d) (get_or ks (suc j) d)) [
      | yes b ↦ precedes-trans (get_or ks i d) (get_or ks j d) (get_or ks (suc j) d) (ascends_from_adjacent ks step i j d b (omega arith)) s
      | no b ↦ let e : j ≡ i = omega arith in subst (λ (x : ℕ). Precedes (get_or ks x d) (get_or ks (suc j) d)) e s
    ]
