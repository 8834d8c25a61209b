-- Bytes that were taken, and more of them.
use Rattle.std.proofs.Common.{◌≤◌, ◌+◌, ◌-◌, ◌++◌, List, ℕ, arith, length-append}
use Rattle.std.specs.declared.option.Option.{Option}
use Rattle.std.proofs.KnownBytes.{Consumes-trans}
use Rattle.srs_text.specs.Ends.{TookJust}
use Rattle.srs_text.specs.Windows.{TakesIn}

-- what came before, and then the bytes up to one more than the limit
pub just_more : (a b c : Option (List ℕ)) (t u limit : ℕ) (h i : List ℕ) → TakesIn a b t h u i → u ≤ limit → TookJust b c (limit + 1 - u) → TookJust a c (limit + 1 - t)
just_more a b c t u limit h i p le q = (
  p.bytes ++ q.0,
  Consumes-trans a b c p.bytes q.0 p.lost q.1,
  omega (arith, p.counted, q.2, length-append p.bytes q.0),
)
