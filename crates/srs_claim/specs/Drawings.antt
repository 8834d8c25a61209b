-- What is seen of claims and of their seats.
use Rattle.std.specs.Prelude.{ℕ, List, Bool}
use Rattle.atomic_table.specs.Seated.{TableId}

-- which claims they are, and how many numbers there are
pub record ClaimsId : Type 0 where
  pub table : TableId
  pub n : ℕ

-- a seat: of which claims, the numbers that it drew in their order, whether it has ended, and how many seats may still be split off it
pub record SeatOf : Type 0 where
  pub of : ClaimsId
  pub drawn : List ℕ
  pub ended : Bool
  pub spare : ℕ
