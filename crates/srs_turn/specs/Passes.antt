-- What is seen of a turn and of its passes.
use Rattle.std.specs.Prelude.{◌≡◌, List, Option, Some}
use Rattle.atomic_table.specs.Seated.{TableId}

-- which turn it is, and what no operation on its book changes
pub record TurnId (F : Type 0) : Type 0 where
  pub table : TableId
  pub fixed : F

-- a pass: of which turn, and the list that it has seen
pub record Seen (E F : Type 0) : Type 0 where
  pub table : TableId
  pub fixed : Option F
  pub seen : List E

-- it is a pass of this turn
abbrev pub IsPassOf : {E F : Type 0} → TurnId F → Seen E F → Type 0
IsPassOf turn pass = (pass.table ≡ turn.table) × (pass.fixed ≡ Some turn.fixed)
