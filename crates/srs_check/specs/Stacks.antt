-- A stack of cells that takes no memory beside its places.
use Rattle.std.specs.Prelude.{◌≡◌, ◌≤◌, ◌++◌, ℕ, List, [], ◌∷◌, length, Some, All, IsSome}
use Rattle.std.specs.declared.option.Option.{Option}

-- each place that is used has a cell, and there is room for 48
pub record KeepsRoom {X : Type 0} (places : List (Option X)) (capacity : ℕ) : Type 0 where
  pub cells : All IsSome places
  pub few : length places ≤ 48
  pub room : capacity ≡ 48

-- the cell was put at the end, and there is room for 48 yet
pub record IsPushed {X : Type 0} (old new : List (Option X)) (capacity : ℕ) (cell : X) : Type 0 where
  pub items : new ≡ old ++ Some cell ∷ []
  pub kept : KeepsRoom new capacity
