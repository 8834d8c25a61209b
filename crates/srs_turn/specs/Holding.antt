-- What a seat of a turn holds.
use Rattle.std.specs.Prelude.{◌≡◌, List, [], ◌∷◌, Option, Some, None}
use Rattle.atomic_table.specs.declared.shared.Seat.{Seat}
use Rattle.srs_turn.specs.declared.view.View.{View}
use Rattle.srs_turn.specs.declared.view.Role.TheVariants.{Holder}
use Rattle.srs_turn.specs.Prefixes.{Begins}
use Rattle.srs_turn.specs.TurnWords.{IsIdle}
use Rattle.srs_turn.specs.Passes.{TurnId}

module _ {S E F : Type 0} where
  -- the list that the seat has seen
  abbrev pub seen_by : Seat S (View E F) → List E
  seen_by seat = seat.me.0.seen

  -- it is a seat of this turn, and holds nothing
  abbrev pub WaitsFor : TurnId F → Seat S (View E F) → Type 0
  WaitsFor turn seat = (seat.table_id ≡ turn.table) × IsIdle seat.me × (seat.me.0.fixed ≡ Some turn.fixed)

  -- the same seat, which holds nothing still and may have seen more
  abbrev pub StillWaits : Seat S (View E F) → Seat S (View E F) → Type 0
  StillWaits old new = (new.table_id ≡ old.table_id) × IsIdle new.me × (new.me.0.fixed ≡ old.me.0.fixed) × Begins old.me.0.seen new.me.0.seen

  -- it is a seat of this turn, and holds it
  abbrev pub Holds : TurnId F → Seat S (View E F) → Type 0
  Holds turn seat = (seat.table_id ≡ turn.table) × (seat.me.0.role ≡ Holder) × (seat.me.0.fixed ≡ Some turn.fixed)

module _ {B E F : Type 0} where
  -- it holds this turn, and the book is out of the slot
  abbrev pub HoldsWithBookOut : TurnId F → Seat (Option B) (View E F) → Type 0
  HoldsWithBookOut turn seat = (seat.table_id ≡ turn.table) × (seat.me.0.role ≡ Holder) × (seat.me.1 ≡ (0, None) ∷ []) × (seat.me.0.fixed ≡ Some turn.fixed)
