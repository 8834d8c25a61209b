-- The list has the slot that is next.
use Rattle.std.specs.Prelude.{IfSome}
use Rattle.srs_front.specs.Walks.{HasSlot}
use Rattle.srs_front_examples.proofs.walks.walk_back.Given as goal

abbrev pub invariant-loop-turn : goal.invariant-loop-turn
invariant-loop-turn l = IfSome l.slot (HasSlot l.front)
