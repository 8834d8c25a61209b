use Rattle.std.proofs.Common.{rules, Some}
use Rattle.srs_turn.proofs.TurnSteps.{wins, slot_last}
use Rattle.srs_turn.proofs.turn.Turn.try_take.Goals as goal

pub compare_exchange-found-requires : goal.compare_exchange-found-requires
compare_exchange-found-requires g c = (search rules, search rules, wins _ _ _ _ _ _ c.requires.1)

pub exchange-requires : goal.exchange-requires
exchange-requires g c =
    let found = (c.compare_exchange-found.ensures.2.2 c.if-found-ne0.false).1 in
    (search rules, (Some found.0, slot_last _ _ found.1))
