use Rattle.std.proofs.Common.{rules}
use Rattle.srs_turn.proofs.PrefixLemmas.{begins_next}
use Rattle.srs_turn.proofs.TurnSteps.{grows}
use Rattle.srs_turn.proofs.turn.Turn.store_count.Goals as goal

pub store-requires : goal.store-requires
store-requires g c =
    let n = c.requires.grown in
    (search rules, search rules, grows _ _ _ _ _ _ _ n.0 c.requires.held.1 n.1 (begins_next _ _ n.2) n.3)
