use Rattle.std.proofs.Common.{rules, Some, ap, sym, ◌∙◌}
use Rattle.srs_turn.specs.TurnWords.{told_in}
use Rattle.srs_turn.proofs.TurnSteps.{frees, slot_filled}
use Rattle.srs_turn.proofs.turn.Turn.give.Goals as goal

pub store-requires : goal.store-requires
store-requires g c =
    let stored = c.store_count.ensures in
    let slot = slot_filled c.args.seat.now.me c.exchange-empty.new.seat.me (Some c.args.book) c.exchange-empty.ensures.3 c.requires.held.2 in (
      search rules,
      search rules,
      frees _ _ _ _ _ _ c.args.book stored.held.0.1 (stored.held.1 ∙ slot) (sym (stored.seen ∙ ap (told_in g.B.Told.told) slot)) (stored.held.0.2 ∙ ap Some (sym c.requires.fixed)),
    )
