use Rattle.srs_turn.specs.Prefixes.{Begins}
use Rattle.srs_turn.specs.Passes.{IsPassOf}
use Rattle.srs_tree.specs.Tree.{History}
use Rattle.srs_session.specs.Listening.{IsPlayedTo}
use Rattle.srs_session.proofs.playing.answer_all.Given as goal

abbrev pub invariant-loop-i : goal.invariant-loop-i
invariant-loop-i g l =
    IsPassOf l.atlas l.pass × Begins l.fn.pass.seen l.pass.seen
    ×
    ((before : History) → IsPlayedTo l.atlas.fixed.root before l.fn.pass.seen l.seg 0 l.fn.told
    l.fn.held
    → IsPlayedTo l.atlas.fixed.root before l.pass.seen l.seg l.i l.told l.held)
