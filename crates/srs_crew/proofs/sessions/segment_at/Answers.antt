-- The segments ascend, so the one behind those of rounds before is the one that may be of the round.
use Rattle.std.proofs.Common.{◌∙◌, ap}
use Rattle.srs_tree.specs.declared.sessions.Segment.{Segment}
use Rattle.srs_crew.proofs.Telling.{same_at, none_at}
use Rattle.srs_crew.proofs.sessions.segment_at.Goals as goal

pub returns-else-segment-round-clause-none : goal.returns-else-segment-round-clause-none
returns-else-segment-round-clause-none c =
    none_at c.args.session.now c.len.ensures.keeps c.args.round c.segments_before-place.result c.segments_before-place.ensures
    (λ s g at. c.if-segment-round.false (ap (λ (x : Segment). x.at) (same_at c.args.session.now c.segments_before-place.result c.get-segment.result.now s c.get-segment.ensures g) ∙ at))
