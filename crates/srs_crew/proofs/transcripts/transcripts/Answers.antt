-- One session more.
use Rattle.std.proofs.Common.{◌+◌, sym, subst}
use Rattle.srs_turn.proofs.PrefixLemmas.{begins_trans}
use Rattle.srs_crew.specs.Telling.{IsToldBelow, AreToldFirst, told_to}
use Rattle.srs_crew.proofs.Telling.{below_later, sessions_next}
use Rattle.srs_crew.proofs.transcripts.transcripts.Goals as goal

pub transcript-requires-clause-below : goal.transcript-requires-clause-below
transcript-requires-clause-below g c κs within =
    let Root = c.args.atlas.now.fixed.root in
    subst (IsToldBelow Root c.loop-i.pass.seen c.args.round c.get-session.result.now) (sym c.in_ok-before.ensures)
    (below_later Root c.args.pass.now.seen c.loop-i.pass.seen c.args.round c.get-session.result.now (told_to c.loop-i.i c.args.told.now) c.loop-i.invariant.1 (c.requires.below.each c.loop-i.i c.get-session.result.now c.get-session.ensures))

pub loop-i-preserved : goal.loop-i-preserved
loop-i-preserved g c =
    let Root = c.args.atlas.now.fixed.root in
    let now = c.loop-i.pass.seen in
    let after = c.transcript.new.pass.seen in (
      c.transcript.ensures.own,
      begins_trans c.args.pass.now.seen now after c.loop-i.invariant.1 c.transcript.ensures.seen,
      subst (AreToldFirst Root after (c.loop-i.i + 1) c.args.script.now) (sym c.in_ok-add_one.ensures)
          (sessions_next Root now after c.loop-i.i c.args.script.now c.get-session.result.now c.loop-i.all c.in_ok-one.one c.transcript.ensures.seen c.loop-i.invariant.2 c.get-session.ensures c.in_ok-one.ensures.told),
    )
