-- The segments that are left come behind all rounds.
use Rattle.std.proofs.Common.{◌+◌, sym, subst}
use Rattle.srs_turn.proofs.PrefixLemmas.{begins_refl, begins_trans}
use Rattle.srs_crew.specs.Telling.{IsToldFirst}
use Rattle.srs_crew.proofs.Telling.{left_from, left_next, was_done_later}
use Rattle.srs_crew.proofs.transcripts.transcript.Goals as goal

pub loop-i-init : goal.loop-i-init
loop-i-init g c = (
  c.requires.own,
  begins_refl c.args.pass.now.seen,
  left_from c.args.atlas.now.fixed.root c.args.pass.now.seen c.args.round c.segments_before-i.result c.args.session.now c.args.before c.segments_before-i.ensures c.requires.below,
)

pub loop-i-preserved : goal.loop-i-preserved
loop-i-preserved g c =
    let Root = c.args.atlas.now.fixed.root in
    let now = c.loop-i.pass.seen in
    let after = c.play.new.pass.seen in (
      c.play.ensures.own,
      begins_trans c.args.pass.now.seen now after c.loop-i.invariant.1 c.play.ensures.seen,
      subst (IsToldFirst Root after (c.loop-i.i + 1) c.args.session.now) (sym c.in_ok-append.ensures)
          (left_next Root now after c.loop-i.i c.args.session.now c.get.result.now c.loop-i.told c.in_ok-more.more (was_done_later c.args.pass.now.seen now c.loop-i.invariant.1 c.requires.done) c.play.ensures.seen c.get.ensures
          c.loop-i.invariant.2 c.in_ok-more.ensures.told),
    )
