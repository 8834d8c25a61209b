-- The round at the history in which the cells wait.
use Rattle.std.proofs.Common.{length, arith}
use Rattle.srs_turn.proofs.PrefixLemmas.{begins_trans}
use Rattle.srs_crew.specs.Rounds.{AreDone}
use Rattle.srs_crew.proofs.Working.{round_later, round_done, on_ok}
use Rattle.srs_crew.proofs.rounds.rest.Goals as goal

pub settle_all-requires-clause-round : goal.settle_all-requires-clause-round
settle_all-requires-clause-round g c =
    let t = c.args.atlas.now.fixed in
    record {
      room = c.requires.room;
      by_plan = λ L is. round_later c.requires.plan.start c.pending.new.pass.seen (begins_trans _ _ _ c.requires.plan.begins c.pending.ensures.seen) t.root t.w L _ _ c.pending.ensures.lawful.legal (c.requires.plan.by_plan L is);
    }

pub returns-clause-done : goal.returns-clause-done
returns-clause-done g c =
    let t = c.args.atlas.now.fixed in
    on_ok (AreDone c.in_ok-waiting.waiting (length c.in_ok-waiting.waiting) c.args.job.now.round c.settle_all.new.pass.seen) _ c.settle_all.result
    (round_done t c.pending.new.pass.seen c.pending.ensures.lawful c.in_ok-waiting.waiting c.in_ok-waiting.ensures.cells c.args.job.now.round c.args.pass.now.seen c.settle_all.new.pass.seen c.args.job.now.last
    c.pending.ensures.seen c.settle_all.ensures.seen c.settle_all.ensures.lawful
    (λ L is. round_later c.requires.plan.start c.pending.new.pass.seen (begins_trans _ _ _ c.requires.plan.begins c.pending.ensures.seen) t.root t.w L _ _ c.pending.ensures.lawful.legal (c.requires.plan.by_plan L is))
    (length c.in_ok-waiting.waiting) (omega arith))
    c.settle_all.ensures.done
