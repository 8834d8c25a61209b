-- One cell more is done.
use Rattle.std.proofs.Common.{◌+◌, ◌∙◌, sym, ap, subst, length}
use Rattle.srs_turn.specs.Prefixes.{Begins}
use Rattle.srs_turn.specs.Passes.{Seen, IsPassOf}
use Rattle.srs_turn.proofs.PrefixLemmas.{begins_refl, begins_trans}
use Rattle.srs_path.specs.Views.{Entry}
use Rattle.srs_tree.specs.Queue.{WaitingCell}
use Rattle.srs_atlas.specs.declared.book.Terms.{Terms}
use Rattle.srs_atlas.specs.Books.{IsLawful}
use Rattle.srs_crew.specs.Rounds.{AreDone}
use Rattle.srs_crew.proofs.Working.{work_of, more}
use Rattle.srs_crew.proofs.rounds.settle_all.Goals as goal
use Rattle.srs_crew.proofs.rounds.settle_all.Goals.{then-len-job+in_ok-refiner+in_ok-settle, else-len-job}

pub settle-requires-clause-work : goal.settle-requires-clause-work
settle-requires-clause-work g c κs within =
    work_of c.args.atlas.now.fixed c.args.pass.now.seen c.requires.lawful c.args.cells.now c.requires.waiting c.args.job.now.round c.args.job.now.last c.requires.round c.loop-i.pass.seen c.loop-i.invariant.1
    c.loop-i.i c.get-cell.result.now c.get-cell.ensures (sym (ap (λ (x : WaitingCell). length x.path) c.cell.view_is) ∙ sym c.len.ensures.len ∙ c.if-len-job.true)

pub loop-i-preserved : goal.loop-i-preserved
loop-i-preserved g c =
    let Kept : Seen Entry Terms → Type 0 = λ p. IsPassOf c.args.atlas.now p × Begins c.args.pass.now.seen p.seen × IsLawful c.args.atlas.now.fixed p.seen × AreDone c.args.cells.now (c.loop-i.i + 1) c.args.job.now.round p.seen in
    elim c.if-len-job.branch [
      | then-len-job+in_ok-refiner+in_ok-settle w ↦ subst Kept (sym w.pass-is) (
        w.settle.ensures.own,
        begins_trans _ _ _ c.loop-i.invariant.1 w.settle.ensures.seen,
        w.settle.ensures.lawful,
        more c.args.cells.now c.loop-i.i c.args.job.now.round c.loop-i.pass.seen c.loop-i.invariant.3 w.settle.new.pass.seen c.get-cell.result.now w.settle.ensures.seen c.get-cell.ensures (λ _. w.in_ok-settle.ensures.done),
      )
      | else-len-job w ↦ subst Kept (sym w.pass-is) (
        c.loop-i.invariant.0,
        c.loop-i.invariant.1,
        c.loop-i.invariant.2,
        more c.args.cells.now c.loop-i.i c.args.job.now.round c.loop-i.pass.seen c.loop-i.invariant.3 c.loop-i.pass.seen c.get-cell.result.now (begins_refl c.loop-i.pass.seen) c.get-cell.ensures
            (λ depth. absurd (w.if-len-job.false (c.len.ensures.len ∙ ap (λ (x : WaitingCell). length x.path) c.cell.view_is ∙ depth))),
      )
    ]
