-- Each cell is one of the round, at whatever was seen since.
use Rattle.srs_crew.proofs.Working.{work_at}
use Rattle.srs_crew.proofs.workers.settle_drawn.Goals as goal

pub settle-settled-requires-clause-work : goal.settle-settled-requires-clause-work
settle-settled-requires-clause-work g c κs within = work_at _ _ _ _ c.requires.work.work _ c.loop.invariant.0.seen _ _ c.get-cell.ensures
