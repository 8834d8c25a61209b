use Rattle.srs_path.proofs.OutcomeSound.{outside_sound}
use Rattle.srs_check.proofs.nodes.check_outside.Goals as goal

pub returns-in-Covers-clause-sound : goal.returns-in-Covers-clause-sound
returns-in-Covers-clause-sound c = λ r i. outside_sound c.args.cell.now c.args.cycle.now c.in-Covers.ensures r i c.len.ensures.cycle.not_zero c.len.ensures.cycle.some
