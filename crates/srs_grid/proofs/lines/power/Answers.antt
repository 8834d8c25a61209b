use Rattle.srs_grid.proofs.Powers.{shifted, power_within}
use Rattle.srs_grid.proofs.lines.power.Goals as goal

pub returns-clause-value : goal.returns-clause-value
returns-clause-value c = shifted c.args.m c.requires

pub returns-clause-sized : goal.returns-clause-sized
returns-clause-sized c = rw (shifted c.args.m c.requires) (power_within c.args.m 36 c.requires)
