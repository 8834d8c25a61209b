use Rattle.std.proofs.Common.{refl}
use Rattle.srs_check.proofs.listed.check_unit.Goals as goal

pub returns-in-None-clause-err : goal.returns-in-None-clause-err
returns-in-None-clause-err c = (refl, λ l. c.in-None.ensures.none l.0 l.1)
