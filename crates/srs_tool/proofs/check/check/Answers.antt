-- The answer of the check is what is told.
use Rattle.std.proofs.Common.{arith}
use Rattle.srs_tool.proofs.Checking.{answered_as}
use Rattle.srs_tool.proofs.check.check.Goals as goal

pub returns-in-Ok-clause-owed : goal.returns-in-Ok-clause-owed
returns-in-Ok-clause-owed g c =
    let same = c.in-Ok.answer-is in
    answered_as _ _ _ _ _ c.verdict.result c.enough.result c.in-Ok.ensures.answered c.verdict.ensures c.enough.ensures.ok (omega (arith, c.longest.ensures)) cc
