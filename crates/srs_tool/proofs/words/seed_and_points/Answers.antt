use Rattle.std.proofs.Common.{arith}
use Rattle.srs_tool.proofs.Spelling.{if_none}
use Rattle.srs_tool.proofs.words.seed_and_points.Goals as goal

pub returns-in_err-s-clause-none : goal.returns-in_err-s-clause-none
returns-in_err-s-clause-none c =
    if_none c.from_residual.result
    (λ s n are. c.in_err-s.ensures.none s are.0.0 (omega (arith, are.1.0)))

pub returns-in_err-n-clause-none : goal.returns-in_err-n-clause-none
returns-in_err-n-clause-none c =
    if_none c.from_residual-in_err-n.result (λ s n are. c.in_err-n.ensures.none n are.0.1.0 are.1.1)
