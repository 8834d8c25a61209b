use Rattle.srs_tool.proofs.Spelling.{if_none}
use Rattle.srs_tool.proofs.words.crew_of.Goals as goal

pub returns-in_err-limits-clause-none : goal.returns-in_err-limits-clause-none
returns-in_err-limits-clause-none c =
    if_none c.from_residual.result (λ b n is. c.in_err-limits.ensures.none b (is.0.0, (is.0.1.0, (is.0.1.1.0, tt))) is.1.0)

pub returns-in_err-crew-clause-none : goal.returns-in_err-crew-clause-none
returns-in_err-crew-clause-none c = if_none c.from_residual-in_err-crew.result (λ b n is. c.in_err-crew.ensures.none n is.0.1.1.1.0 is.1.1)
