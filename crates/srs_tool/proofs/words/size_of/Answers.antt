use Rattle.srs_tool.proofs.Spelling.{if_none}
use Rattle.srs_tool.proofs.words.size_of.Goals as goal

pub returns-in_err-width-clause-none : goal.returns-in_err-width-clause-none
returns-in_err-width-clause-none c = if_none c.from_residual.result (λ w h are sides. c.in_err-width.ensures.none w are.0 sides.0)

pub returns-in_err-height-clause-none : goal.returns-in_err-height-clause-none
returns-in_err-height-clause-none c = if_none c.from_residual-in_err-height.result (λ w h are sides. c.in_err-height.ensures.none h are.1.0 sides.1)
