use Rattle.std.proofs.Common.{arith}
use Rattle.srs_tool.proofs.Spelling.{if_none}
use Rattle.srs_tool.proofs.words.limits_of.Goals as goal

pub returns-in_err-most_depth-clause-none : goal.returns-in_err-most_depth-clause-none
returns-in_err-most_depth-clause-none c =
    if_none c.from_residual.result (λ b are budget. c.in_err-most_depth.ensures.none b.depth (omega (arith, budget.depth)) are.0)

pub returns-in_err-most_cells-clause-none : goal.returns-in_err-most_cells-clause-none
returns-in_err-most_cells-clause-none c =
    if_none c.from_residual-in_err-most_cells.result (λ b are budget. c.in_err-most_cells.ensures.none b.cells (omega (arith, budget.cells)) are.1.0)

pub returns-in_err-most_wits-clause-none : goal.returns-in_err-most_wits-clause-none
returns-in_err-most_wits-clause-none c =
    if_none c.from_residual-in_err-most_wits.result (λ b are budget. c.in_err-most_wits.ensures.none b.wits (omega (arith, budget.wits)) are.1.1.0)
