use Rattle.srs_cell.proofs.ends.Section.of.Goals as goal

pub returns-clause-section : goal.returns-clause-section
returns-clause-section c = record { first = c.line_end.ensures; second = rw c.opposite.ensures at c.line_end-2.ensures }
