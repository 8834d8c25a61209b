use Rattle.std.proofs.Common.{refl}
use Rattle.srs_cell.proofs.Joining.{turned_section}
use Rattle.srs_cell.proofs.ends.Section.turned.Goals as goal

pub returns-clause-section : goal.returns-clause-section
returns-clause-section c hs i = turned_section hs c.args.self.now _ c.opposite.ensures refl refl i
