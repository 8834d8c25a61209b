use Rattle.srs_line.proofs.Totals.{read_or_slips}
use Rattle.srs_line.proofs.laws.read_or_slips.Goals as goal

pub returns : goal.returns
returns g c start total text = read_or_slips _ _ _ start total text
