use Rattle.std.proofs.Common.{refl}
use Rattle.srs_check.proofs.RowCounts.{no_rows}
use Rattle.srs_check.proofs.tally.Tally.new.Goals as goal

pub returns : goal.returns
returns c = λ H. record { rows = no_rows H; counts = record { cells = refl; inside = refl; outside = refl; cut = refl; left = refl } }
