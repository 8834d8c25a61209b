use Rattle.srs_cell.proofs.Counting.{tally_turned}
use Rattle.srs_cell.proofs.tallies.Tally.turned.Goals as goal

pub returns-clause-tally : goal.returns-clause-tally
returns-clause-tally c = λ g cs k. tally_turned g cs c.args.self k
