-- One leaf holds the point.
use Rattle.srs_tree.proofs.Meeting.{one_answer}
use Rattle.srs_tree.proofs.laws.one_answer.Goals as goal

pub returns : goal.returns
returns c = one_answer
