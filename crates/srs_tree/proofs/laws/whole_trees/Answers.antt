-- The laws of whole trees.
use Rattle.srs_tree.proofs.Listed.{bounded, listed}
use Rattle.srs_tree.proofs.laws.whole_trees.Goals as goal

pub returns : goal.returns
returns c = record { bounded = bounded; listed = listed }
