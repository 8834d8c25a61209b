use Rattle.srs_check.proofs.nodes.check_left.Goals as goal

pub returns-in-Leaf-clause-ok : goal.returns-in-Leaf-clause-ok
returns-in-Leaf-clause-ok c = λ H rows. c.in-Leaf.ensures.proves H
