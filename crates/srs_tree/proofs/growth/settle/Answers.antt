-- The parts come at the end, and the cell gets its outcome.
use Rattle.srs_tree.specs.Nodes.{spots_from}
use Rattle.srs_tree.proofs.Entering.{grown_by}
use Rattle.srs_tree.proofs.growth.settle.Goals as goal

pub returns-in-Ok-clause-ok : goal.returns-in-Ok-clause-ok
returns-in-Ok-clause-ok c = λ x e parts.
    grown_by c.args.nodes.now c.append.new.nodes c.set.new.self (spots_from c.args.parts) c.args.i c.len-place.result c.get.result.now c.in_ok-node.node x c.args.outcome.value
    c.requires c.get.ensures.item c.len-place.ensures.len c.in_ok-node.ensures c.in_ok-append.ensures.ok c.in-Ok.ensures.ok e parts
