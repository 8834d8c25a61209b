-- The parts that were made come with the outcome.
use Rattle.std.proofs.Common.{arith}
use Rattle.srs_tree.specs.Nodes.{spots_from}
use Rattle.srs_tree.specs.Queue.{cells_from}
use Rattle.srs_tree.proofs.Entering.{grown_parts}
use Rattle.srs_tree.proofs.growth.enter_parts.Goals as goal

pub returns-in-Ok-clause-grown : goal.returns-in-Ok-clause-grown
returns-in-Ok-clause-grown c =
    grown_parts c.args.nodes.now c.args.path.now c.args.f c.args.i c.requires.spots c.requires.there (omega (arith, c.len.ensures.most, c.len.ensures.len)) c.w.ensures.sound
    c.settle.new.nodes (spots_from c.nodes_of.result) (cells_from c.args.parts) c.in_ok-outcome.outcome.value c.nodes_of.ensures c.requires.parts c.in_ok-outcome.ensures.owner c.in-Ok.ensures.ok
