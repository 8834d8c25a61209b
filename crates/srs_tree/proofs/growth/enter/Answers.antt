-- The finding came to an open cell.
use Rattle.srs_tree.specs.Queue.{cells_from}
use Rattle.srs_tree.proofs.Entering.{grown_ok}
use Rattle.srs_tree.proofs.Opened.{parts_ok}
use Rattle.srs_tree.proofs.growth.enter.Goals as goal

pub returns-clause-grown : goal.returns-clause-grown
returns-clause-grown c =
    grown_ok c.args.nodes.now c.args.path.now c.args.f c.args.i c.requires.spots c.requires.there c.enter_at.new.nodes c.enter_at.result
    c.enter_at.ensures.grown c.enter_at.ensures.few c.enter_at.ensures.sound

pub returns-clause-parts : goal.returns-clause-parts
returns-clause-parts c =
    parts_ok (λ added. cells_from added.parts) c.args.nodes.now c.enter_at.new.nodes c.args.path.now c.args.f c.args.i c.requires.spots c.requires.there c.enter_at.result
    c.enter_at.ensures.grown c.enter_at.ensures.sound c.enter_at.ensures.parts
