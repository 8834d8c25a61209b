use Rattle.std.proofs.Common.{length, subst, sym}
use Rattle.std.proofs.lemmas.Result.{IfOk-weaker}
use Rattle.srs_graph.specs.Marks.{IsPeeled}
use Rattle.srs_graph.specs.Listings.{AreOpenPairs, AreTheCore}
use Rattle.srs_graph.proofs.Picking.{core_list}
use Rattle.srs_graph.proofs.graphs.core_of.Goals as goal

pub returns : goal.returns
returns c R g =
    let d : IsPeeled c.args.pairs.now c.args.rows.now c.deref.result.now = subst (IsPeeled c.args.pairs.now c.args.rows.now) (sym c.deref.ensures.value) c.in_ok-marks.ensures in
    IfOk-weaker c.open_pairs.result (AreOpenPairs c.args.pairs.now c.deref.result.now (length c.deref.result.now)) (AreTheCore R)
    (λ ws p. core_list R c.args.pairs.now c.args.rows.now c.deref.result.now (length c.deref.result.now) ws g c.requires.rows d d.marks.len p) c.open_pairs.ensures
