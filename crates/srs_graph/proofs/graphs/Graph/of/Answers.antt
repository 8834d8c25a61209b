use Rattle.std.proofs.Common.{◌≡◌, List, subst, sym, ◌∙◌}
use Rattle.srs_num.specs.declared.pairs.V2.{V2}
use Rattle.srs_wit.specs.Listing.{AreAllWitnesses}
use Rattle.srs_graph.specs.Networks.{AreRowsOf}
use Rattle.srs_graph.proofs.Placing.{network_of, graph_of}
use Rattle.srs_graph.proofs.graphs.Graph.of.Goals as goal

pub invariant_of-result : goal.invariant_of-result
invariant_of-result c =
    let e : c.args.set.now ≡ c.in_ok-pairs.pairs.items = sym (c.in_ok-pairs.ensures.items ∙ c.as_slice-2.ensures.value) in
    let a : AreAllWitnesses c.args.cell.now c.in_ok-pairs.pairs.items = subst (AreAllWitnesses c.args.cell.now) e c.requires.all in
    let r : AreRowsOf c.args.cell.now c.in_ok-pairs.pairs.items c.in_ok-rows.rows.items =
    subst (λ (ps : List V2). AreRowsOf c.args.cell.now ps c.in_ok-rows.rows.items) (c.as_slice.ensures.value ∙ e) c.in_ok-rows.ensures in
    network_of c.args.cell.now c.in_ok-pairs.pairs.items c.in_ok-rows.rows.items a c.requires.small r

pub returns : goal.returns
returns c =
    let e : c.args.set.now ≡ c.in_ok-pairs.pairs.items = sym (c.in_ok-pairs.ensures.items ∙ c.as_slice-2.ensures.value) in
    let a : AreAllWitnesses c.args.cell.now c.in_ok-pairs.pairs.items = subst (AreAllWitnesses c.args.cell.now) e c.requires.all in
    let r : AreRowsOf c.args.cell.now c.in_ok-pairs.pairs.items c.in_ok-rows.rows.items =
    subst (λ (ps : List V2). AreRowsOf c.args.cell.now ps c.in_ok-rows.rows.items) (c.as_slice.ensures.value ∙ e) c.in_ok-rows.ensures in
    graph_of c.args.cell.now c.in_ok-pairs.pairs.items c.in_ok-rows.rows.items a r
