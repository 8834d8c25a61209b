use Rattle.std.proofs.Common.{subst, sym, ◌∙◌, ◌+◌, to_z-of_z, w64, rules}
use Rattle.std.specs.Prelude.{FitsSigned}
use Rattle.srs_graph.specs.Listings.{AreNumbers}
use Rattle.srs_graph.proofs.Picking.{numbers_more}
use Rattle.srs_graph.proofs.listing.numbers.Goals as goal

pub loop-i-preserved : goal.loop-i-preserved
loop-i-preserved c =
    let f : FitsSigned w64 c.from.result = search rules in
    subst (AreNumbers c.args.marks.now (c.loop-i.i + 1)) (sym c.in_ok-add_number-in-Some.ensures)
    (numbers_more c.args.marks.now c.loop-i.i c.in-Some.n c.loop-i.numbers _ c.loop-i.invariant c.in-Some.is (to_z-of_z f ∙ c.from.ensures))
