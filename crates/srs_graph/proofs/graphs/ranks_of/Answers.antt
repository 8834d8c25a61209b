use Rattle.std.proofs.Common.{◌≡◌, List, ℕ, length, subst, sym}
use Rattle.srs_num.specs.declared.pairs.V2.{V2}
use Rattle.srs_path.specs.Core.{HasCore, HasNoCore, AreRanks}
use Rattle.srs_path.specs.Lists.{ranked, MakesRanks}
use Rattle.srs_graph.specs.Marks.{IsPeeled}
use Rattle.srs_graph.specs.Listings.{AreNumbers, HasOpenPlace}
use Rattle.srs_graph.proofs.Picking.{found_some, all_ranks, ranked_lists, makes_ranks, open_has_core}
use Rattle.srs_graph.proofs.graphs.ranks_of.Goals as goal

pub returns-in-Some : goal.returns-in-Some
returns-in-Some c R g =
    let d : IsPeeled c.args.pairs.now c.args.rows.now c.deref.result.now = subst (IsPeeled c.args.pairs.now c.args.rows.now) (sym c.deref.ensures.value) c.in_ok-marks.ensures in
    let z : AreNumbers c.deref.result.now (length c.deref.result.now) c.in-Some.ranks = rw c.in-Some.is at c.in_ok-ranks.ensures in
    let p : AreNumbers c.deref.result.now (length c.args.pairs.now) c.in-Some.ranks = subst (λ (n : ℕ). AreNumbers c.deref.result.now n c.in-Some.ranks) d.marks.len z in
    let e : c.in_ok-from_slice-in-Some.field-0 ≡ c.args.pairs.now = c.in_ok-from_slice-in-Some.ensures in
    found_some (HasCore R) (MakesRanks c.in_ok-from_slice-in-Some.field-0 c.in-Some.ranks) (λ es. HasNoCore R × AreRanks R es) c.of.result (ranked c.in_ok-from_slice-in-Some.field-0 c.in-Some.ranks)
    c.of.ensures.some c.of.ensures.none
    (subst (λ (ps : List V2). MakesRanks ps c.in-Some.ranks) (sym e) (makes_ranks c.args.pairs.now c.args.rows.now c.deref.result.now c.in-Some.ranks c.requires d p))
    (subst (λ (ps : List V2). HasNoCore R × AreRanks R (ranked ps c.in-Some.ranks)) (sym e)
    (all_ranks R c.args.pairs.now c.args.rows.now c.deref.result.now (ranked c.args.pairs.now c.in-Some.ranks) g c.requires.rows d (ranked_lists c.args.pairs.now c.deref.result.now c.in-Some.ranks p)))

pub returns : goal.returns
returns c R g =
    let d : IsPeeled c.args.pairs.now c.args.rows.now c.deref.result.now = subst (IsPeeled c.args.pairs.now c.args.rows.now) (sym c.deref.ensures.value) c.in_ok-marks.ensures in
    let o : HasOpenPlace c.deref.result.now = rw c.in-None.is at c.in_ok-ranks.ensures in
    open_has_core R c.args.pairs.now c.args.rows.now c.deref.result.now g c.requires.rows d o
