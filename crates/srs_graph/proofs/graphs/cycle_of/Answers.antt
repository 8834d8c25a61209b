use Rattle.std.proofs.Common.{◌≤◌, List, ℕ, subst, sym, arith, length}
use Rattle.std.proofs.lemmas.List.{get_or_default}
use Rattle.srs_path.specs.Core.{HasCore, HasNoCore}
use Rattle.srs_path.specs.ChosenCycle.{IsChosen}
use Rattle.srs_path.specs.Lists.{IsCycle}
use Rattle.srs_graph.specs.Marks.{IsPeeled}
use Rattle.srs_graph.specs.Walks.{IsRound}
use Rattle.srs_graph.proofs.Picking.{found_some}
use Rattle.srs_graph.proofs.Walking.{none_open_empty, round_inside, round_short, round_cycle}
use Rattle.srs_graph.proofs.graphs.cycle_of.Goals as goal

pub entries-requires-clause-inside : goal.entries-requires-clause-inside
entries-requires-clause-inside c k d l =
    let p : IsPeeled c.args.pairs.now c.args.rows.now c.deref-in-Some.result.now = subst (IsPeeled c.args.pairs.now c.args.rows.now) (sym c.deref-in-Some.ensures.value) c.in_ok-marks.ensures in
    let r : IsRound c.args.rows.now c.deref-in-Some.result.now c.deref-in-Some-2.result.now c.in_ok-round-in-Some.round.from =
    subst (λ (path : List ℕ). IsRound c.args.rows.now c.deref-in-Some.result.now path c.in_ok-round-in-Some.round.from) (sym c.deref-in-Some-2.ensures.value) c.in_ok-round-in-Some.ensures in
    omega (
      arith,
      get_or_default c.deref-in-Some-2.result.now k d 0 l,
      round_inside c.args.pairs.now c.args.rows.now c.deref-in-Some.result.now c.deref-in-Some-2.result.now c.in_ok-round-in-Some.round.from c.requires.rows p r k l,
    )

pub entries-requires-clause-from : goal.entries-requires-clause-from
entries-requires-clause-from c =
    let b = round_short c.args.rows.now c.deref-in-Some.result.now c.in_ok-round-in-Some.round.path.items c.in_ok-round-in-Some.round.from c.in_ok-round-in-Some.ensures in
    subst (λ (path : List ℕ). c.in_ok-round-in-Some.round.from ≤ length path) (sym c.deref-in-Some-2.ensures.value) (omega (arith, b.0))

pub returns-in-Some : goal.returns-in-Some
returns-in-Some c R g =
    let p : IsPeeled c.args.pairs.now c.args.rows.now c.deref-in-Some.result.now = subst (IsPeeled c.args.pairs.now c.args.rows.now) (sym c.deref-in-Some.ensures.value) c.in_ok-marks.ensures in
    let r : IsRound c.args.rows.now c.deref-in-Some.result.now c.deref-in-Some-2.result.now c.in_ok-round-in-Some.round.from =
    subst (λ (path : List ℕ). IsRound c.args.rows.now c.deref-in-Some.result.now path c.in_ok-round-in-Some.round.from) (sym c.deref-in-Some-2.ensures.value) c.in_ok-round-in-Some.ensures in
    let t = round_cycle R c.args.pairs.now c.args.rows.now c.deref-in-Some.result.now c.deref-in-Some-2.result.now c.in_ok-round-in-Some.round.from c.in_ok-entries-in-Some.field-0 c.requires g p r c.in_ok-entries-in-Some.ensures in
    found_some (HasNoCore R) (IsCycle c.in_ok-entries-in-Some.field-0) (λ cycle. HasCore R × IsChosen R cycle) c.of.result c.in_ok-entries-in-Some.field-0 c.of.ensures.some c.of.ensures.none t.0 t.1

pub returns : goal.returns
returns c R g =
    let d : IsPeeled c.args.pairs.now c.args.rows.now c.deref.result.now = subst (IsPeeled c.args.pairs.now c.args.rows.now) (sym c.deref.ensures.value) c.in_ok-marks.ensures in
    none_open_empty R c.args.pairs.now c.args.rows.now c.deref.result.now g c.requires.rows d
    (λ j low l. c.in-None.ensures j low (omega (arith, l, c.deref.ensures.len, c.in_ok-marks.marks.ok)))
