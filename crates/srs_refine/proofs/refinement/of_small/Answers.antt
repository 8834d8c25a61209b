use Rattle.srs_refine.proofs.refinement.of_small.Goals as goal

pub returns-in-Some : goal.returns-in-Some
returns-in-Some c W s =
    let t = rw c.in-Some.is at (c.in_ok-ranks.ensures c.args.cell.now c.in_ok-graph.ensures) in
    record { small = s; no_core = t.0; ranks = t.1 }

pub of_cycle-requires : goal.of_cycle-requires
of_cycle-requires c = let t = rw c.in-Some-2.is at (c.in_ok-cycle.ensures c.args.cell.now c.in_ok-graph.ensures) in t.1

pub unreachable-requires : goal.unreachable-requires
unreachable-requires c =
    let core = rw c.in_default.is at (c.in_ok-ranks.ensures c.args.cell.now c.in_ok-graph.ensures) in
    let no_core = rw c.in_default-2.is at (c.in_ok-cycle.ensures c.args.cell.now c.in_ok-graph.ensures) in
    no_core core.0 core.1
