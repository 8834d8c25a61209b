use Rattle.srs_path.proofs.Search.{searched}
use Rattle.srs_graph.proofs.rows.place.Goals as goal

pub unreachable-requires : goal.unreachable-requires
unreachable-requires c =
    (rw c.in_default.is at
    (searched c.args.pairs.now c.args.v c.binary_search.result c.requires.ascending c.binary_search.ensures.bound c.binary_search.ensures.position))
    c.requires.here
