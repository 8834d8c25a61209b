use Rattle.std.proofs.Common.{rules, w64, to_z-of_z, ◌+◌, get_or}
use Rattle.std.specs.Prelude.{FitsSigned}
use Rattle.srs_graph.specs.Networks.{pair_at}
use Rattle.srs_graph.proofs.Walking.{entries_more, entries_along}
use Rattle.srs_graph.proofs.walks.entries.Goals as goal

pub loop-k-preserved : goal.loop-k-preserved
loop-k-preserved c =
    let f : FitsSigned w64 (pair_at c.args.pairs.now (get_or c.args.path.now c.loop-k.k 0)).a = search rules in
    entries_along c.args.pairs.now c.args.path.now c.args.from (c.loop-k.k + 1) c.add_number.new.numbers _ c.in_ok-add_number.ensures
    (entries_more c.args.pairs.now c.args.path.now c.args.from c.loop-k.k c.loop-k.entries _ c.loop-k.invariant (to_z-of_z f))
