use Rattle.std.proofs.Common.{◌≡◌, ◌-◌, Some, slice_get, length}
use Rattle.srs_file.proofs.Leaves.{follows_last, last_follows}
use Rattle.srs_file.proofs.leaf.Leaf.precedes.Goals as goal

pub returns : goal.returns
returns c =
    let ps = c.self.inside.pairs in
    let zs = c.self.inside.ranks in
    let at : slice_get ps (length ps - 1) ≡ Some c.get.result.now = rw c.len-count.ensures.len at c.get.ensures in
    rw (← c.self.view_is) (
      λ t. follows_last ps zs c.get.result.now c.args.pair.now c.self.invariant.same at (c.comes_before.ensures.0 t),
      λ f. c.comes_before.ensures.1 (last_follows ps zs c.get.result.now c.args.pair.now c.self.invariant.same at f),
    )
