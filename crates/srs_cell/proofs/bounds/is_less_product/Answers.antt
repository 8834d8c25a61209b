use Rattle.std.proofs.Common.{◌^◌, ◌*ℤ◌, lit<}
use Rattle.std.specs.Int.{w128}
use Rattle.srs_num.proofs.Ranges.{held_factors}
use Rattle.srs_cell.proofs.Lessening.{is_read_lt}
use Rattle.srs_cell.proofs.bounds.is_less_product.Goals as goal

pub returns : goal.returns
returns c =
    let left = held_factors w128 c.args.n c.args.e (2 ^ 62) (2 ^ 62) c.requires.n c.requires.e (lit< tt) (lit< tt) (lit< tt) in
    let right = held_factors w128 c.args.m c.args.d (2 ^ 62) (2 ^ 62) c.requires.m c.requires.d (lit< tt) (lit< tt) (lit< tt) in
    rw (left.value, right.value) (is_read_lt (c.args.n *ℤ c.args.e) (c.args.m *ℤ c.args.d))
