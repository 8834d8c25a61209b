use Rattle.std.proofs.Common.{FitsSigned, ◌^◌, pos, lit<}
use Rattle.std.specs.Int.{w128}
use Rattle.std.proofs.lemmas.Int.{to_z-of_z}
use Rattle.srs_num.proofs.Ranges.{small_fits}
use Rattle.srs_num.proofs.Floors.{zero_bits, nonzero_bits}
use Rattle.srs_cell.proofs.OneSided.{by_lt, by_not, below_from_high, above_from_high, below_from_open, above_from_closed}
use Rattle.srs_cell.proofs.sides.is_below_by_bound.Goals as goal

pub returns-then-high-eq0 : goal.returns-then-high-eq0
returns-then-high-eq0 c =
    let R = c.args.cell.now in
    let f = c.args.form.now in
    let b = c.high-high.result in
    let fits : FitsSigned w128 b.num = small_fits w128 b.num (2 ^ 117) c.high-high.ensures.sized.num_range (lit< tt) in
    let zero = zero_bits b.num fits c.if-high-eq0.true in
    by_not b.attained (below_from_open R f b c.high-high.ensures.high zero) (above_from_closed R f b c.high-high.ensures.high zero)

pub returns : goal.returns
returns c =
    let R = c.args.cell.now in
    let f = c.args.form.now in
    let b = c.high-high.result in
    let fits : FitsSigned w128 b.num = small_fits w128 b.num (2 ^ 117) c.high-high.ensures.sized.num_range (lit< tt) in
    simp to_z-of_z (by_lt b.num (pos 0) (below_from_high R f b c.high-high.ensures.high) (above_from_high R f b c.high-high.ensures.high (nonzero_bits b.num c.if-high-eq0.false)))
