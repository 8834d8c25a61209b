use Rattle.std.proofs.Common.{◌^◌, ◌*◌, ◌-◌, ◌+◌, arith}
use Rattle.srs_num.specs.Points.{IsPointWithin}
use Rattle.srs_num.specs.Lines.{plus}
use Rattle.srs_num.proofs.Crossings.{sized_more}
use Rattle.srs_num.proofs.Sums.{sum_first, sum_more, sum_all, plus_sized}
use Rattle.srs_num.proofs.lines.sum.Goals as goal

pub loop-i-init : goal.loop-i-init
loop-i-init c =
    (sum_first _ _ c.requires.some c.index-corners-0.is, rw c.index-corners-0.is (c.requires.sized 0 _ c.requires.some))

pub plus-total-requires : goal.plus-total-requires
plus-total-requires c =
    let i = c.loop-i.i in
    let t : IsPointWithin (2 ^ 77 * i + 2 ^ 77) (plus c.loop-i.total c.index-corners-i.result) =
    plus_sized (2 ^ 77 * i) (2 ^ 77) c.loop-i.total c.index-corners-i.result c.loop-i.invariant.1 (rw c.index-corners-i.is (c.requires.sized i _ c.loop-i-test.true)) in
    sized_more (2 ^ 77 * i + 2 ^ 77) (2 ^ 84 - 1) _ t (omega arith)

pub loop-i-preserved : goal.loop-i-preserved
loop-i-preserved c =
    let i = c.loop-i.i in
    let t : IsPointWithin (2 ^ 77 * i + 2 ^ 77) (plus c.loop-i.total c.index-corners-i.result) =
    plus_sized (2 ^ 77 * i) (2 ^ 77) c.loop-i.total c.index-corners-i.result c.loop-i.invariant.1 (rw c.index-corners-i.is (c.requires.sized i _ c.loop-i-test.true)) in
    rw c.plus-total.ensures (
      sum_more _ i _ _ c.loop-i-test.true c.index-corners-i.is c.loop-i.invariant.0,
      sized_more (2 ^ 77 * i + 2 ^ 77) (2 ^ 77 * (i + 1)) _ t (omega arith),
    )

pub returns : goal.returns
returns c = sum_all _ _ _ (omega arith) c.loop-i.invariant.0
