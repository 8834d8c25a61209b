use Rattle.std.proofs.Common.{◌≡◌, ℕ, List, take, sym, subst, arith}
use Rattle.srs_num.specs.Points.{LinearForm}
use Rattle.srs_cell.specs.Corners.{boxed}
use Rattle.srs_cell.specs.Cutting.{IsFirstEnd}
use Rattle.srs_cell.proofs.Areas.{boxed_more}
use Rattle.srs_cell.proofs.ends.line_end.Goals as goal

pub loop-i-preserved : goal.loop-i-preserved
loop-i-preserved c =
    let R = c.args.region.now in
    let i = c.loop-i.i in
    let P : List LinearForm → Type 0 = λ hs. IsFirstEnd c.args.line.now hs c.nearer-end.result in
    subst P (sym (boxed_more R i c.half-half.result (omega arith) c.half-half.ensures)) (c.nearer-end.ensures (boxed (take i R)) c.loop-i.invariant)

pub returns : goal.returns
returns c =
    let P : ℕ → Type 0 = λ n. IsFirstEnd c.args.line.now (boxed (take n c.args.region.now)) c.loop-i.end in
    let e : c.loop-i.i ≡ c.args.count = omega arith in
    subst P e c.loop-i.invariant
