use Rattle.std.proofs.Common.{◌≡◌, refl}
use Rattle.std.proofs.lemmas.Bool.{false≢true}
use Rattle.srs_num.specs.Lines.{sum_of}
use Rattle.srs_cell.specs.Corners.{boxed}
use Rattle.srs_cell.proofs.Areas.{no_point, sum_in_halves, sum_inside}
use Rattle.srs_cell.proofs.cells.inhabited.Goals as goal

pub returns-then-not-is_inside-clause-cell : goal.returns-then-not-is_inside-clause-cell
returns-then-not-is_inside-clause-cell c =
    let s : c.sum-sample.result ≡ sum_of c.args.corners.items = rw c.deref.ensures.value at c.sum-sample.ensures in
    no_point c.args.region c.args.corners.items c.requires c.len.ensures.near (λ a. false≢true (c.if-not-is_inside.ensures.1 (rw s a)))

pub invariant_of-result : goal.invariant_of-result
invariant_of-result c =
    let s : c.sum-sample.result ≡ sum_of c.args.corners.items = rw c.deref.ensures.value at c.sum-sample.ensures in (
      sum_of c.args.corners.items,
      record {
        corners = rw c.new.ensures c.requires;
        inside = sum_inside c.args.region c.args.corners.items c.requires (rw s at (c.if-not-is_inside.ensures.0 refl));
        count = rw c.len.ensures.value at c.len.ensures.high;
        near = c.len.ensures.near;
      },
    )

pub returns-clause-point : goal.returns-clause-point
returns-clause-point c =
    let s : c.sum-sample.result ≡ sum_of c.args.corners.items = rw c.deref.ensures.value at c.sum-sample.ensures in
    λ _. (sum_of c.args.corners.items, sum_inside c.args.region c.args.corners.items c.requires (rw s at (c.if-not-is_inside.ensures.0 refl)))

pub is_inside-requires : goal.is_inside-requires
is_inside-requires c =
    let s : c.sum-sample.result ≡ sum_of c.args.corners.items = rw c.deref.ensures.value at c.sum-sample.ensures in
    rw s (sum_in_halves (boxed c.args.region) c.args.corners.items c.requires.hull.inside c.requires.some)
