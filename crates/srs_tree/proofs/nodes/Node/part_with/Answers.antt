-- The side of the form's sign.
use Rattle.std.proofs.Common.{◌+◌, ◌<ℤ◌, pos, ap, arith}
use Rattle.std.proofs.lemmas.Int.{ints}
use Rattle.srs_num.specs.Points.{value}
use Rattle.srs_path.specs.declared.paths.Side.TheVariants.{Lt}
use Rattle.srs_tree.proofs.TreeCut.{on_side}
use Rattle.srs_tree.proofs.nodes.Node.part_with.Goals as goal

pub returns-else-at-ge0-clause-some : goal.returns-else-at-ge0-clause-some
returns-else-at-ge0-clause-some g c =
    let form = c.in_ok-form.form.now in
    let cut = c.in_ok-form.ensures in
    let at = c.at.ensures.value in
    let test = c.if-at-ge0.false in
    let low : value form c.args.r.now <ℤ pos 0 = grind (arith, ints, at, test) in
    record {
      form = form;
      side = Lt;
      cut = cut.0;
      place = ap (λ n. n + 1) cut.1;
      inside = on_side Lt form c.args.r.now low;
    }
