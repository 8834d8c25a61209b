-- One character more.
use Rattle.std.proofs.Common.{subst}
use Rattle.srs_num.specs.Points.{Point}
use Rattle.srs_tree.specs.Snapshots.{tree_of}
use Rattle.srs_tree.specs.Answers.{Answers, reply_of}
use Rattle.srs_raster.proofs.Rows.{part_more}
use Rattle.srs_raster.proofs.maps.put_row.Goals as goal

pub loop-i-preserved : goal.loop-i-preserved
loop-i-preserved g c =
    let reply = reply_of c.locate.result in
    part_more c.args.v.now.region (tree_of c.args.v.now) c.args.grid.now c.args.j c.loop-i.i c.args.text.now c.loop-i.text c.put.new.text c.shown.result c.loop-i.invariant
    (record {
      reply = reply;
      answers = subst (λ (r : Point). Answers c.args.v.now.region (tree_of c.args.v.now) r reply) c.point.ensures c.locate.ensures.answer;
      is = c.shown.ensures;
    })
    c.in_ok-put.ensures
