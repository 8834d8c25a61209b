-- One answer more.
use Rattle.std.proofs.Common.{◌≡◌, ◌+◌, ◌<◌, ◌++◌, [], ◌∷◌, List, length, take, sym, ap, subst, ◌∙◌, arith}
use Rattle.std.proofs.lemmas.List.{take_more, length-take-le}
use Rattle.srs_num.specs.Points.{Point}
use Rattle.srs_tree.specs.Answers.{reply_of}
use Rattle.srs_tree.specs.Snapshots.{tree_of}
use Rattle.srs_tool.specs.Benches.{CountsAnswers}
use Rattle.srs_tool.proofs.Benching.{answers_few, answer_more}
use Rattle.srs_tool.proofs.bench.uncounted.Goals as goal

pub with-counts-requires : goal.with-counts-requires
with-counts-requires g c =
    let v = c.args.version.now in
    let points = take c.loop-r.r-index c.args.points.now in
    record {
      few = omega (
        arith,
        answers_few v.region (tree_of v) points c.loop-r.counts c.loop-r.invariant,
        length-take-le c.loop-r.r-index c.args.points.now (omega arith),
      );
    }

pub loop-r-preserved : goal.loop-r-preserved
loop-r-preserved g c =
    let v = c.args.version.now in
    let points = c.args.points.now in
    let i = c.loop-r.r-index in
    let r : Point = c.r-item.result in
    let more : take (i + 1) points ≡ take i points ++ r ∷ [] =
    take_more points i r (omega arith)
    ∙ ap (λ (s : Point). take i points ++ s ∷ []) (sym c.r-item.is) in
    subst (λ (ps : List Point). CountsAnswers v.region (tree_of v) ps c.with-counts.result)
    (sym more)
    (answer_more v.region (tree_of v) (take i points) r
    (reply_of c.locate.result) c.loop-r.counts c.with-counts.result c.loop-r.invariant
    c.locate.ensures.answer c.with-counts.ensures.inside c.with-counts.ensures.outside
    c.with-counts.ensures.undecided c.with-counts.ensures.beyond)
