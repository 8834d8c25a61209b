use Rattle.std.proofs.Common.{◌≡◌, ◌+◌, ◌*◌, ◌≤◌, List, length, ap, ◌∙◌, arith}
use Rattle.std.proofs.lemmas.List.FromFn.{length-map-range_with_len}
use Rattle.srs_num.specs.Points.{Point}
use Rattle.srs_gen.specs.Draws.{state_after}
use Rattle.srs_gen.specs.Samples.{point_from, made_points}
use Rattle.srs_tool.proofs.Benching.{bench_text_of}
use Rattle.srs_tool.proofs.bench.bench.Goals as goal

pub answers_at-answers-requires : goal.answers_at-answers-requires
answers_at-answers-requires c =
    let points : c.as_slice.result.now ≡ made_points c.args.s c.args.n =
    c.as_slice.ensures ∙ c.in_ok-sample.ensures.points in
    let size : length c.as_slice.result.now ≡ c.args.n =
    ap (λ (ps : List Point). length ps) points
    ∙ length-map-range_with_len
    (λ i. point_from (state_after (state_after c.args.s 3) (2 * i))) 0 c.args.n in
    omega (arith, size, c.requires)

pub returns-in-Ok : goal.returns-in-Ok
returns-in-Ok c =
    bench_text_of c.args.s c.args.n c.in_ok-sample.sample.vertices c.as_slice.result.now
    c.in_ok-version.version c.in_ok-version.nodes
    c.answers_at-answers.result c.in-Ok.text c.in_ok-sample.ensures.vertices
    (c.as_slice.ensures ∙ c.in_ok-sample.ensures.points)
    c.in_ok-version.ensures c.answers_at-answers.ensures c.in-Ok.ensures
