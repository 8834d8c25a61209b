-- One point more.
use Rattle.std.proofs.Common.{◌≡◌, ◌++◌, [], ◌∷◌, ◌∙◌, sym, ap, ap₂, List, rules}
use Rattle.srs_num.specs.Points.{Point}
use Rattle.srs_gen.specs.Draws.{next_state}
use Rattle.srs_gen.specs.Samples.{point_from, points_from}
use Rattle.srs_gen.proofs.Drawn.{state_after_more, points_more}
use Rattle.srs_gen.proofs.samples.points.Goals as goal

pub loop-i-preserved : goal.loop-i-preserved
loop-i-preserved c =
    let x = c.args.draws.now in
    let pushed : c.push.new.self ≡ c.loop-i.points ++ c.point.result ∷ [] = search rules in
    let point : c.point.result ≡ point_from c.loop-i.draws = c.point.ensures.point in
    let draws : c.point.new.draws ≡ next_state (next_state c.loop-i.draws) =
    c.point.ensures.draws in
    record {
      points = pushed
          ∙ ap₂ (λ (ps : List Point) (r : Point). ps ++ r ∷ []) c.loop-i.invariant.points
          (point ∙ ap point_from c.loop-i.invariant.draws)
          ∙ sym (points_more x c.loop-i._i);
      draws = draws ∙ ap (λ y. next_state (next_state y)) c.loop-i.invariant.draws
          ∙ sym (state_after_more x c.loop-i._i);
    }
