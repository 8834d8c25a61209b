use Rattle.std.proofs.Common.{◌≡◌, ◌<◌, ◌++◌, [], ◌∷◌, ap, ◌∙◌, arith}
use Rattle.std.proofs.lemmas.Result.{err_from_is_err_and}
use Rattle.srs_file.specs.Ring.{RingView}
use Rattle.srs_file.proofs.Growing.{grows, slips_add}
use Rattle.srs_file.proofs.ring.Ring.add_last.Goals as goal

pub returns-in_err-region-clause-err : goal.returns-in_err-region-clause-err
returns-in_err-region-clause-err c =
    let p = err_from_is_err_and c.from_residual-in_err-region.result c.from_residual-in_err-region.ensures.1 in
    let r = c.self.inside in
    let last : r.left ≡ 1 = rw (← c.self.view_is) at c.requires.last in
    let old : RingView = record { left = r.left; vertices = r.vertices; region = r.region } in
    let all : c.push.new.self ≡ r.vertices ++ c.args.vertex ∷ [] = c.in-Ok.ensures.ok ∙ ap (λ l. l ++ c.args.vertex ∷ []) (c.in_ok-vertices.ensures ∙ c.as_slice.ensures) in
    rw (p.1, p.2, ← c.self.view_is) (slips_add old c.args.vertex c.push.new.self _ last all c.in_err-region.ensures.err)

pub invariant_of-self : goal.invariant_of-self
invariant_of-self c =
    let r = c.self.inside in
    let last : r.left ≡ 1 = rw (← c.self.view_is) at c.requires.last in
    let more : 0 < r.left = omega arith in
    let all : c.push.new.self ≡ r.vertices ++ c.args.vertex ∷ [] = c.in-Ok.ensures.ok ∙ ap (λ l. l ++ c.args.vertex ∷ []) (c.in_ok-vertices.ensures ∙ c.as_slice.ensures) in
    rw last at (grows r.left r.vertices c.push.new.self c.args.vertex c.self.invariant more c.requires.placed all)
