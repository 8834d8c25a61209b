use Rattle.std.proofs.Common.{rules, FitsSigned, w64, to_z-of_z, ◌≡◌, false, true≢false, refl, sym, subst, ◌∙◌, arith}
use Rattle.srs_check.specs.Listed.{IsBelow}
use Rattle.srs_check.proofs.BothLinks.{sees_one, goes_down, closed, least_above}
use Rattle.srs_check.proofs.listed.is_closed.Goals as goal
use Rattle.srs_check.proofs.listed.is_closed.Goals.{then-stays_up+else-k-gt0, else-stays_up}

pub loop-k-preserved : goal.loop-k-preserved
loop-k-preserved c =
    sees_one c.args.ranks.now (c.args.w, c.args.rank) c.args.w c.links-span.result.low c.loop-k.k c.loop-k.place c.loop-k.least_stays c.if-stays_up.least_stays c.pair-v.result c.in-Some.reached
    c.loop-k.invariant c.pair-v.ensures c.in-Some.ensures.some (c.in-Some.ensures.next refl)
    (λ late. elim c.if-stays_up.branch as (λ _. IsBelow c.args.ranks.now (c.args.w, c.args.rank) c.pair-v.result) [
      | then-stays_up+else-k-gt0 w ↦ absurd (omega (arith, late, w.if-k-gt0.false))
      | else-stays_up w ↦ goes_down c.args.ranks.now c.place_for-place.ensures.list c.args.w c.args.rank c.pair-v.result c.in-Some.reached c.in-Some.ensures.some w.if-stays_up.ensures.1
    ])
    (λ calm. elim c.if-stays_up.branch as (λ _. IsBelow c.args.ranks.now (c.args.w, c.args.rank) c.pair-v.result × (c.loop-k.least_stays ≡ false)) [
      | then-stays_up+else-k-gt0 w ↦ absurd (true≢false (sym w.least_stays-is ∙ calm))
      | else-stays_up w ↦ (goes_down c.args.ranks.now c.place_for-place.ensures.list c.args.w c.args.rank c.pair-v.result c.in-Some.reached c.in-Some.ensures.some w.if-stays_up.ensures.1, sym w.least_stays-is ∙ calm)
    ])

pub returns-then-not-least_stays : goal.returns-then-not-least_stays
returns-then-not-least_stays c t =
    closed c.args.cell.now c.args.ranks.now c.args.w c.args.rank c.links-span.result.low c.links-span.result.high c.count-k-end.result c.links-span.ensures c.count-k-end.ensures
    c.loop-k.k c.loop-k.place c.loop-k.invariant.walked (omega arith)
    (λ positive v leads is. subst (IsBelow c.args.ranks.now (c.args.w, c.args.rank)) (sym is) (c.loop-k.invariant.least (search rules) positive))

pub returns-else-not-least_stays : goal.returns-else-not-least_stays
returns-else-not-least_stays c t =
    let fits : FitsSigned w64 c.links-span.result.low = search rules in
    closed c.args.cell.now c.args.ranks.now c.args.w c.args.rank c.links-span.result.low c.links-span.result.high c.count-k-end.result c.links-span.ensures c.count-k-end.ensures
    c.loop-k.k c.loop-k.place c.loop-k.invariant.walked (omega arith)
    (λ positive v leads is. absurd (least_above c.args.w c.links-span.result.low v (rw (to_z-of_z fits) at (c.leads_above.ensures t v leads)) is))
