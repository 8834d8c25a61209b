use Rattle.std.proofs.Common.{rules, ◌∙◌, ap}
use Rattle.srs_claim.specs.ClaimWord.{joining_view}
use Rattle.srs_claim.proofs.ClaimSteps.{joins, compares}
use Rattle.srs_claim.proofs.claims.Claims.join.Goals as goal

pub join_seat-requires : goal.join_seat-requires
join_seat-requires c = (search rules, search rules, search rules, search rules, joins _ _ _ _ _ _ c.seat.invariant.0 c.other.invariant.0)

pub load-requires : goal.load-requires
load-requires c =
    let v = c.seat.inside.seat.me.0 in
    let u = c.other.inside.seat.me.0 in
    (search rules, search rules, compares _ _ _ _ _ v u (c.join_seat.ensures.2 ∙ ap (λ l. (joining_view v u, l)) c.seat.invariant.1))
