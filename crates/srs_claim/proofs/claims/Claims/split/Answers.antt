use Rattle.std.proofs.Common.{rules}
use Rattle.srs_claim.proofs.ClaimSteps.{splits}
use Rattle.srs_claim.proofs.claims.Claims.split.Goals as goal

pub split_seat-other-requires : goal.split_seat-other-requires
split_seat-other-requires c = let i = c.seat.invariant in (search rules, search rules, splits _ _ _ _ i.0 (search rules))
