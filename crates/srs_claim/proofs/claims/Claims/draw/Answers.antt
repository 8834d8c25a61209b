use Rattle.std.proofs.Common.{rules}
use Rattle.srs_claim.proofs.ClaimSteps.{draws}
use Rattle.srs_claim.proofs.claims.Claims.draw.Goals as goal

pub fetch_add-t-requires : goal.fetch_add-t-requires
fetch_add-t-requires c = let i = c.seat.invariant in (search rules, search rules, draws _ _ _ _ _ i.0 (search rules) i.1)
