-- Claims may be shared by threads, and seats passed on.
use Rattle.std.proofs.Crossing.{crosses}
use denote.Param.Send.{IsSend, IsSync, sendable}
use Rattle.atomic_table.proofs.shared.Shared.TheSendSync as shared
use Rattle.atomic_table.proofs.send_lease.SendLease.TheSendSync as lease
use Rattle.atomic_table.proofs.shared.Seat.TheSendSync as seat
use Rattle.srs_claim.specs.contracts.claims.Claims as claims
use Rattle.srs_claim.specs.contracts.claims.ClaimSeat as claim_seat

-- the parts of a table
pub ruleset tables = (shared.the_send, shared.the_sync, lease.the_send, lease.the_sync)

pub claims_sync : IsSync claims.the_row
claims_sync = search (sendable, crosses, tables) depth 30

pub claim_seat_send : IsSend claim_seat.the_row
claim_seat_send = search (sendable, crosses, seat.the_send) depth 20
