-- What workers share and hold may cross threads.
use Rattle.std.proofs.Crossing.{crosses}
use denote.Param.Send.{IsSync, sendable}
use Rattle.srs_tree.proofs.Crossing.{path_sync, cell_send, cell_sync}
use Rattle.srs_claim.proofs.Crossing.{claims_sync, claim_seat_send}
use Rattle.srs_atlas.proofs.Crossing.{atlas_sync, pass_send}
use Rattle.srs_crew.specs.contracts.workers.Shift as shift

pub shift_sync : IsSync shift.the_row
shift_sync = search (sendable, crosses, path_sync, cell_send, cell_sync, claims_sync) depth 30

-- what a worker's closure holds
pub ruleset held = (atlas_sync, shift_sync, pass_send, claim_seat_send)
