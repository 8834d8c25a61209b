-- What a book holds is deep, and so is what shows that it may cross threads.
use Rattle.std.proofs.Crossing.{crosses}
use denote.Param.Send.{sendable}
use Rattle.atomic_table.proofs.shared.Seat.TheSendSync as seat
use Rattle.srs_atlas.proofs.Crossing.{atlas_send, atlas_sync, book_send, book_sync}
use Rattle.srs_atlas.proofs.sharing.shared.Goals as goal

pub is_shared-requires-send-T : goal.is_shared-requires-send-T
is_shared-requires-send-T c κs = search (sendable, atlas_send) depth 10

pub is_shared-requires-sync-T : goal.is_shared-requires-sync-T
is_shared-requires-sync-T c κs = search (sendable, atlas_sync) depth 10

pub is_sent-requires-send-T : goal.is_sent-requires-send-T
is_sent-requires-send-T c κs = search (sendable, crosses, seat.the_send, book_send, book_sync) depth 20
