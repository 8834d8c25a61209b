-- Threads may share segments and lists of them, and pass on what sessions were told.
use Rattle.std.proofs.Crossing.{crosses}
use denote.RattleType.{RattleType}
use denote.Param.Send.{IsSend, IsSync, sendable}
use Rattle.srs_num.specs.declared.lists.Kept.{Ghosts}
use Rattle.srs_num.specs.contracts.lists.Items as items
use Rattle.srs_tree.specs.contracts.queries.Said as said
use Rattle.srs_tree.specs.contracts.sessions.Segment as segment
use Rattle.srs_tree.proofs.Crossing.{cell_send, cell_sync}

pub items_send : (T K : RattleType) (kept : Ghosts K.Denot T.Denot) → IsSend T → IsSend K
    → IsSend (items.the_row T K kept)
items_send T K kept send kind = search (sendable, crosses) depth 20

pub items_sync : (T K : RattleType) (kept : Ghosts K.Denot T.Denot) → IsSync T → IsSync K
    → IsSync (items.the_row T K kept)
items_sync T K kept sync kind = search (sendable, crosses) depth 20

pub segment_send : IsSend segment.the_row
segment_send = search (sendable, crosses, cell_send) depth 30

pub segment_sync : IsSync segment.the_row
segment_sync = search (sendable, crosses, cell_sync) depth 30

pub said_send : IsSend said.the_row
said_send = search (sendable, crosses) depth 30

pub said_sync : IsSync said.the_row
said_sync = search (sendable, crosses) depth 30

-- what a session's closure shares, and what it gives
pub ruleset sessions = (items_send, items_sync, segment_send, segment_sync, said_send)
