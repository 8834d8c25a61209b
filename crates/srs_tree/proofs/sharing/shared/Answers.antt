-- A version is deep, and so is what shows that it may cross threads.
use Rattle.std.proofs.Crossing.{crosses}
use denote.Param.Send.{sendable}
use Rattle.srs_tree.proofs.Crossing.{version_send, version_sync, growing_send, growing_sync}
use Rattle.srs_tree.proofs.sharing.shared.Goals as goal

pub is_shared-requires-5-send-T : goal.is_shared-requires-5-send-T
is_shared-requires-5-send-T c κs = search (sendable, crosses, version_send) depth 10

pub is_shared-requires-5-sync-T : goal.is_shared-requires-5-sync-T
is_shared-requires-5-sync-T c κs = search (sendable, crosses, version_sync) depth 10

pub is_shared-requires-6-send-T : goal.is_shared-requires-6-send-T
is_shared-requires-6-send-T c κs = search (sendable, crosses, growing_send) depth 10

pub is_shared-requires-6-sync-T : goal.is_shared-requires-6-sync-T
is_shared-requires-6-sync-T c κs = search (sendable, crosses, growing_sync) depth 10

pub is_shared-requires-7-send-T : goal.is_shared-requires-7-send-T
is_shared-requires-7-send-T c κs = search (sendable, crosses, growing_send) depth 10

pub is_shared-requires-7-sync-T : goal.is_shared-requires-7-sync-T
is_shared-requires-7-sync-T c κs = search (sendable, crosses, growing_sync) depth 10
