-- Lists of blocks may cross threads where their items may.
use Rattle.std.proofs.Crossing.{crosses}
use denote.RattleType.{RattleType}
use denote.Param.Send.{IsSend, IsSync, sendable}
use Rattle.srs_blocks.specs.contracts.few.Few as few
use Rattle.srs_blocks.specs.contracts.share.Shared as shared
use Rattle.srs_blocks.specs.contracts.list.BlockList as list

pub few_send : (T : RattleType) → IsSend T → IsSend (few.the_row T)
few_send T send = search (sendable, crosses) depth 20

pub few_sync : (T : RattleType) → IsSync T → IsSync (few.the_row T)
few_sync T sync = search (sendable, crosses) depth 20

pub shared_send : (T : RattleType) → IsSend T → IsSync T → IsSend (shared.the_row T)
shared_send T send sync = search (sendable, crosses) depth 20

pub shared_sync : (T : RattleType) → IsSend T → IsSync T → IsSync (shared.the_row T)
shared_sync T send sync = search (sendable, crosses) depth 20

pub list_send : (T : RattleType) → IsSend T → IsSync T → IsSend (list.the_row T)
list_send T send sync = search (sendable, crosses, few_send, few_sync, shared_send, shared_sync) depth 30

pub list_sync : (T : RattleType) → IsSend T → IsSync T → IsSync (list.the_row T)
list_sync T send sync = search (sendable, crosses, few_send, few_sync, shared_send, shared_sync) depth 30
