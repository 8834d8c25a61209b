-- Lists may cross threads where their items may.
use Rattle.std.proofs.Crossing.{crosses}
use denote.RattleType.{RattleType}
use denote.Param.Send.{IsSend, IsSync, sendable}
use Rattle.srs_front.specs.contracts.links.Links as links
use Rattle.srs_front.specs.contracts.front.Front as front

pub links_send : IsSend links.the_row
links_send = search (sendable, crosses) depth 20

pub links_sync : IsSync links.the_row
links_sync = search (sendable, crosses) depth 20

pub front_send : (T : RattleType) → IsSend T → IsSend (front.the_row T)
front_send T send = search (sendable, crosses, links_send) depth 30

pub front_sync : (T : RattleType) → IsSync T → IsSync (front.the_row T)
front_sync T sync = search (sendable, crosses, links_sync) depth 30
