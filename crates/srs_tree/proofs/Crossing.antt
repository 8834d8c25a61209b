-- Versions may cross threads.
use Rattle.std.proofs.Crossing.{crosses}
use denote.Param.Send.{IsSend, IsSync, sendable}
use Rattle.srs_plane.specs.contracts.regions.Region as region
use Rattle.srs_plane.proofs.chains.Chain.TheLaws.TheKnot.{both_send-Chain, both_sync-Chain}
use Rattle.srs_cell.specs.contracts.cells.Cell as cell
use Rattle.srs_path.specs.contracts.outcomes.Outcome as outcome
use Rattle.srs_path.specs.contracts.paths.Path as path
use Rattle.srs_blocks.proofs.Crossing.{list_send, list_sync}
use Rattle.srs_tree.specs.contracts.nodes.Bare as bare
use Rattle.srs_tree.specs.contracts.nodes.Node as node
use Rattle.srs_tree.specs.contracts.versions.Version as version
use Rattle.srs_tree.specs.contracts.in_place.GrowingTree as growing

pub region_send : IsSend region.the_row
region_send = search (sendable, crosses, both_send-Chain, both_sync-Chain) depth 20

pub region_sync : IsSync region.the_row
region_sync = search (sendable, crosses, both_send-Chain, both_sync-Chain) depth 20

pub cell_send : IsSend cell.the_row
cell_send = search (sendable, crosses, region_send) depth 20

pub cell_sync : IsSync cell.the_row
cell_sync = search (sendable, crosses, region_sync) depth 20

pub outcome_send : IsSend outcome.the_row
outcome_send = search (sendable, crosses) depth 40

pub outcome_sync : IsSync outcome.the_row
outcome_sync = search (sendable, crosses) depth 40

pub path_send : IsSend path.the_row
path_send = search (sendable, crosses) depth 20

pub path_sync : IsSync path.the_row
path_sync = search (sendable, crosses) depth 20

pub bare_send : IsSend bare.the_row
bare_send = search (sendable, crosses, region_send) depth 20

pub bare_sync : IsSync bare.the_row
bare_sync = search (sendable, crosses, region_sync) depth 20

pub node_send : IsSend node.the_row
node_send = search (sendable, crosses, cell_send, cell_sync, bare_send, outcome_send, outcome_sync, path_send, path_sync) depth 30

pub node_sync : IsSync node.the_row
node_sync = search (sendable, crosses, cell_send, cell_sync, bare_sync, outcome_send, outcome_sync, path_send, path_sync) depth 30

pub version_send : IsSend version.the_row
version_send = search (sendable, crosses, node_send, node_sync, list_send) depth 20

pub version_sync : IsSync version.the_row
version_sync = search (sendable, crosses, node_send, node_sync, list_sync) depth 20

pub growing_send : IsSend growing.the_row
growing_send = search (sendable, crosses, node_send, node_sync, list_send) depth 20

pub growing_sync : IsSync growing.the_row
growing_sync = search (sendable, crosses, node_send, node_sync, list_sync) depth 20
