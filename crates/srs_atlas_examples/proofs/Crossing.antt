-- What threads share and hold may cross threads.
use Rattle.srs_tree.proofs.Crossing.{path_send, path_sync, cell_send, cell_sync}
use Rattle.srs_atlas.proofs.Crossing.{atlas_sync, pass_send}

-- what the closure of a thread holds, and what it gives
pub ruleset held = (atlas_sync, pass_send, cell_send, cell_sync, path_send, path_sync)
