use Rattle.srs_num.proofs.Identities.{area_identity}
use Rattle.srs_plane.proofs.Fan.{corners_speak, vertices_speak}
use Rattle.srs_plane.proofs.Inside.{polygon_has_point}
use Rattle.srs_plane.proofs.laws.convexity.Goals as goal

pub returns-clause-weigh : goal.returns-clause-weigh
returns-clause-weigh c = area_identity

pub returns-clause-corners : goal.returns-clause-corners
returns-clause-corners c = corners_speak

pub returns-clause-vertices : goal.returns-clause-vertices
returns-clause-vertices c = vertices_speak

pub returns-clause-points : goal.returns-clause-points
returns-clause-points c = polygon_has_point
