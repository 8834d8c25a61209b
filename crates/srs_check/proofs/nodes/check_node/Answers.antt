use Rattle.std.proofs.Common.{sym}
use Rattle.std.proofs.lemmas.Result.{on_ok_weaker}
use Rattle.srs_check.proofs.Soundness.{inside_sound}
use Rattle.srs_check.proofs.nodes.check_node.Goals as goal

pub returns-in-Inside-clause-sound : goal.returns-in-Inside-clause-sound
returns-in-Inside-clause-sound c = on_ok_weaker c.check_inside.result (inside_sound c.args.cell.now c.in-Inside.ranks c.args.outcome.now (sym c.in-Inside.is)) c.check_inside.ensures.ok
