use Rattle.std.proofs.lemmas.Result.{on_ok_weaker}
use Rattle.srs_check.proofs.LineSteps.{has_begun, begins_now, no_walk}
use Rattle.srs_check.proofs.line_check.begin.Goals as goal

pub returns-then-is_some : goal.returns-then-is_some
returns-then-is_some c = λ s d walks g v. has_begun s d c.args.walk.now c.if-is_some.ensures walks g

pub returns : goal.returns
returns c = on_ok_weaker c.start.result (λ started. λ s d walks g v. begins_now s d c.args.walk.now (no_walk c.args.walk.now c.if-is_some.ensures) c.start.new.walk walks (started d g.certificate v)) c.start.ensures
