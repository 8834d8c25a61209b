use Rattle.std.proofs.Common.{refl, inl}
use Rattle.std.proofs.lemmas.Result.{on_ok_weaker, IfErr-weaker}
use Rattle.srs_line.specs.Refusal.{IsSlip}
use Rattle.srs_file.specs.QuestionReading.{TakesInSession, SlipsInSession}
use Rattle.srs_file.specs.SessionReading.{SessionsView, HasRound, SlipsBehind}
use Rattle.srs_file.proofs.Spelled.{slip_weaker}
use Rattle.srs_file.proofs.session_lines.SessionLines.behind.Goals as goal

pub returns-in-At-clause-ok : goal.returns-in-At-clause-ok
returns-in-At-clause-ok c =
    let round : HasRound c.self.inside.stage = rw c.in-At.is tt in
    rw (← c.self.view_is) (on_ok_weaker c.take_in_session.result (λ (p : TakesInSession c.self.inside.questions c.args.line.now c.take_in_session.new.self). (round, c.take_in_session.new.self, p, refl)) c.take_in_session.ensures.ok)

pub returns-in-At-clause-err : goal.returns-in-At-clause-err
returns-in-At-clause-err c =
    let round : HasRound c.self.inside.stage = rw c.in-At.is tt in
    let line = c.args.line.now in
    let old : SessionsView = record { script = c.self.inside.script; stage = c.self.inside.stage; segments = c.self.inside.segments; questions = c.self.inside.questions } in
    rw (← c.self.view_is) (IfErr-weaker c.take_in_session.result (IsSlip (SlipsInSession old.questions line)) (IsSlip (SlipsBehind old line))
    (slip_weaker (SlipsInSession old.questions line) (SlipsBehind old line) (λ slip back f. inl (round, f))) c.take_in_session.ensures.err)
