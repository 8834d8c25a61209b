use Rattle.std.proofs.Common.{ℕ, inr}
use Rattle.std.proofs.lemmas.Result.{IfErr-weaker}
use Rattle.srs_line.specs.declared.slip.Slip.{Slip}
use Rattle.srs_line.specs.Refusal.{IsSlip}
use Rattle.srs_file.specs.Outline.{IsWholeOutline}
use Rattle.srs_file.specs.SessionReading.{SlipsSession}
use Rattle.srs_file.specs.LiveReading.{SessionsEnd, LiveSlips}
use Rattle.srs_file.proofs.Spelled.{slip_weaker}
use Rattle.srs_file.proofs.live_reader.LiveReaderLineMachine.take.Goals as goal

pub returns-clause-err : goal.returns-clause-err
returns-clause-err c =
    let old = c.args.self.now in
    let line = c.args.line.now in
    let whole : IsWholeOutline old.outline = c.is_whole.ensures.0 c.if-not-is_whole.false in
    let Slips : Slip → ℕ → Type 0 = λ slip back. (¬ (SessionsEnd old line)) × SlipsSession old.sessions line slip back in
    IfErr-weaker c.session.result (IsSlip Slips) (IsSlip (LiveSlips old line)) (slip_weaker Slips (LiveSlips old line) (λ slip back f. inr (whole, f.0, f.1))) c.session.ensures.err
