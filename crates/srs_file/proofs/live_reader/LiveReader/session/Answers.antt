use Rattle.std.proofs.Common.{ℕ, rules}
use Rattle.std.proofs.lemmas.Result.{IfErr-weaker}
use Rattle.srs_line.specs.declared.slip.Slip.{Slip}
use Rattle.srs_line.specs.Refusal.{IsSlip}
use Rattle.srs_file.specs.SessionReading.{SlipsSession}
use Rattle.srs_file.specs.LiveReading.{SessionsEnd}
use Rattle.srs_file.proofs.Spelled.{slip_weaker}
use Rattle.srs_file.proofs.live_reader.LiveReader.session.Goals as goal

pub returns-clause-err : goal.returns-clause-err
returns-clause-err c =
    let old = c.args.self.now in
    let line = c.args.line.now in
    let other : ¬ (SessionsEnd old line) = search rules in
    let Slips : Slip → ℕ → Type 0 = SlipsSession old.sessions line in
    let Here : Slip → ℕ → Type 0 = λ slip back. (¬ (SessionsEnd old line)) × SlipsSession old.sessions line slip back in
    IfErr-weaker c.take.result (IsSlip Slips) (IsSlip Here) (slip_weaker Slips Here (λ slip back f. (other, f))) c.take.ensures.err
