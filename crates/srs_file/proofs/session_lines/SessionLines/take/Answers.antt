use Rattle.std.proofs.Common.{◌≡◌, codes, inl, inr, rules}
use Rattle.std.proofs.lemmas.Result.{IfErr-weaker}
use Rattle.srs_line.specs.Fields.{HasWord}
use Rattle.srs_line.specs.Refusal.{IsSlip}
use Rattle.srs_file.specs.SessionReading.{IsBegun, IsOpening, SlipsBehind, SlipsSession}
use Rattle.srs_file.proofs.Spelled.{slip_weaker}
use Rattle.srs_file.proofs.session_lines.SessionLines.take.Goals as goal

pub returns-clause-err : goal.returns-clause-err
returns-clause-err c =
    let old = c.args.self.now in
    let line = c.args.line.now in
    let other : ¬ (line ≡ codes "session") = search rules in
    let no_round : ¬ (IsBegun old.stage × HasWord (codes "at") line) = search rules in
    let none : ¬ (IsOpening old line) = λ o. elim o.1 [ inl e ↦ other e | inr w ↦ no_round w ] in
    IfErr-weaker c.behind-2.result (IsSlip (SlipsBehind old line)) (IsSlip (SlipsSession old line)) (slip_weaker (SlipsBehind old line) (SlipsSession old line) (λ slip back f. inr (inr (none, f)))) c.behind-2.ensures.err
