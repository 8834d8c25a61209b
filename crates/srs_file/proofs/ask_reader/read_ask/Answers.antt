use Rattle.std.proofs.lemmas.Result.{err_from_is_err_and}
use Rattle.srs_line.specs.Machine.{IsRead}
use Rattle.srs_file.specs.AskReading.{ask_start, AskSteps, AskEnds}
use Rattle.srs_file.proofs.AskTexts.{read_is_ask, no_ask}
use Rattle.srs_file.proofs.ask_reader.read_ask.Goals as goal

pub returns-in_err-read_lines-clause-outside : goal.returns-in_err-read_lines-clause-outside
returns-in_err-read_lines-clause-outside c =
    let p = err_from_is_err_and c.from_residual.result c.from_residual.ensures.1 in
    rw (p.1, p.2) (no_ask c.args.text.now _ (rw c.new-reader.ensures at c.in_err-read_lines.ensures.refused))

pub into_cert-requires : goal.into_cert-requires
into_cert-requires c =
    let last = c.read_lines.new.machine in
    let read : IsRead AskSteps AskEnds ask_start c.args.text.now last = rw c.new-reader.ensures at c.in_ok-read_lines.ensures.read in
    (read_is_ask c.args.text.now last read).of_certificate.certificate

pub returns-clause-accepted : goal.returns-clause-accepted
returns-clause-accepted c =
    let last = c.read_lines.new.machine in
    let read : IsRead AskSteps AskEnds ask_start c.args.text.now last = rw c.new-reader.ensures at c.in_ok-read_lines.ensures.read in
    rw c.in_ok-into_cert.ensures (read_is_ask c.args.text.now last read)
