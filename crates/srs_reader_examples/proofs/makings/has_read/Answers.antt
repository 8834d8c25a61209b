-- What a reader has read to the end is a certificate.
use Rattle.srs_line.specs.Machine.{IsRead}
use Rattle.srs_file.specs.CertReading.{cert_start, CertSteps, CertEnds}
use Rattle.srs_file.proofs.CertTexts.{read_is_cert}
use Rattle.srs_reader_examples.proofs.makings.has_read.Goals as goal

pub returns-in-Ok : goal.returns-in-Ok
returns-in-Ok c =
    let last = c.read_lines.new.machine in
    let text = c.as_bytes.result.now in
    let read : IsRead CertSteps CertEnds cert_start text last = rw c.new-reader.ensures at c.in-Ok.ensures.read in
    (read_is_cert text last read).certificate
