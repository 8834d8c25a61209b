-- The check of a certificate that is read line by line.
use Rattle.std.specs.Prelude.{◌≡◌, ℕ, ◌+◌, ◌≤◌, List, length}
use Rattle.std.specs.declared.option.Option.{Option}
use Rattle.std.specs.Io.KnownBytes.{Consumes, IsAtEnd}
use Rattle.srs_text.specs.declared.transfer.ReadErr.{ReadErr}
use Rattle.srs_text.specs.declared.transfer.ReadErr.TheVariants as reads
use Rattle.srs_line.specs.declared.slip.FileErr.{FileErr}
use Rattle.srs_line.specs.declared.slip.FileErr.TheVariants as files
use Rattle.srs_text.specs.Ends.{Rose, TookJust, TookUpTo}
use Rattle.srs_line.specs.declared.slip.Slip.{Slip}
use Rattle.srs_cert.specs.Certificates.{CertView}
use Rattle.srs_file.specs.Grammar.{SpellsCertificate}
use Rattle.srs_file.specs.CertReading.{FirstCertSlip}
use Rattle.srs_check.specs.declared.faults.Checked.{Checked}
use Rattle.srs_check.specs.declared.stream.CheckErr.{CheckErr}
use Rattle.srs_check.specs.declared.stream.CheckErr.TheVariants.{Read, At, NoMemory}
use Rattle.srs_check.specs.LineChecks.{ChecksText}

-- the source was read to its end, and gave this text, no longer than the limit
pub record TakesAll (left left_after : Option (List ℕ)) (limit : ℕ) (text : List ℕ) : Type 0 where
  pub taken : Consumes left left_after text
  pub end : IsAtEnd left_after
  pub short : length text ≤ limit

-- the source gave a certificate, and the answer is that of its check
pub record ChecksAll (left left_after : Option (List ℕ)) (limit : ℕ) (answer : Checked) : Type 0 where
  pub text : List ℕ
  pub all : TakesAll left left_after limit text
  pub answered : ChecksText text answer

-- the source gave a text with this first slip, which is that of no certificate
pub record HasSlip (left left_after : Option (List ℕ)) (limit line : ℕ) (slip : Slip) : Type 0 where
  pub text : List ℕ
  pub all : TakesAll left left_after limit text
  pub first : FirstCertSlip text line slip
  pub no_certificate : (c : CertView) → SpellsCertificate text c → ⊥

-- a failed read as the error of a check
abbrev pub IsReadErr : ReadErr → CheckErr → Type 0
IsReadErr reads.Fault error = error ≡ Read reads.Fault
IsReadErr reads.TooLong error = error ≡ Read reads.TooLong
IsReadErr reads.NoMemory error = error ≡ NoMemory

-- a refused text as the error of a check
abbrev pub IsFileErr : FileErr → CheckErr → Type 0
IsFileErr (files.At line slip) error = error ≡ At line slip
IsFileErr files.NoMemory error = error ≡ NoMemory

-- why there is no answer, and what was taken: the source failed; it has more than the limit; it was read to its end, and
-- slips; or memory was wanting
abbrev pub Stops : Option (List ℕ) → Option (List ℕ) → ℕ → ℕ → ℕ → CheckErr → Type 0
Stops left left_after faults faults_after limit (Read reads.Fault) = Rose faults faults_after × TookUpTo left left_after limit
Stops left left_after faults faults_after limit (Read reads.TooLong) = TookJust left left_after (limit + 1)
Stops left left_after faults faults_after limit (Read reads.NoMemory) = ⊥
Stops left left_after faults faults_after limit (At line slip) = HasSlip left left_after limit line slip
Stops left left_after faults faults_after limit NoMemory = TookUpTo left left_after (limit + 1)
