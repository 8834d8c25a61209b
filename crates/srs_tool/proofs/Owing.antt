-- What is owed is what was written.
use Rattle.std.proofs.Common.{◌≡◌, inl, inr, ℕ, List, refl, Option}
use Rattle.std.specs.Prelude.{IfOk, Ok, Err}
use Rattle.std.specs.declared.result.Result.{Result}
use Rattle.srs_line.specs.declared.slip.Slip.{Slip}
use Rattle.srs_cert.specs.Certificates.{CertView}
use Rattle.srs_check.specs.declared.faults.Fault.{Fault}
use Rattle.srs_check.specs.Faults.{IsFirstFault}
use Rattle.srs_tool.specs.declared.commands.Command.{Command}
use Rattle.srs_tool.specs.declared.output.Output.{Output}
use Rattle.srs_tool.specs.declared.status.Status.{Status}
use Rattle.srs_tool.specs.declared.status.Status.TheVariants.{Done, Bad, Usage, NoMemory, ReadFault, WriteFault, Refused, TooLong}
use Rattle.srs_tool.specs.Inputs.{input_of, IsInput, HasFirstSlip, HasCertificate}
use Rattle.srs_tool.specs.Verdicts.{fault_line}
use Rattle.srs_tool.specs.Output.{Owes, refusal_line, refused_long}
use Rattle.srs_tool.specs.Ends.{Reads, IsOverlong, EndsBy, Says}

-- an output of this status and text, where there is one, is what is owed
pub owed_as : {E : Type 0} (command : Command) (text : List ℕ) (status : Status) (written : List ℕ) (r : Result Output E) → Owes command text status written
    → IfOk r (λ o. (o.status ≡ status) × (o.text ≡ written)) → IfOk r (λ o. Owes command text o.status o.text)
owed_as command text status written (Ok o) owed is = rw (is.0, is.1) owed
owed_as command text status written (Err e) owed is = is

-- the refusal of a text by its first slip
pub owed_refusal : {E : Type 0} (command : Command) (text : List ℕ) (line : ℕ) (slip : Slip) (r : Result Output E) → HasFirstSlip (input_of command) text line slip
    → (IsInput (input_of command) text → ⊥) → IfOk r (λ o. (o.status ≡ Refused) × (o.text ≡ refusal_line line slip))
    → IfOk r (λ o. Owes command text o.status o.text)
owed_refusal command text line slip r first none is =
    owed_as command text Refused (refusal_line line slip) r (record { line = line; slip = slip; first = first; no_input = none; written = refl }) is

-- the first fault of the certificate in a text
pub owed_fault : {E : Type 0} (command : Command) (text : List ℕ) (c : CertView) (line : ℕ) (fault : Fault) (r : Result Output E)
    → HasCertificate (input_of command) text c → IsFirstFault c line fault
    → IfOk r (λ o. (o.status ≡ Bad) × (o.text ≡ fault_line line fault)) → IfOk r (λ o. Owes command text o.status o.text)
owed_fault command text c line fault r has first is =
    owed_as command text Bad (fault_line line fault) r
    (record { certificate = c; spelled = has; line = line; fault = fault; first = first; written = refl }) is

-- where the source was read to its end and what is owed for that was said, the command has ended so
pub said : (c : Command) (text : List ℕ) (status : Status) (output : List ℕ) (result : Status) (left left_after : Option (List ℕ)) (reads reads_after : ℕ)
    (got got_after : Option (List ℕ)) (writes writes_after : ℕ)
    → Reads (input_of c) left left_after text → Owes c text status output
    → Says status result got got_after writes writes_after output
    → EndsBy c result left left_after reads reads_after got got_after writes writes_after
said c text Done output result l m r s g h w v read owed (inl (e, all)) = rw e (record { text = text; read = read; output = output; owed = owed; written = all })
said c text Bad output result l m r s g h w v read owed (inl (e, all)) = rw e (record { text = text; read = read; output = output; owed = owed; written = all })
said c text Refused output result l m r s g h w v read owed (inl (e, all)) = rw e (record { text = text; read = read; output = output; owed = owed; written = all })
said c text Usage output result l m r s g h w v read owed says = absurd owed
said c text NoMemory output result l m r s g h w v read owed says = absurd owed
said c text ReadFault output result l m r s g h w v read owed says = absurd owed
said c text WriteFault output result l m r s g h w v read owed says = absurd owed
said c text TooLong output result l m r s g h w v read owed says = absurd owed
said c text status output result l m r s g h w v read owed (inr (e, rose, front)) =
    rw e (rose, inl (record { text = text; read = read; status = status; output = output; owed = owed; written = front }))
