-- A good run ends well, or for want of memory.
use Rattle.std.proofs.Common.{◌≡◌, inl, inr, ℕ, ◌≤◌, ◌+◌, List, ◌++◌, length, length-append, append-nil, Option, Some, None, refl, sym, ap, subst, ◌∙◌, arith}
use Rattle.std.specs.Io.KnownBytes.{Consumes, IsAtEnd}
use Rattle.std.proofs.lemmas.Option.{none-some, same_Some}
use Rattle.srs_text.specs.Ends.{Rose, TookJust}
use Rattle.srs_cert.specs.Certificates.{CertView}
use Rattle.srs_tool.specs.declared.commands.Command.{Command}
use Rattle.srs_tool.specs.declared.commands.Input.{Input}
use Rattle.srs_tool.specs.declared.commands.Input.TheVariants.{Nothing, Polygon, Sessions, Certificate, Questions}
use Rattle.srs_tool.specs.declared.status.Status.{Status}
use Rattle.srs_tool.specs.declared.status.Status.TheVariants.{Done, Bad, Usage, NoMemory, ReadFault, WriteFault, Refused, TooLong}
use Rattle.srs_tool.specs.Inputs.{input_of, longest, IsInput, HasCertificate, BringsCertificate}
use Rattle.srs_tool.specs.Output.{EndsWell}
use Rattle.srs_tool.specs.Ends.{ReadsToEnd, Reads, EndsAs, IsOverlong, EndsBy, HoldsInput, Serves, Ends, IsGoodRun}

-- what was read to the end is what was there
same_input : (left left_after : Option (List ℕ)) (input bytes : List ℕ) → left ≡ Some input → Consumes left left_after bytes → IsAtEnd left_after → bytes ≡ input
same_input None left_after input bytes held taken end = absurd (none-some input held)
same_input (Some xs) None input bytes held taken end = absurd taken
same_input (Some xs) (Some ys) input bytes held taken end =
    sym (append-nil bytes) ∙ ap (λ (zs : List ℕ). bytes ++ zs) (sym end) ∙ sym taken ∙ same_Some xs input held

-- no more is taken than was there
took_within : (left left_after : Option (List ℕ)) (input bytes : List ℕ) → left ≡ Some input → Consumes left left_after bytes → length bytes ≤ length input
took_within None left_after input bytes held taken = absurd (none-some input held)
took_within (Some xs) None input bytes held taken = absurd taken
took_within (Some xs) (Some ys) input bytes held taken =
    let e : length input ≡ length bytes + length ys = ap length (sym (same_Some xs input held) ∙ taken) ∙ length-append bytes ys in omega (arith, e)

-- an input with a certificate is one that is checked
has_checked : (input : Input) (text : List ℕ) (c : CertView) → HasCertificate input text c → BringsCertificate input
has_checked Nothing text c has = absurd has
has_checked Polygon text c has = absurd has
has_checked Sessions text c has = absurd has
has_checked Certificate text c has = tt
has_checked Questions text c has = tt

end_good : (input : Input) (left left_after : Option (List ℕ)) (text : List ℕ)
    → HoldsInput input left → ReadsToEnd input left left_after text
    → IsInput input text
end_good input left left_after text holds read =
    subst (IsInput input)
    (sym (same_input left left_after holds.text text holds.held read.taken read.end)) holds.good

-- where the source serves, what is read is such an input
read_good : (input : Input) (left left_after : Option (List ℕ)) (text : List ℕ) → Serves input left
    → Reads input left left_after text
    → IsInput input text
read_good Nothing left left_after text served read = read.0
read_good Polygon left left_after text served read =
    end_good Polygon left left_after text served read
read_good Sessions left left_after text served read =
    end_good Sessions left left_after text served read
read_good Certificate left left_after text served read =
    end_good Certificate left left_after text served read
read_good Questions left left_after text served read =
    end_good Questions left left_after text served read

too_much : (input : Input) (left left_after : Option (List ℕ)) → HoldsInput input left
    → TookJust left left_after (longest input + 1) → ⊥
too_much input left left_after holds over =
    absurd (omega (
      arith,
      took_within left left_after holds.text over.0 holds.held over.1,
      over.2,
      holds.short,
    ))

-- where the source serves, it has no more than such an input may have
overrun_fails : (input : Input) (left left_after : Option (List ℕ)) → Serves input left
    → IsOverlong input left left_after → ⊥
overrun_fails Nothing left left_after served over = over
overrun_fails Polygon left left_after served over = too_much Polygon left left_after served over
overrun_fails Sessions left left_after served over = too_much Sessions left left_after served over
overrun_fails Certificate left left_after served over =
    too_much Certificate left left_after served over
overrun_fails Questions left left_after served over = too_much Questions left left_after served over

module _ (c : Command) (left left_after got got_after : Option (List ℕ))
    (served : Serves (input_of c) left) where
  refusal_fails : EndsAs c Refused left left_after got got_after → ⊥
  refusal_fails a = a.owed.no_input (read_good (input_of c) left left_after a.text served a.read)

  ends_well : (result : Status) (reads reads_after writes writes_after : ℕ)
      → EndsBy c result left left_after reads reads_after got got_after writes writes_after
      → ¬ (Rose reads reads_after) → ¬ (Rose writes writes_after) → EndsWell c result
  ends_well Done r s w v end no_read no_write = inl refl
  ends_well Bad r s w v end no_read no_write = inr (inr (refl, has_checked (input_of c) end.text end.owed.certificate end.owed.spelled))
  ends_well Usage r s w v end no_read no_write = absurd end
  ends_well NoMemory r s w v end no_read no_write = inr (inl refl)
  ends_well ReadFault r s w v end no_read no_write = absurd (no_read end.0)
  ends_well WriteFault r s w v end no_read no_write = absurd (no_write end.0)
  ends_well Refused r s w v end no_read no_write = absurd (refusal_fails end)
  ends_well TooLong r s w v end no_read no_write =
      absurd (overrun_fails (input_of c) left left_after served end.0)

-- where words ask for one command, a good run of it ends well
pub completes : (Asking : List (List ℕ) → Command → Type 0) (words : List (List ℕ)) (left left_after got got_after : Option (List ℕ))
    → ((c d : Command) → Asking words c → Asking words d → c ≡ d) → (good : IsGoodRun Asking words left)
    → (result : Status) (reads reads_after writes writes_after : ℕ)
    → Ends Asking words result left left_after reads reads_after got got_after writes writes_after
    → ¬ (Rose reads reads_after) → ¬ (Rose writes writes_after) → EndsWell good.command result
completes Asking words left left_after got got_after one good result reads reads_after writes writes_after ends no_read no_write =
    let same : ends.command ≡ good.command = one ends.command good.command ends.asked good.asked in
    let P : Command → Type 0 = λ d. EndsBy d result left left_after reads reads_after got got_after writes writes_after in
    ends_well good.command left left_after got got_after good.served
    result reads reads_after writes writes_after (subst P same ends.end) no_read no_write
