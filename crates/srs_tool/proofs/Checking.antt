-- What the check of a source owes.
use Rattle.std.proofs.Common.{◌≡◌, ◌^◌, ◌∙◌, ℕ, List, Option, refl, sym, ap, subst}
use Rattle.std.specs.Prelude.{IfOk, IfErr, IsErrOf}
use Rattle.std.specs.declared.result.Result.{Result}
use Rattle.std.specs.declared.result.Result.TheVariants.{Ok, Err}
use Rattle.srs_num.specs.declared.pairs.NoMemory.{NoMemory}
use Rattle.srs_text.specs.declared.transfer.ReadErr.{ReadErr}
use Rattle.srs_text.specs.declared.transfer.ReadErr.TheVariants as reads
use Rattle.srs_line.specs.declared.slip.Slip.{Slip}
use Rattle.srs_check.specs.declared.faults.Checked.{Checked}
use Rattle.srs_check.specs.declared.faults.Checked.TheVariants.{Valid, Bad as BadNode}
use Rattle.srs_check.specs.Streams.{TakesAll, ChecksAll, HasSlip}
use Rattle.srs_tool.specs.declared.commands.Command.TheVariants.{Check}
use Rattle.srs_tool.specs.declared.commands.Input.TheVariants.{Certificate}
use Rattle.srs_tool.specs.declared.output.Output.{Output}
use Rattle.srs_tool.specs.declared.status.Status.{Status}
use Rattle.srs_tool.specs.declared.status.Status.TheVariants.{Refused}
use Rattle.srs_tool.specs.Verdicts.{IsVerdict, valid_line}
use Rattle.srs_tool.specs.Output.{refusal_line}
use Rattle.srs_tool.specs.Ends.{ReadsToEnd, Brings}

-- what is known of an output holds of the same one
carried : (P : Output → Type 0) (r : Result Output NoMemory) (s : Result Output ReadErr) → IfOk r P → IfOk s (λ o. r ≡ Ok o) → IfOk s P
carried P r (Ok o) h e = subst (λ (x : Result Output NoMemory). IfOk x P) e h
carried P r (Err error) h e = e

module _ (left left_after : Option (List ℕ)) where
  all_read : (text : List ℕ) → TakesAll left left_after (2 ^ 27) text → ReadsToEnd Certificate left left_after text
  all_read text all = record { taken = all.taken; end = all.end; short = all.short }

  verdict_owed : (a : Checked) (status : Status) (output : List ℕ) → ChecksAll left left_after (2 ^ 27) a → IsVerdict a status output
      → Brings Check left left_after status output
  verdict_owed (Valid counts) status output all v =
      let t = all.answered in
      subst (λ (s : Status). Brings Check left left_after s output) (sym v.0) (record {
        text = all.text;
        read = all_read all.text all.all;
        owed = record { certificate = t.certificate; spelled = t.spelled; proved = t.checked.0; certified = t.certified; written = v.1 ∙ ap valid_line t.checked.1 };
      })
  verdict_owed (BadNode line fault) status output all v =
      let t = all.answered in
      subst (λ (s : Status). Brings Check left left_after s output) (sym v.0) (record {
        text = all.text;
        read = all_read all.text all.all;
        owed = record { certificate = t.certificate; spelled = t.spelled; line = line; fault = fault; first = t.checked.0; written = v.1 };
      })

  refusal_owed : (line : ℕ) (slip : Slip) (status : Status) (output : List ℕ) → HasSlip left left_after (2 ^ 27) line slip
      → (status ≡ Refused) × (output ≡ refusal_line line slip) → Brings Check left left_after status output
  refusal_owed line slip status output h v =
      subst (λ (s : Status). Brings Check left left_after s output) (sym v.0) (record {
        text = h.text;
        read = all_read h.text h.all;
        owed = record { line = line; slip = slip; first = h.first; no_input = λ i. h.no_certificate i.0 i.1; written = v.1 };
      })

  -- the answer of a check, as it is told
  pub answered : (a : Checked) (r : Result Output NoMemory) (s : Result Output ReadErr) → ChecksAll left left_after (2 ^ 27) a
      → IfOk r (λ o. IsVerdict a o.status o.text) → IfOk s (λ o. r ≡ Ok o) → IfOk s (λ o. Brings Check left left_after o.status o.text)
  answered a (Ok o) s all v e = carried (λ (x : Output). Brings Check left left_after x.status x.text) (Ok o) s (verdict_owed a o.status o.text all v) e
  answered a (Err error) (Ok o) all v e = absurd (cc)
  answered a (Err error) (Err other) all v e = e

  -- the refusal of a text, as it is told
  pub slipped : (line : ℕ) (slip : Slip) (r : Result Output NoMemory) (s : Result Output ReadErr) → HasSlip left left_after (2 ^ 27) line slip
      → IfOk r (λ o. (o.status ≡ Refused) × (o.text ≡ refusal_line line slip)) → IfOk s (λ o. r ≡ Ok o)
      → IfOk s (λ o. Brings Check left left_after o.status o.text)
  slipped line slip (Ok o) s h v e = carried (λ (x : Output). Brings Check left left_after x.status x.text) (Ok o) s (refusal_owed line slip o.status o.text h v) e
  slipped line slip (Err error) (Ok o) h v e = absurd (cc)
  slipped line slip (Err error) (Err other) h v e = e

  -- the same where the limit and the answer have other names
  pub answered_as : (n : ℕ) (a b : Checked) (r : Result Output NoMemory) (s : Result Output ReadErr) → ChecksAll left left_after n a
      → IfOk r (λ o. IsVerdict b o.status o.text) → IfOk s (λ o. r ≡ Ok o) → n ≡ 2 ^ 27 → a ≡ b
      → IfOk s (λ o. Brings Check left left_after o.status o.text)
  answered_as n a b r s all v e is same =
      answered b r s (subst (λ (x : Checked). ChecksAll left left_after (2 ^ 27) x) same (subst (λ (m : ℕ). ChecksAll left left_after m a) is all)) v e
