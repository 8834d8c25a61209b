-- The lines of a source, one after another.
use Rattle.std.proofs.Common.{◌≡◌, ℕ, ◌+◌, ◌-◌, ◌<◌, ◌≤◌, List, [], ◌∷◌, ◌++◌, length, Err, Some, None, refl, sym, ap, subst, ◌∙◌, arith, append_assoc, length-append}
use Rattle.std.specs.Prelude.{MatchOption, IsNone, IsErrOf, is_some}
use Rattle.std.specs.declared.option.Option.{Option}
use Rattle.std.specs.declared.result.Result.{Result}
use Rattle.std.specs.Io.KnownBytes.{Consumes, IsAtEnd}
use Rattle.std.proofs.KnownBytes.{Consumes-trans}
use Rattle.srs_text.specs.Line.{IsLineOf}
use Rattle.srs_text.specs.Ends.{Rose, TookJust, TookUpTo}
use Rattle.srs_text.specs.declared.transfer.ReadErr.{ReadErr}
use Rattle.srs_text.specs.declared.transfer.ReadErr.TheVariants as reads
use Rattle.srs_text.specs.declared.feeds.Fed.{Fed}
use Rattle.srs_text.specs.Feeds.{LineFeedView, new_feed, Takes, FeedsOn, Feeds}
use Rattle.srs_line.specs.declared.slip.Slip.{Slip}
use Rattle.srs_line.specs.declared.slip.FileErr.{FileErr}
use Rattle.srs_line.specs.declared.slip.FileErr.TheVariants.{At, NoMemory as FileNoMemory}
use Rattle.srs_line.specs.Machine.{lines_text}
use Rattle.srs_file.specs.CertReading.{IsCertRefusal}
use Rattle.srs_file.proofs.CertRuns.{no_cert}
use Rattle.srs_check.specs.declared.faults.Checked.{Checked}
use Rattle.srs_check.specs.declared.line_check.LineCheck.{LineCheck}
use Rattle.srs_check.specs.LineChecks.{HasTaken, ChecksText}
use Rattle.srs_check.specs.declared.stream.CheckErr.{CheckErr}
use Rattle.srs_check.specs.Streams.{TakesAll, ChecksAll, HasSlip, Stops, IsReadErr, IsFileErr}
use Rattle.srs_check.proofs.LineSteps.{text_more}

-- what was taken so far: these lines were checked, and the rest is held
pub record HasFed (before now : Option (List ℕ)) (limit : ℕ) (feed : LineFeedView) (check : LineCheck) : Type 0 where
  pub lines : List (List ℕ)
  pub bytes : List ℕ
  pub checked : HasTaken check lines
  pub lost : Consumes before now bytes
  pub split : bytes ≡ lines_text lines ++ feed.held
  pub count : feed.taken ≡ length bytes
  pub limit_is : feed.limit ≡ limit
  pub within : feed.taken ≤ feed.limit
  pub works : feed.failed ≡ None

nothing_lost : (left : Option (List ℕ)) → Consumes left left []
nothing_lost None = tt
nothing_lost (Some xs) = refl

-- before the first line
pub fed_nothing : (left : Option (List ℕ)) (limit : ℕ) (feed : LineFeedView) (check : LineCheck) → feed ≡ new_feed limit → HasTaken check [] → HasFed left left limit feed check
fed_nothing left limit feed check new checked = subst (λ (f : LineFeedView). HasFed left left limit f check) (sym new) (record {
  lines = [];
  bytes = [];
  checked = checked;
  lost = nothing_lost left;
  split = refl;
  count = refl;
  limit_is = refl;
  within = omega arith;
  works = refl;
})

module _ (before now after : Option (List ℕ)) (limit : ℕ) (feed : LineFeedView) (check : LineCheck) (s : HasFed before now limit feed check) where
  -- more bytes were taken
  all_bytes : (more : List ℕ) → Consumes now after more → Consumes before after (s.bytes ++ more)
  all_bytes more lost = Consumes-trans before now after s.bytes more s.lost lost

  regroup : (a h b c : List ℕ) → h ++ b ≡ c → (a ++ h) ++ b ≡ a ++ c
  regroup a h b c e = append_assoc a h b ∙ ap (λ x. a ++ x) e

  pub fed_line : (next : LineFeedView) (more line : List ℕ) (done : LineCheck) → Consumes now after more → Takes feed more next → IsLineOf (feed.held ++ more) line next.held → HasTaken done (s.lines ++ line ∷ [])
      → HasFed before after limit next done
  fed_line next more line done lost takes l checked =
      let whole : feed.held ++ more ≡ (line ++ 10 ∷ []) ++ next.held = l.whole ∙ sym (append_assoc line (10 ∷ []) next.held) in
      record {
        lines = s.lines ++ line ∷ [];
        bytes = s.bytes ++ more;
        checked = checked;
        lost = all_bytes more lost;
        split = ap (λ x. x ++ more) s.split ∙ regroup (lines_text s.lines) feed.held more ((line ++ 10 ∷ []) ++ next.held) whole
            ∙ sym (append_assoc (lines_text s.lines) (line ++ 10 ∷ []) next.held) ∙ ap (λ x. x ++ next.held) (text_more s.lines line);
        count = omega (arith, takes.taken, s.count, length-append s.bytes more);
        limit_is = takes.limit ∙ s.limit_is;
        within = takes.within;
        works = takes.failed;
      }

  -- how much is left to do falls with each line
  pub less_left : (next : LineFeedView) (more line : List ℕ) → Takes feed more next → IsLineOf (feed.held ++ more) line next.held → (next.limit - next.taken) + length next.held < (feed.limit - feed.taken) + length feed.held
  less_left next more line takes l =
      omega (arith, length-append feed.held more, ap length l.whole, length-append line (10 ∷ next.held), takes.taken, takes.within, takes.limit)

  -- the text is whole
  pub fed_all : (next : LineFeedView) (more rest : List ℕ) → Consumes now after more → Takes feed more next → feed.held ++ more ≡ rest → IsAtEnd after → TakesAll before after limit (lines_text s.lines ++ rest)
  fed_all next more rest lost takes e end =
      let text : s.bytes ++ more ≡ lines_text s.lines ++ rest = ap (λ x. x ++ more) s.split ∙ regroup (lines_text s.lines) feed.held more rest e in
      subst (TakesAll before after limit) text (record { taken = all_bytes more lost; end = end; short = omega (arith, length-append s.bytes more, takes.taken, takes.within, takes.limit, s.count, s.limit_is) })

  -- too much was taken
  pub fed_over : TookJust now after (feed.limit + 1 - feed.taken) → TookJust before after (limit + 1)
  fed_over (more, lost, size) = (s.bytes ++ more, all_bytes more lost, omega (arith, size, length-append s.bytes more, s.count, s.within, s.limit_is))

  pub fed_upto : TookUpTo now after (feed.limit - feed.taken) → TookUpTo before after limit
  fed_upto (more, lost, size) = (s.bytes ++ more, all_bytes more lost, omega (arith, size, length-append s.bytes more, s.count, s.within, s.limit_is))

  pub fed_above : TookUpTo now after (feed.limit + 1 - feed.taken) → TookUpTo before after (limit + 1)
  fed_above (more, lost, size) = (s.bytes ++ more, all_bytes more lost, omega (arith, size, length-append s.bytes more, s.count, s.within, s.limit_is))

  pub fed_more : (next : LineFeedView) (more : List ℕ) → Consumes now after more → Takes feed more next → TookUpTo before after (limit + 1)
  fed_more next more lost takes = (s.bytes ++ more, all_bytes more lost, omega (arith, takes.taken, takes.within, takes.limit, length-append s.bytes more, s.count, s.limit_is))

-- the first slip of the text
pub slips_all : (before after : Option (List ℕ)) (limit : ℕ) (text : List ℕ) (line : ℕ) (slip : Slip) → TakesAll before after limit text → IsCertRefusal text (At line slip) → HasSlip before after limit line slip
slips_all before after limit text line slip all first = record { text = text; all = all; first = first; no_certificate = no_cert text (At line slip) first }

pub checks_all : (before after : Option (List ℕ)) (limit : ℕ) (text : List ℕ) (answer : Checked) → TakesAll before after limit text → ChecksText text answer → ChecksAll before after limit answer
checks_all before after limit text answer all answered = record { text = text; all = all; answered = answered }

-- what a feed that hasn't failed is after a call
pub feeds_on : (before after : Option (List ℕ)) (feed next : LineFeedView) (r : Result Fed ReadErr) → feed.failed ≡ None → Feeds feed before after r next → FeedsOn feed before after r next
feeds_on before after feed next r works feeds = subst (λ (o : Option ReadErr). MatchOption o (FeedsOn feed before after r next) (λ _. next ≡ feed)) works feeds

earlier : (a b c : ℕ) → a ≤ b → Rose b c → Rose a c
earlier a b c l rose = omega (arith, l, rose)

-- how the check stops where the feed does
module _ (left now after : Option (List ℕ)) (limit faults then later : ℕ) (feed : LineFeedView) (check : LineCheck) (s : HasFed left now limit feed check) (rising : faults ≤ then) (r : Result Fed ReadErr)
    (long : IsNone feed.failed → IsErrOf r reads.TooLong → TookJust now after (feed.limit + 1 - feed.taken)) (fault : IsNone feed.failed → IsErrOf r reads.Fault → Rose then later)
    (cut : IsNone feed.failed → IsErrOf r reads.Fault → TookUpTo now after (feed.limit - feed.taken)) (want : IsNone feed.failed → IsErrOf r reads.NoMemory → TookUpTo now after (feed.limit + 1 - feed.taken)) where
  working : IsNone feed.failed
  working = ap is_some s.works

  pub stops_reading : (error : ReadErr) (e : CheckErr) → r ≡ Err error → IsReadErr error e → Stops left after faults later limit e
  stops_reading reads.Fault e q is = subst (Stops left after faults later limit) (sym is) (earlier faults then later rising (fault working q), fed_upto left now after limit feed check s (cut working q))
  stops_reading reads.TooLong e q is = subst (Stops left after faults later limit) (sym is) (fed_over left now after limit feed check s (long working q))
  stops_reading reads.NoMemory e q is = subst (Stops left after faults later limit) (sym is) (fed_above left now after limit feed check s (want working q))

-- how the check stops at the end of a text
pub stops_at_end : (left after : Option (List ℕ)) (faults later limit : ℕ) (text : List ℕ) (error : FileErr) (e : CheckErr) → TakesAll left after limit text → TookUpTo left after (limit + 1) → IsCertRefusal text error → IsFileErr error e → Stops left after faults later limit e
stops_at_end left after faults later limit text (At line slip) e all took refused is = subst (Stops left after faults later limit) (sym is) (slips_all left after limit text line slip all refused)
stops_at_end left after faults later limit text FileNoMemory e all took refused is = subst (Stops left after faults later limit) (sym is) took
