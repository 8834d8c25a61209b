-- A reader that is fed line by line.
use Rattle.std.proofs.Common.{◌≡◌, ◌≢◌, ◌++◌, ◌+◌, ◌-◌, ◌≤◌, ℕ, List, [], ◌∷◌, length, None, Some, refl, sym, ap, ◌∙◌, inl, inr, arith, append-nil, length-append}
use Rattle.std.specs.declared.option.Option.{Option}
use Rattle.std.proofs.lemmas.List.Concat.{flat_map-append}
use Rattle.srs_path.specs.declared.outcomes.Outcome.{Outcome}
use Rattle.srs_path.specs.declared.outcomes.Outcome.TheVariants.{Inside, Outside, Cut, Left}
use Rattle.srs_text.specs.Line.{HasNoLf}
use Rattle.srs_line.specs.declared.slip.Slip.{Slip}
use Rattle.srs_line.specs.declared.slip.Slip.TheVariants.{Missing, Tail}
use Rattle.srs_line.specs.declared.slip.FileErr.{FileErr}
use Rattle.srs_line.specs.declared.slip.FileErr.TheVariants.{At, NoMemory}
use Rattle.srs_line.specs.declared.slip.LineErr.{LineErr}
use Rattle.srs_line.specs.declared.slip.LineErr.TheVariants as errors
use Rattle.srs_line.specs.Machine.{lines_text, Runs, Reaches}
use Rattle.srs_line.specs.Refusal.{IsSlip}
use Rattle.srs_line.proofs.MachineLaws.{only_missing}
use Rattle.srs_line.proofs.MachineLemmas.{runs_append}
use Rattle.srs_cert.specs.Heights.{height}
use Rattle.srs_cert.specs.Texts.{outcome_text}
use Rattle.srs_cert.specs.Certificates.{lf_count}
use Rattle.srs_cert.proofs.LineCounts.{outcome_lines}
use Rattle.srs_tree.specs.Tree.{History}
use Rattle.srs_file.specs.declared.tree.Node.{Node}
use Rattle.srs_file.specs.declared.cert_reader.CertReader.{CertReader}
use Rattle.srs_file.specs.declared.cert_feed.NodeAt.{NodeAt}
use Rattle.srs_file.specs.Grammar.{SpellsCertificate}
use Rattle.srs_file.specs.TreeReading.{at_path}
use Rattle.srs_file.specs.CertReading.{cert_start, read_view, gathers, CertSteps, CertSlips, CertEnds, FirstCertSlip}
use Rattle.srs_file.specs.Feeding.{CertFeedView, bare, IsFed, Tells, FeedsLine, IsLineRefusal, IsTold, Refuses}
use Rattle.srs_file.proofs.CertLaws.{cert_exact}
use Rattle.srs_file.proofs.CertTexts.{read_is_cert}
use Rattle.srs_file.proofs.SlipNames.{not_missing}
use Rattle.srs_file.proofs.BareSteps.{Kept, kept_all, with_events, MovesReader, reader_moves, slips_bare}

-- one line more
lines_more : (lines : List (List ℕ)) (line : List ℕ) → lines_text (lines ++ line ∷ []) ≡ lines_text lines ++ (line ++ 10 ∷ [])
lines_more lines line = flat_map-append (λ l. l ++ 10 ∷ []) lines (line ∷ []) ∙ ap (λ l. lines_text lines ++ l) (append-nil (line ++ 10 ∷ []))

-- a reader without events is bare
bare_same : (r : CertReader) → r.tree.events ≡ [] → r ≡ bare r
bare_same r e = ap (with_events r) e

bare_after : (new : CertReader) (node : Option Node) (H : History) → new.tree.events ≡ [] → new ≡ bare (with_events (gathers new node) H)
bare_after new None H e = bare_same new e
bare_after new (Some node) H e = bare_same new e

kept : (lines : List (List ℕ)) (s : CertReader) → Runs CertSteps cert_start lines s → Kept s.phase (length lines) s
kept lines s runs =
    let k = kept_all lines 0 cert_start s runs (record { unplanted = refl; entries = omega arith }) in
    record { unplanted = k.unplanted; entries = omega (arith, k.entries) }

some_height : (o : Outcome) → 1 ≤ height o
some_height (Inside ranks) = omega arith
some_height (Outside cycle) = omega arith
some_height (Cut h) = omega arith
some_height (Left cause) = omega arith

-- what is told of the line is what it did
told_is : (count at : ℕ) (s new : CertReader) (line : List ℕ) (node : Option Node) (told : Option NodeAt) → new.tree.events ≡ [] → at ≡ count + 1 → length s.tree.leaf.entries ≤ count
    → MovesReader s line (gathers new node) → IsTold at node told → Tells count s (with_events (gathers new node) (s.tree.events ++ (gathers new node).tree.events)) told
told_is count at s new line None None empty n few m t = rw (empty, append-nil) refl
told_is count at s new line None (Some a) empty n few m t = absurd t
told_is count at s new line (Some x) None empty n few m t = absurd t
told_is count at s new line (Some x) (Some a) empty n few m (first, deep, out) =
    let short = m.short (at_path x.path x.outcome) (rw empty refl) in
    let all : lf_count (outcome_text a.outcome) ≡ height x.outcome = ap (λ o. lf_count (outcome_text o)) out ∙ outcome_lines x.outcome in
    record {
      path = x.path;
      event = rw (empty, out) refl;
      depth = sym deep;
      last = omega (arith, first, n, few, short, all, some_height x.outcome);
    }

-- a good line
pub good_line : (lines : List (List ℕ)) (s : CertReader) (line : List ℕ) (old : CertFeedView) (new : CertReader) (node : Option Node) (told : Option NodeAt) (at : ℕ)
    → IsFed old lines s → HasNoLf line → CertSteps old.reader line (gathers new node) → (old.reader.tree.events ≡ [] → new.tree.events ≡ []) → at ≡ old.count + 1 → IsTold at node told
    → FeedsLine lines s line told (record { reader = new; count = at; failed = old.failed })
good_line lines s line old new node told at fed plain step still n t =
    let empty : new.tree.events ≡ [] = still (ap (λ (r : CertReader). r.tree.events) fed.reader_is) in
    let step_bare : CertSteps (bare s) line (gathers new node) = rw fed.reader_is at step in
    let k = kept lines s fed.runs in
    let u = gathers new node in
    let m = reader_moves s u line k.unplanted step_bare in
    let state = with_events u (s.tree.events ++ u.tree.events) in
    let runs : Runs CertSteps cert_start (lines ++ line ∷ []) state = runs_append CertSteps cert_start s state lines (line ∷ []) fed.runs (state, m.step, plain, refl) in
    let reaches : Reaches CertSteps cert_start (lines_text (lines ++ line ∷ [])) (length (lines ++ line ∷ [])) state [] =
    record { lines = lines ++ line ∷ []; count_is = refl; whole = sym (append-nil (lines_text (lines ++ line ∷ []))); good = runs } in
    record {
      state = state;
      step = m.step;
      fed = record {
        runs = runs;
        reader_is = bare_after new node (s.tree.events ++ u.tree.events) empty;
        count_is = omega (arith, n, fed.count_is, length-append lines (line ∷ []));
        works = fed.works;
      };
      clean = λ i slip f. only_missing CertSteps CertSlips CertEnds cert_exact cert_start state (lines_text (lines ++ line ∷ [])) (length (lines ++ line ∷ [])) i slip reaches f;
      told = told_is (length lines) at s new line node told empty (n ∙ ap (λ i. i + 1) fed.count_is) k.entries m t;
    }

-- good lines, and what follows them
follows : (lines : List (List ℕ)) (s : CertReader) (rest : List ℕ) → Runs CertSteps cert_start lines s → Reaches CertSteps cert_start (lines_text lines ++ rest) (length lines) s rest
follows lines s rest runs = record { lines = lines; count_is = refl; whole = refl; good = runs }

-- a line that isn't good
bad_line : (lines : List (List ℕ)) (s : CertReader) (line : List ℕ) (old : CertFeedView) (slip : Slip) (back : ℕ) → IsFed old lines s → HasNoLf line → ¬ (CertEnds old.reader)
    → CertSlips old.reader line slip back → IsLineRefusal lines line (At (old.count + 1 - back) slip)
bad_line lines s line old slip back fed plain goes f =
    let slips : CertSlips s line slip back = slips_bare s line slip back (rw fed.reader_is at f) in
    let still : ¬ (CertEnds s) = λ e. goes (rw fed.reader_is e) in (
      record {
        count = length lines;
        state = s;
        rest = line ++ 10 ∷ [];
        back = back;
        good = rw (lines_more lines line) (follows lines s (line ++ 10 ∷ []) fed.runs);
        line_is = ap (λ i. i + 1 - back) fed.count_is;
        wrong = inr (inr (still, line, [], record { whole = refl; plain = plain }, slips));
      },
      not_missing s.phase s line slip back slips,
    )

pub line_refused : (lines : List (List ℕ)) (s : CertReader) (line : List ℕ) (old : CertFeedView) (at : ℕ) (e : LineErr) (error : FileErr) → IsFed old lines s → HasNoLf line
    → ¬ (CertEnds old.reader) → IsSlip (CertSlips old.reader line) e → at ≡ old.count + 1 → Refuses at e error → IsLineRefusal lines line error
line_refused lines s line old at (errors.Slip slip back) error fed plain goes f n r = rw (r, n) (bad_line lines s line old slip back fed plain goes f)
line_refused lines s line old at errors.NoMemory error fed plain goes f n r = rw r tt

some_rest : (line : List ℕ) → line ++ 10 ∷ [] ≢ []
some_rest [] e = cc
some_rest (x ∷ xs) e = cc

-- what follows the end is wrong at the next line
tail_slips : (lines : List (List ℕ)) (s : CertReader) (rest : List ℕ) (old : CertFeedView) → IsFed old lines s → CertEnds old.reader → rest ≢ [] → FirstCertSlip (lines_text lines ++ rest) (old.count + 1) Tail
tail_slips lines s rest old fed ends more = record {
  count = length lines;
  state = s;
  rest = rest;
  back = 0;
  good = follows lines s rest fed.runs;
  line_is = omega (arith, fed.count_is);
  wrong = inl (rw fed.reader_is at ends, more, refl, refl);
}

pub tail_refused : (lines : List (List ℕ)) (s : CertReader) (line : List ℕ) (old : CertFeedView) (at : ℕ) → IsFed old lines s → CertEnds old.reader → at ≡ old.count + 1 → IsLineRefusal lines line (At at Tail)
tail_refused lines s line old at fed ends n = rw (n, lines_more lines line) (tail_slips lines s (line ++ 10 ∷ []) old fed ends (some_rest line), λ e. cc)

-- the rest, where it is more than it may be
pub rest_refused : (lines : List (List ℕ)) (s : CertReader) (rest : List ℕ) (old : CertFeedView) (at : ℕ) → IsFed old lines s → CertEnds old.reader → rest ≢ [] → at ≡ old.count + 1
    → FirstCertSlip (lines_text lines ++ rest) at Tail
rest_refused lines s rest old at fed ends more n = rw n (tail_slips lines s rest old fed ends more)

-- the rest, where a line is wanted
pub rest_missing : (lines : List (List ℕ)) (s : CertReader) (rest : List ℕ) (old : CertFeedView) (at : ℕ) → IsFed old lines s → ¬ (CertEnds old.reader) → HasNoLf rest → at ≡ old.count + 1
    → FirstCertSlip (lines_text lines ++ rest) at Missing
rest_missing lines s rest old at fed goes plain n = record {
  count = length lines;
  state = s;
  rest = rest;
  back = 0;
  good = follows lines s rest fed.runs;
  line_is = omega (arith, fed.count_is, n);
  wrong = inr (inl (λ e. goes (rw fed.reader_is e), plain, refl, refl));
}

-- the lines are a certificate
pub lines_whole : (lines : List (List ℕ)) (s : CertReader) (rest : List ℕ) (old : CertFeedView) → IsFed old lines s → CertEnds old.reader → rest ≡ [] → SpellsCertificate (lines_text lines ++ rest) (read_view s)
lines_whole lines s rest old fed ends none =
    let over : CertEnds s = rw fed.reader_is at ends in
    rw none (read_is_cert (lines_text lines ++ []) s (length lines, follows lines s [] fed.runs, over))

pub no_bytes : (rest : List ℕ) → length rest ≡ 0 → rest ≡ []
no_bytes [] e = refl
no_bytes (x ∷ xs) e = absurd (omega arith)
