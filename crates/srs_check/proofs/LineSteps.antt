-- What one line more makes of a check that takes lines.
use Rattle.std.proofs.Common.{◌≡◌, inl, inr, ℕ, List, [], ◌∷◌, ◌++◌, length, Ok, Err, Some, None, refl, sym, ap, subst, ◌∙◌, append-nil}
use Rattle.std.specs.Prelude.{IfOk, IfErr, IfSome, OnOk, is_some, true, false}
use Rattle.std.proofs.lemmas.Option.{none-some}
use Rattle.std.specs.declared.option.Option.{Option}
use Rattle.std.specs.declared.result.Result.{Result}
use Rattle.srs_path.specs.Views.{Budget}
use Rattle.srs_tree.specs.WholeTrees.{ListsWholeTree}
use Rattle.srs_line.specs.declared.slip.FileErr.{FileErr}
use Rattle.srs_line.specs.declared.slip.FileErr.TheVariants.{At, NoMemory}
use Rattle.srs_line.specs.Machine.{lines_text, Runs}
use Rattle.srs_file.specs.declared.cert_feed.NodeAt.{NodeAt}
use Rattle.srs_file.specs.declared.cert_reader.CertPhase.{CertPhase}
use Rattle.srs_file.specs.declared.cert_reader.CertPhase.TheVariants.{First, Polygon, Nodes, Done}
use Rattle.srs_file.specs.declared.cert_reader.CertReader.{CertReader}
use Rattle.srs_cert.specs.Certificates.{CertView}
use Rattle.srs_file.specs.Grammar.{SpellsCertificate}
use Rattle.srs_file.specs.CertReading.{CertSteps, cert_start, limits_in, read_view, FirstCertSlip, IsCertRefusal}
use Rattle.srs_file.specs.Feeding.{CertFeedView, IsFed, FeedsLine, IsLineRefusal, fed_limits}
use Rattle.srs_file.proofs.Spelled.{joined_append}
use Rattle.srs_check.specs.declared.walk.Walk.{Walk}
use Rattle.srs_check.specs.declared.line_check.LineCheck.{LineCheck}
use Rattle.srs_check.specs.Walks.{HasCome}
use Rattle.srs_check.specs.LineChecks.{GoesOn, IsPlanted, WalksWith, HasBegun, GoodSoFar, HasSlipped, HasTaken, TakesNode}
use Rattle.srs_check.proofs.Reading.{slip_stays, SameHead, same_head, goes_back}

-- the text with one line more
pub text_more : (lines : List (List ℕ)) (line : List ℕ) → lines_text lines ++ (line ++ 10 ∷ []) ≡ lines_text (lines ++ line ∷ [])
text_more lines line = ap (λ x. lines_text lines ++ x) (sym (append-nil (line ++ 10 ∷ []))) ∙ sym (joined_append lines (line ∷ []))

-- a line that ends no node leaves the walk where it is
walks_on : (lines : List (List ℕ)) (line : List ℕ) (s t : CertReader) → Runs CertSteps cert_start lines s → CertSteps s line t → t.tree.events ≡ s.tree.events → (w : Option Walk) → WalksWith s w → WalksWith t w
walks_on lines line s t runs step same None none = same ∙ none
walks_on lines line s t runs step same (Some w) (planted, come) =
    let head : SameHead s t = same_head lines s t line runs planted step in
    (head.planted, λ c g. subst (λ (n : ℕ). HasCome c n w) (sym (ap length same)) (come c (goes_back s t [] c head (same ∙ sym (append-nil s.tree.events)) g)))

-- what a check is after its reader took a line
abbrev pub AfterLine : LineCheck → List (List ℕ) → List ℕ → Result (Option NodeAt) FileErr → Type 0
AfterLine check lines line (Ok None) = HasTaken check (lines ++ line ∷ [])
AfterLine check lines line (Ok (Some node)) = TakesNode check lines line node
AfterLine check lines line (Err (At n slip)) = HasTaken check (lines ++ line ∷ [])
AfterLine check lines line (Err NoMemory) = Unit {0}

-- what the reader says of a line
pub record SaysOfLine (old new : CertFeedView) (line : List ℕ) (r : Result (Option NodeAt) FileErr) : Type 0 where
  pub good : IfOk r (λ node. (lines : List (List ℕ)) (s : CertReader) → IsFed old lines s → FeedsLine lines s line node new)
  pub refused : IfErr r (λ error. (lines : List (List ℕ)) (s : CertReader) → IsFed old lines s → IsLineRefusal lines line error)
  pub failed : IfErr r (λ error. new.failed ≡ Some error)
  pub again : IfSome old.failed (λ error. (r ≡ Err error) × (new ≡ old))

module _ (check : LineCheck) (new : CertFeedView) (lines : List (List ℕ)) (line : List ℕ) where
  abbrev after : LineCheck
  after = record { feed = new; walk = check.walk }

  good_line : (r : Result (Option NodeAt) FileErr) → SaysOfLine check.feed new line r → GoodSoFar check lines → AfterLine after lines line r
  good_line (Ok None) says g =
      let f : FeedsLine lines g.state line None new = says.good lines g.state g.fed in
      inl (record { state = f.state; fed = f.fed; walks = walks_on lines line g.state f.state g.fed.runs f.step f.told check.walk g.walks })
  good_line (Ok (Some node)) says g =
      let f : FeedsLine lines g.state line (Some node) new = says.good lines g.state g.fed in
      record { before = g.state; state = f.state; runs = g.fed.runs; step = f.step; fed = f.fed; ends = f.told; walks = g.walks }
  good_line (Err (At n slip)) says g =
      let f : IsLineRefusal lines line (At n slip) = says.refused lines g.state g.fed in
      inr (record { line = n; slip = slip; first = f.0; stays = f.1; failed = says.failed })
  good_line (Err NoMemory) says g = tt

  -- once it has failed a reader answers the same
  slipped_again : HasSlipped check lines → (r : Result (Option NodeAt) FileErr) → SaysOfLine check.feed new line r → (e : FileErr) → check.feed.failed ≡ Some e → (r ≡ Err e) × (new ≡ check.feed)
  slipped_again h r says e failed = subst (λ (o : Option FileErr). IfSome o (λ error. (r ≡ Err error) × (new ≡ check.feed))) failed says.again

  slipped_more : HasSlipped check lines → new ≡ check.feed → HasSlipped after (lines ++ line ∷ [])
  slipped_more h same = record {
    line = h.line;
    slip = h.slip;
    first = subst (λ (text : List ℕ). FirstCertSlip text h.line h.slip) (text_more lines line) (slip_stays (lines_text lines) (line ++ 10 ∷ []) h.line h.slip h.first h.stays);
    stays = h.stays;
    failed = ap (λ (f : CertFeedView). f.failed) same ∙ h.failed;
  }

  slipped_line : (r : Result (Option NodeAt) FileErr) → SaysOfLine check.feed new line r → HasSlipped check lines → AfterLine after lines line r
  slipped_line (Ok None) says h = absurd (let q : Ok None ≡ Err (At h.line h.slip) = (slipped_again h (Ok None) says (At h.line h.slip) h.failed).0 in cc)
  slipped_line (Ok (Some node)) says h = absurd (let q : Ok (Some node) ≡ Err (At h.line h.slip) = (slipped_again h (Ok (Some node)) says (At h.line h.slip) h.failed).0 in cc)
  slipped_line (Err (At n slip)) says h = inr (slipped_more h (slipped_again h (Err (At n slip)) says (At h.line h.slip) h.failed).1)
  slipped_line (Err NoMemory) says h = tt

  pub after_line : (r : Result (Option NodeAt) FileErr) → SaysOfLine check.feed new line r → HasTaken check lines → AfterLine after lines line r
  after_line r says (inl g) = good_line r says g
  after_line r says (inr h) = slipped_line r says h

-- the limits that were read, once a certificate's tree has begun
limits_of : (phase : CertPhase) (b : Budget) → IsPlanted phase → limits_in phase b ≡ Some b
limits_of First b planted = absurd planted
limits_of Polygon b planted = absurd planted
limits_of Nodes b planted = refl
limits_of Done b planted = refl

pub limits_fed : (feed : CertFeedView) (lines : List (List ℕ)) (s : CertReader) → IsFed feed lines s → IsPlanted s.phase → fed_limits feed ≡ Some s.tree.limits
limits_fed feed lines s fed planted = ap (λ (r : CertReader). limits_in r.phase r.tree.limits) fed.reader_is ∙ limits_of s.phase s.tree.limits planted

-- a walk that is there has begun
pub has_begun : (s : CertReader) (c : CertView) (w : Option Walk) → true ≡ is_some w → WalksWith s w → GoesOn s c → HasBegun c (length s.tree.events) w
has_begun s c None e walks g = absurd (let q : true ≡ false = e in cc)
has_begun s c (Some w) e walks g = walks.1 c g

pub no_walk : (w : Option Walk) → false ≡ is_some w → w ≡ None
no_walk None e = refl
no_walk (Some w) e = cc

-- and where there is none, no node was read
pub begins_now : (s : CertReader) (c : CertView) (w : Option Walk) → w ≡ None → (new : Option Walk) → WalksWith s w → HasBegun c 0 new → HasBegun c (length s.tree.events) new
begins_now s c w none new walks begun =
    let empty : s.tree.events ≡ [] = subst (WalksWith s) none walks in
    subst (λ (n : ℕ). HasBegun c n new) (sym (ap length empty)) begun

-- a walk that was begun and is there has come
pub come_on : (c : CertView) (i : ℕ) (o : Option Walk) (w : Walk) → HasBegun c i o → o ≡ Some w → HasCome c i w
come_on c i o w begun e = subst (HasBegun c i) e begun

pub no_begun : (c : CertView) (i : ℕ) (o : Option Walk) → HasBegun c i o → o ≡ None → ⊥
no_begun c i o begun e = subst (HasBegun c i) e begun

-- a whole certificate goes on from itself
pub whole_goes_on : (text : List ℕ) (s : CertReader) → SpellsCertificate text (read_view s) → GoesOn s (read_view s)
whole_goes_on text s spelled = record { certificate = spelled.certificate; vertices_are = refl; limits_are = refl; more = []; events_are = sym (append-nil s.tree.events) }

-- and it has a node, so there is a walk
pub some_walk : (text : List ℕ) (s : CertReader) → SpellsCertificate text (read_view s) → (w : Option Walk) → WalksWith s w → w ≡ None → ⊥
some_walk text s spelled None none e = let listed : ListsWholeTree s.tree.events = spelled.certificate.tree in let empty : ListsWholeTree [] = subst ListsWholeTree none listed in empty
some_walk text s spelled (Some w) walks e = none-some w (sym e)

-- and its limits were read
pub planted_at_end : (text : List ℕ) (s : CertReader) → SpellsCertificate text (read_view s) → (w : Option Walk) → WalksWith s w → IsPlanted s.phase
planted_at_end text s spelled None none = absurd (some_walk text s spelled None none refl)
planted_at_end text s spelled (Some w) walks = walks.0

-- what the reader says at the end
pub record SaysOfEnd (feed : CertFeedView) (rest : List ℕ) (r : Result (Unit {0}) FileErr) : Type 0 where
  pub accepted : OnOk r ((lines : List (List ℕ)) (s : CertReader) → IsFed feed lines s → SpellsCertificate (lines_text lines ++ rest) (read_view s))
  pub refused : IfErr r (λ error. (lines : List (List ℕ)) (s : CertReader) → IsFed feed lines s → IsCertRefusal (lines_text lines ++ rest) error)
  pub again : IfSome feed.failed (λ error. r ≡ Err error)

-- the state that a good text led to
pub record EndsGood (check : LineCheck) (lines : List (List ℕ)) (rest : List ℕ) : Type 0 where
  pub state : CertReader
  pub fed : IsFed check.feed lines state
  pub walks : WalksWith state check.walk
  pub spelled : SpellsCertificate (lines_text lines ++ rest) (read_view state)

module _ (check : LineCheck) (lines : List (List ℕ)) (rest : List ℕ) where
  again_at : (r : Result (Unit {0}) FileErr) → SaysOfEnd check.feed rest r → (h : HasSlipped check lines) → r ≡ Err (At h.line h.slip)
  again_at r says h = subst (λ (o : Option FileErr). IfSome o (λ error. r ≡ Err error)) h.failed says.again

  pub ends_good : SaysOfEnd check.feed rest (Ok tt) → HasTaken check lines → EndsGood check lines rest
  ends_good says (inl g) = record { state = g.state; fed = g.fed; walks = g.walks; spelled = says.accepted lines g.state g.fed }
  ends_good says (inr h) = absurd (let q : Ok tt ≡ Err (At h.line h.slip) = again_at (Ok tt) says h in cc)

  pub ends_bad : (e : FileErr) → SaysOfEnd check.feed rest (Err e) → HasTaken check lines → IsCertRefusal (lines_text lines ++ rest) e
  ends_bad e says (inl g) = says.refused lines g.state g.fed
  ends_bad e says (inr h) =
      let q : Err e ≡ Err (At h.line h.slip) = again_at (Err e) says h in
      let same : At h.line h.slip ≡ e = cc in
      subst (IsCertRefusal (lines_text lines ++ rest)) same (slip_stays (lines_text lines) rest h.line h.slip h.first h.stays)
