-- What the sessions of a script were told so far, and that it fits at the end.
use Rattle.std.proofs.Common.{◌≡◌, ◌≢◌, inl, inr, ℕ, zero, suc, ◌+◌, ◌-◌, ◌<◌, ◌≤◌, List, [], ◌∷◌, ◌++◌, length, length-append, take, get_or, slice_get, refl, sym, ap, subst, ◌∙◌, arith, append-nil, append_assoc}
use Rattle.std.specs.Prelude.{Contains, IfOk}
use Rattle.std.specs.declared.result.Result.{Result}
use Rattle.std.specs.declared.option.Option.TheVariants.{Some}
use Rattle.std.proofs.Math.Decide.{dec_lt}
use Rattle.std.proofs.Math.ListN.{get_or-append}
use Rattle.std.proofs.Math.Seq.{take-suc}
use Rattle.std.proofs.lemmas.List.{take_all}
use Rattle.std.proofs.lemmas.Option.{none-some, slice_get_within, slice_get_read, slice_get_cases, slice_get-get_or, get_or_from_slice_get}
use Rattle.srs_num.specs.declared.pairs.NoMemory.{NoMemory}
use Rattle.srs_plane.specs.Regions.{Area}
use Rattle.srs_turn.specs.Prefixes.{Begins}
use Rattle.srs_turn.proofs.PrefixLemmas.{begins_refl, begins_trans}
use Rattle.srs_tree.specs.Tree.{History}
use Rattle.srs_tree.specs.Legality.{IsLegal}
use Rattle.srs_tree.specs.Rounds.{AreRowsDone}
use Rattle.srs_tree.specs.Fits.{Heard, nothing_heard, taken, TellsSegment, ComesAfterRows, TellsSession, FitsSession, Fits}
use Rattle.srs_tree.specs.Sessions.{AreAscending}
use Rattle.srs_tree.specs.declared.queries.Said.{Said}
use Rattle.srs_tree.specs.declared.sessions.Segment.{Segment}
use Rattle.srs_tree.proofs.PartitionAll.{IsLegal-first}
use Rattle.srs_session.specs.Playing.{IsPlayed}
use Rattle.srs_session.proofs.Fitting.{begins_length, tells_later, heard_within, heard_earlier, comes_later}
use Rattle.srs_crew.specs.Rounds.{AreAllDone, WasAllDone}
use Rattle.srs_crew.specs.Telling.{IsToldIn, AreToldIn, AreEarly, IsToldFirst, IsToldAll, IsToldBelow, told_to, AreToldBelow, AreToldFirst, IsOneMore}
use Rattle.srs_crew.proofs.Working.{snoc_get}
use Rattle.srs_crew.proofs.Running.{rows_later, all_rows}

-- an element of a list has a place
module _ {X : Type 0} where
  pub place_of : (xs : List X) (x : X) → Contains xs x → (i : ℕ) × (slice_get xs i ≡ Some x)
  place_of xs x c = (c.0, slice_get_read xs (length xs) c.0 x refl c.1 (sym c.2))

  pub contains_at : (xs : List X) (i : ℕ) (x : X) → slice_get xs i ≡ Some x → Contains xs x
  contains_at xs i x g = (i, slice_get_within xs i x g, get_or_from_slice_get xs i x x g)

  pub take_next : (xs : List X) (i : ℕ) (x : X) → slice_get xs i ≡ Some x → take (i + 1) xs ≡ take i xs ++ x ∷ []
  take_next xs i x g =
      let next : i + 1 ≡ suc i = omega arith in
      ap (λ (n : ℕ). take n xs) next ∙ take-suc xs i x (slice_get_within xs i x g) ∙ ap (λ (y : X). take i xs ++ y ∷ []) (get_or_from_slice_get xs i x x g)

  pub same_at : (xs : List X) (i : ℕ) (x y : X) → slice_get xs i ≡ Some x → slice_get xs i ≡ Some y → x ≡ y
  same_at xs i x y g h = let e : Some x ≡ Some y = sym g ∙ h in cc

  -- what holds of the first elements, and of the next one
  pub first_ones : (P : X → Type 0) (xs : List X) (i : ℕ) (x : X) → slice_get xs i ≡ Some x → P x → ((j : ℕ) (y : X) → slice_get xs j ≡ Some y → j < i → P y)
      → (j : ℕ) (y : X) → slice_get xs j ≡ Some y → j < i + 1 → P y
  first_ones P xs i x g p all j y h l = elim (dec_lt j i) as (λ _. P y) [
    | yes m ↦ all j y h m
    | no m ↦
        let e : j ≡ i = omega (arith, l, m) in
        let same : x ≡ y = same_at xs i x y g (ap (slice_get xs) (sym e) ∙ h) in
        subst P same p
  ]

  -- a list that takes the next element of another
  pub append_next : (first told new more : List X) (i : ℕ) (x : X) → told ≡ first ++ take i more → slice_get more i ≡ Some x → new ≡ told ++ x ∷ [] → new ≡ first ++ take (i + 1) more
  append_next first told new more i x h g e =
      e ∙ ap (λ (l : List X). l ++ x ∷ []) h ∙ append_assoc first (take i more) (x ∷ []) ∙ ap (λ (l : List X). first ++ l) (sym (take_next more i x g))

-- the rounds of a session's segments
module _ (session : List Segment) where
  ascends : AreAscending session → (i j : ℕ) (s t : Segment) → slice_get session i ≡ Some s → slice_get session j ≡ Some t → i < j → s.at < t.at
  ascends up i j s t g h l =
      let below = up i j s l (slice_get_within session j t h) in
      omega (arith, below, ap (λ (x : Segment). x.at) (get_or_from_slice_get session i s s g), ap (λ (x : Segment). x.at) (get_or_from_slice_get session j t s h))

  -- the first segment that isn't of a round before k, and none
  pub early_here : AreAscending session → (k i : ℕ) (s : Segment) → ((j : ℕ) (t : Segment) → slice_get session j ≡ Some t → j < i → t.at < k) → slice_get session i ≡ Some s → k ≤ s.at → AreEarly k i session
  early_here up k i s before g at = record {
    within = let w = slice_get_within session i s g in omega (arith, w);
    before = before;
    later = λ j t h l. elim (dec_lt i j) as (λ _. k ≤ t.at) [
      | yes m ↦ let a = ascends up i j s t g h m in omega (arith, a, at)
      | no m ↦
          let e : j ≡ i = omega (arith, l, m) in
          let same : s ≡ t = same_at session i s t g (ap (slice_get session) (sym e) ∙ h) in
          omega (arith, at, ap (λ (x : Segment). x.at) same)
    ];
  }

  pub early_end : (k i : ℕ) → length session ≡ i → ((j : ℕ) (t : Segment) → slice_get session j ≡ Some t → j < i → t.at < k) → AreEarly k i session
  early_end k i end before = record {
    within = omega (arith, end);
    before = before;
    later = λ j t h l. absurd (let w = slice_get_within session j t h in omega (arith, w, end, l));
  }

  -- where the first segment behind those of rounds before k isn't of round k, none is
  pub none_at : AreAscending session → (k n : ℕ) → AreEarly k n session → ((s : Segment) → slice_get session n ≡ Some s → s.at ≢ k) → (s : Segment) → Contains session s → s.at ≢ k
  none_at up k n early here s c at =
      let place = place_of session s c in
      let low : place.0 < n → ⊥ = λ l. let b = early.before place.0 s place.1 l in omega (arith, b, at) in
      let high : n < place.0 → ⊥ = λ l.
      let there : slice_get session n ≡ Some (get_or session n s) = slice_get-get_or session n s (let w = slice_get_within session place.0 s place.1 in omega (arith, w, l)) in
      let a = ascends up n place.0 (get_or session n s) s there place.1 l in
      let b = early.later n (get_or session n s) there (omega arith) in
      omega (arith, a, b, at) in
      let e : place.0 ≡ n = omega (arith, low, high) in
      here s (ap (slice_get session) (sym e) ∙ place.1) at

  -- two counts of the segments of rounds before k are one
  no_more : (k n m : ℕ) → AreEarly k n session → AreEarly k m session → n < m → ⊥
  no_more k n m a b l = elim ((slice_get_cases session n).1) [
    | inl t ↦ let u = b.before n t.0 t.2 l in let v = a.later n t.0 t.2 (omega arith) in omega (arith, u, v)
    | inr t ↦ let w = b.within in let past = t.0 in omega (arith, w, past, l)
  ]

  pub early_one : (k n m : ℕ) → AreEarly k n session → AreEarly k m session → n ≡ m
  early_one k n m a b =
      let u : n < m → ⊥ = no_more k n m a b in
      let v : m < n → ⊥ = no_more k m n b a in
      omega (arith, u, v)

  module _ (k n : ℕ) (early : AreEarly k n session) where
    -- a round without a segment
    early_same : ((s : Segment) → Contains session s → s.at ≢ k) → AreEarly (k + 1) n session
    early_same none = record {
      within = early.within;
      before = λ i s g l. let b = early.before i s g l in omega (arith, b);
      later = λ i s g l. let b = early.later i s g l in let no : s.at ≡ k → ⊥ = none s (contains_at session i s g) in omega (arith, b, no);
    }

    module _ (up : AreAscending session) where
      -- the segment of round k is the next one
      early_place : (j : ℕ) (s : Segment) → slice_get session j ≡ Some s → s.at ≡ k → j ≡ n
      early_place j s g at =
          let low : j < n → ⊥ = λ l. let b = early.before j s g l in omega (arith, b, at) in
          let high : n < j → ⊥ = λ l.
          let here : slice_get session n ≡ Some (get_or session n s) = slice_get-get_or session n s (let w = slice_get_within session j s g in omega (arith, w, l)) in
          let a = ascends up n j (get_or session n s) s here g l in
          let b = early.later n (get_or session n s) here (omega arith) in
          omega (arith, a, b, at) in
          omega (arith, low, high)

      early_next : (s : Segment) → slice_get session n ≡ Some s → s.at ≡ k → AreEarly (k + 1) (n + 1) session
      early_next s g at = record {
        within = let w = slice_get_within session n s g in omega (arith, w);
        before = λ i t h l. elim (dec_lt i n) as (λ _. t.at < k + 1) [
          | yes m ↦ let b = early.before i t h m in omega (arith, b)
          | no m ↦
              let e : i ≡ n = omega (arith, m, l) in
              let same : t ≡ s = same_at session n t s (ap (slice_get session) (sym e) ∙ h) g in
              omega (arith, at, ap (λ (x : Segment). x.at) same)
        ];
        later = λ i t h l. let a = ascends up n i s t g h (omega (arith, l)) in omega (arith, a, at);
      }

-- one segment more
tells_more : (Root : Area) (J : History) (h between after : Heard) (segments : List Segment) (s : Segment) (told more : List Said)
    → TellsSession Root J h segments told between → TellsSegment Root J between s more after → ComesAfterRows J s more → TellsSession Root J h (segments ++ s ∷ []) (told ++ more) after
tells_more Root J h between after [] s told more t seg rows = (
  more,
  [],
  after,
  ap (λ (l : List Said). l ++ more) t.0 ∙ sym (append-nil more),
  subst (λ (x : Heard). TellsSegment Root J x s more after) t.1 seg,
  rows,
  (refl, refl),
)
tells_more Root J h between after (u ∷ us) s told more t seg rows = (
  t.0,
  t.1 ++ more,
  t.2,
  ap (λ (l : List Said). l ++ more) t.3 ∙ append_assoc t.0 t.1 more,
  t.4,
  t.5,
  tells_more Root J t.2 between after us s t.1 more t.6 seg rows,
)

pub told_to_snoc : (i : ℕ) (rounds : List (List (List Said))) (round : List (List Said)) → told_to i (rounds ++ round ∷ []) ≡ told_to i rounds ++ get_or round i []
told_to_snoc i [] round = append-nil (get_or round i [])
told_to_snoc i (first ∷ rounds) round =
    ap (λ (l : List Said). get_or first i [] ++ l) (told_to_snoc i rounds round) ∙ sym (append_assoc (get_or first i []) (told_to i rounds) (get_or round i []))

-- what the session was told in one round more
pub over_next : (place k : ℕ) (rounds : List (List (List Said))) (round : List (List Said)) (t one new : List Said) → one ≡ told_to place (take k rounds) → slice_get rounds k ≡ Some round
    → slice_get round place ≡ Some t → new ≡ one ++ t → new ≡ told_to place (take (k + 1) rounds)
over_next place k rounds round t one new h g at e =
    e ∙ ap (λ (l : List Said). l ++ t) h ∙ ap (λ (l : List Said). told_to place (take k rounds) ++ l) (sym (get_or_from_slice_get round place t [] at))
    ∙ sym (told_to_snoc place (take k rounds) round) ∙ ap (told_to place) (sym (take_next rounds k round g))

pub legal_first : (Root : Area) (W : ℕ) (G H : History) → Begins G H → IsLegal Root W H → IsLegal Root W G
legal_first Root W G H b legal = IsLegal-first Root W G b.0 (subst (IsLegal Root W) b.1 legal)

pub rows_stay : (Root : Area) (W k : ℕ) (G H : History) → Begins G H → IsLegal Root W H → AreRowsDone G k → AreRowsDone H k
rows_stay Root W k G H b legal rows = record { each = rows_later Root W G H k b legal rows }

module _ (Root : Area) where
  -- what is played within a time is played within a longer one
  pub played_wider : (before start end after : History) (s : Segment) (told : List Said) → Begins before start → Begins start end → Begins end after → IsPlayed Root start end s told → IsPlayed Root before after s told
  played_wider before start end after s told a b c p = record {
    heard = p.heard;
    tells = heard_earlier Root after (taken (length before)) (taken (length start)) p.heard s told (begins_length before start a) (tells_later Root end after (taken (length start)) p.heard s told c p.tells);
    rows = λ W rows legal.
        let at_end : IsLegal Root W end = legal_first Root W end after c legal in
        let at_start : IsLegal Root W start = legal_first Root W start end b at_end in
        let from : AreRowsDone start s.at = rows_stay Root W s.at before start a at_start rows in
        comes_later Root W end after s told (rows_stay Root W s.at start end b at_end from) c legal (p.rows W from at_end);
  }

  told_wider_in : (before start end after : History) (k : ℕ) (session : List Segment) (told : List Said) → Begins before start → Begins start end → Begins end after → IsToldIn Root start end k session told → IsToldIn Root before after k session told
  told_wider_in before start end after k session told a b c (inl t) = inl t
  told_wider_in before start end after k session told a b c (inr t) = inr (t.0, t.1, t.2, played_wider before start end after t.0 told a b c t.3)

  pub told_wider : (before start end after : History) (k : ℕ) (script : List (List Segment)) (told : List (List Said)) → Begins before start → Begins start end → Begins end after → AreToldIn Root start end k script told → AreToldIn Root before after k script told
  told_wider before start end after k [] [] a b c t = t
  told_wider before start end after k [] (one ∷ told) a b c t = absurd t
  told_wider before start end after k (session ∷ script) [] a b c t = absurd t
  told_wider before start end after k (session ∷ script) (one ∷ told) a b c t =
      (told_wider_in before start end after k session one a b c t.0, told_wider before start end after k script told a b c t.1)

  module _ (before after : History) (k : ℕ) where
    pub told_length : (script : List (List Segment)) (told : List (List Said)) → AreToldIn Root before after k script told → length told ≡ length script
    told_length [] [] t = refl
    told_length [] (one ∷ told) t = absurd t
    told_length (session ∷ script) [] t = absurd t
    told_length (session ∷ script) (one ∷ told) t = ap (λ (n : ℕ). suc n) (told_length script told t.1)

    told_at : (script : List (List Segment)) (told : List (List Said)) → AreToldIn Root before after k script told → (i : ℕ) (session : List Segment) → slice_get script i ≡ Some session → IsToldIn Root before after k session (get_or told i [])
    told_at [] told t i session g = absurd (none-some session g)
    told_at (x ∷ script) [] t i session g = absurd t
    told_at (x ∷ script) (one ∷ told) t zero session g =
        let e : x ≡ session = cc in subst (λ (y : List Segment). IsToldIn Root before after k y one) e t.0
    told_at (x ∷ script) (one ∷ told) t (suc i) session g = told_at script told t.1 i session g

    told_snoc : (script : List (List Segment)) (told : List (List Said)) (session : List Segment) (one : List Said) → AreToldIn Root before after k script told → IsToldIn Root before after k session one → AreToldIn Root before after k (script ++ session ∷ []) (told ++ one ∷ [])
    told_snoc [] [] session one t last = (last, tt)
    told_snoc [] (x ∷ told) session one t last = absurd t
    told_snoc (y ∷ script) [] session one t last = absurd t
    told_snoc (y ∷ script) (x ∷ told) session one t last = (t.0, told_snoc script told session one t.1 last)

    -- one session more
    pub told_one_more : (script : List (List Segment)) (n : ℕ) (session : List Segment) (told : Result (List (List Said)) NoMemory) (one : Result (List Said) NoMemory) (all : List (List Said))
        → 1 ≤ n → slice_get script (n - 1) ≡ Some session → IsOneMore told one all
        → IfOk told (AreToldIn Root before after k (take (n - 1) script)) → IfOk one (IsToldIn Root before after k session) → AreToldIn Root before after k (take n script) all
    told_one_more script n session told one all some g m t last =
        let next : n ≡ (n - 1) + 1 = omega (arith, some) in
        let is : take n script ≡ take (n - 1) script ++ session ∷ [] = ap (λ (j : ℕ). take j script) next ∙ take_next script (n - 1) session g in
        let u : AreToldIn Root before after k (take (n - 1) script) m.before = subst (λ (r : Result (List (List Said)) NoMemory). IfOk r (AreToldIn Root before after k (take (n - 1) script))) m.first_found t in
        let v : IsToldIn Root before after k session m.last = subst (λ (r : Result (List Said) NoMemory). IfOk r (IsToldIn Root before after k session)) m.last_found last in
        subst (λ (xs : List (List Segment)). AreToldIn Root before after k xs all) (sym is)
        (subst (AreToldIn Root before after k (take (n - 1) script ++ session ∷ [])) (sym m.is) (told_snoc (take (n - 1) script) m.before session m.last u v))

  -- what was told stays told
  pub first_later : (G H : History) (n : ℕ) (session : List Segment) (told : List Said) → Begins G H → IsToldFirst Root G n session told → IsToldFirst Root H n session told
  first_later G H n session told b f = record {
    heard = f.heard;
    within = let l = f.within in omega (arith, l, begins_length G H b);
    tells = λ W J c legal. f.tells W J (begins_trans G H J b c) legal;
  }

  -- the next segment was played
  pub first_more : (G before after start : History) (n : ℕ) (session : List Segment) (s : Segment) (told more : List Said) → IsToldFirst Root G n session told → Begins G before → Begins before after
      → slice_get session n ≡ Some s → Begins start before → AreRowsDone start s.at → IsPlayed Root before after s more → IsToldFirst Root after (n + 1) session (told ++ more)
  first_more G before after start n session s told more f a b g from rows p = record {
    heard = p.heard;
    within = heard_within Root after (taken (length before)) p.heard s more p.tells;
    tells = λ W J c legal.
        let late : IsLegal Root W after = legal_first Root W after J c legal in
        let done : AreRowsDone before s.at = rows_stay Root W s.at start before from (legal_first Root W before after b late) rows in
        let now : AreRowsDone after s.at = rows_stay Root W s.at before after b late done in
        let old = f.tells W J (begins_trans G after J (begins_trans G before after a b) c) legal in
        let new : TellsSegment Root J f.heard s more p.heard =
        heard_earlier Root J f.heard (taken (length before)) p.heard s more (let l = f.within in omega (arith, l, begins_length G before a)) (tells_later Root after J (taken (length before)) p.heard s more c p.tells) in
        subst (λ (segments : List Segment). TellsSession Root J nothing_heard segments (told ++ more) p.heard) (sym (take_next session n s g))
        (tells_more Root J nothing_heard f.heard p.heard (take n session) s told more old new (comes_later Root W after J s more now c legal (p.rows W done late)));
  }

  below_none : (session : List Segment) → AreAscending session → IsToldBelow Root [] 0 session []
  below_none session up = record {
    ascending = up;
    number = 0;
    early = record { within = omega arith; before = λ i s g l. absurd (omega (arith, l)); later = λ i s g l. omega arith };
    first = record { heard = nothing_heard; within = omega arith; tells = λ W J b legal. (refl, refl) };
  }

  -- one round more
  below_next : (G before after : History) (k : ℕ) (session : List Segment) (told more : List Said) → IsToldBelow Root G k session told → Begins G before → Begins before after → AreRowsDone before k
      → IsToldIn Root before after k session more → IsToldBelow Root after (k + 1) session (told ++ more)
  below_next G before after k session told more f a b rows (inl t) = record {
    ascending = f.ascending;
    number = f.number;
    early = early_same session k f.number f.early t.0;
    first = subst (IsToldFirst Root after f.number session) (sym (ap (λ (l : List Said). told ++ l) t.1 ∙ append-nil told)) (first_later G after f.number session told (begins_trans G before after a b) f.first);
  }
  below_next G before after k session told more f a b rows (inr t) =
      let place = place_of session t.0 t.1 in
      let next : place.0 ≡ f.number = early_place session k f.number f.early f.ascending place.0 t.0 place.1 t.2 in
      let here : slice_get session f.number ≡ Some t.0 = ap (slice_get session) (sym next) ∙ place.1 in
      record {
        ascending = f.ascending;
        number = f.number + 1;
        early = early_next session k f.number f.early f.ascending t.0 here t.2;
        first = first_more G before after before f.number session t.0 told more f.first a b here (begins_refl before) (subst (AreRowsDone before) (sym t.2) rows) t.3;
      }

  pub below_later : (G H : History) (k : ℕ) (session : List Segment) (told : List Said) → Begins G H → IsToldBelow Root G k session told → IsToldBelow Root H k session told
  below_later G H k session told b f = record {
    ascending = f.ascending;
    number = f.number;
    early = f.early;
    first = first_later G H f.number session told b f.first;
  }

  -- before any round
  pub rounds_none : (script : List (List Segment)) → ((i : ℕ) (session : List Segment) → slice_get script i ≡ Some session → AreAscending session) → AreToldBelow Root [] 0 script []
  rounds_none script up = record {
    as_many = λ j round g. absurd (none-some round g);
    each = λ i session g. below_none session (up i session g);
  }

  pub rounds_next : (G before after : History) (k : ℕ) (script : List (List Segment)) (rounds : List (List (List Said))) (round : List (List Said)) → AreToldBelow Root G k script rounds → Begins G before → Begins before after
      → AreRowsDone before k → AreToldIn Root before after k script round → AreToldBelow Root after (k + 1) script (rounds ++ round ∷ [])
  rounds_next G before after k script rounds round f a b rows t = record {
    as_many = λ j other g. elim (snoc_get rounds round other j g) as (λ _. length other ≡ length script) [
      | inl h ↦ f.as_many j other h
      | inr e ↦ ap length e ∙ told_length before after k script round t
    ];
    each = λ i session g.
        subst (IsToldBelow Root after (k + 1) session) (sym (told_to_snoc i rounds round))
        (below_next G before after k session (told_to i rounds) (get_or round i []) (f.each i session g) a b rows (told_at before after k script round t i session g));
  }

  pub rounds_later : (G H : History) (k : ℕ) (script : List (List Segment)) (rounds : List (List (List Said))) → Begins G H → AreToldBelow Root G k script rounds → AreToldBelow Root H k script rounds
  rounds_later G H k script rounds b f = record {
    as_many = f.as_many;
    each = λ i session g. below_later G H k session (told_to i rounds) b (f.each i session g);
  }

  -- the segments that are left begin where those of the rounds end
  pub left_from : (G : History) (k n : ℕ) (session : List Segment) (told : List Said) → AreEarly k n session → IsToldBelow Root G k session told → IsToldFirst Root G n session told
  left_from G k n session told early f =
      subst (λ (m : ℕ). IsToldFirst Root G m session told) (early_one session k f.number n f.early early) f.first

  -- one of them was played behind all rounds
  pub left_next : (now after : History) (n : ℕ) (session : List Segment) (s : Segment) (told more : List Said) → WasAllDone now → Begins now after → slice_get session n ≡ Some s
      → IsToldFirst Root now n session told → IsPlayed Root now after s more → IsToldFirst Root after (n + 1) session (told ++ more)
  left_next now after n session s told more done b g f p =
      first_more now now after done.0 n session s told more f (begins_refl now) b g done.1 (all_rows done.0 s.at done.2) p

  -- one session more was told all
  pub sessions_next : (G H : History) (n : ℕ) (script : List (List Segment)) (session : List Segment) (told : List (List Said)) (one : List Said) → Begins G H → AreToldFirst Root G n script told
      → slice_get script n ≡ Some session → IsToldAll Root H session one → AreToldFirst Root H (n + 1) script (told ++ one ∷ [])
  sessions_next G H n script session told one b f at all = record {
    as_many = length-append told (one ∷ []) ∙ ap (λ (m : ℕ). m + 1) f.as_many;
    each = λ i other it g h. elim (dec_lt i n) as (λ _. IsToldAll Root H other it) [
      | yes l ↦ first_later G H (length other) other it b (f.each i other it g (earlier i it l h))
      | no m ↦
          let e : i ≡ n = let w = slice_get_within (told ++ one ∷ []) i it h in let as_many = f.as_many in omega (arith, m, w, as_many, length-append told (one ∷ [])) in
          let same : other ≡ session = same_at script n other session (ap (slice_get script) (sym e) ∙ g) at in
          let is : it ≡ one = last_is i it e h in
          subst (λ (x : List Segment). IsToldAll Root H x it) (sym same) (subst (IsToldAll Root H session) (sym is) all)
    ];
  }
    where
      earlier : (i : ℕ) (it : List Said) → i < n → slice_get (told ++ one ∷ []) i ≡ Some it → slice_get told i ≡ Some it
      earlier i it l h =
          let m : i < length told = let as_many = f.as_many in omega (arith, l, as_many) in
          slice_get_read told (length told) i it refl m (sym (get_or_from_slice_get (told ++ one ∷ []) i it it h) ∙ get_or-append told (one ∷ []) it i m)

      last_is : (i : ℕ) (it : List Said) → i ≡ n → slice_get (told ++ one ∷ []) i ≡ Some it → it ≡ one
      last_is i it e h = elim (snoc_get told one it i h) as (λ _. it ≡ one) [
        | inl g ↦ absurd (let w = slice_get_within told i it g in let as_many = f.as_many in omega (arith, w, as_many, e))
        | inr s ↦ s
      ]

  -- each session was told all, and so it fits
  module _ (W : ℕ) (J : History) (legal : IsLegal Root W J) where
    fits_one : (H : History) (session : List Segment) (told : List Said) → Begins H J → IsToldAll Root H session told → FitsSession Root J session told
    fits_one H session told b f = record {
      after = f.heard;
      tells = subst (λ (segments : List Segment). TellsSession Root J nothing_heard segments told f.heard) (take_all (length session) session (omega arith)) (f.tells W J b legal);
    }

    fits_each : (script : List (List Segment)) (told : List (List Said)) → length told ≡ length script
        → ((i : ℕ) (session : List Segment) (one : List Said) → slice_get script i ≡ Some session → slice_get told i ≡ Some one → FitsSession Root J session one) → Fits Root J script told
    fits_each [] [] l each = tt
    fits_each [] (one ∷ told) l each = absurd (omega (arith, l))
    fits_each (session ∷ script) [] l each = absurd (omega (arith, l))
    fits_each (session ∷ script) (one ∷ told) l each =
        (each 0 session one refl refl, fits_each script told (omega (arith, l)) (λ i. each (suc i)))

    pub fits_all : (H : History) (script : List (List Segment)) (told : List (List Said)) → Begins H J → AreToldFirst Root H (length script) script told → Fits Root J script told
    fits_all H script told b f =
        fits_each script told f.as_many (λ i session one g h. fits_one H session one b (f.each i session one g h))

-- all cells were done where they are
pub was_done : (H : History) → AreAllDone H → WasAllDone H
was_done H done = (H, begins_refl H, done)

pub was_done_later : (G H : History) → Begins G H → WasAllDone G → WasAllDone H
was_done_later G H b w = (w.0, begins_trans w.0 G H w.1 b, w.2)
