-- What was told fits a history that went on, and what later versions hold.
use Rattle.std.proofs.Common.{◌≡◌, ◌⊎◌, inl, inr, ℕ, ◌+◌, ◌-◌, ◌≤◌, ◌<◌, true, false, List, [], ◌∷◌}
use Rattle.std.proofs.Common.{◌++◌, length, take, get_or, sym, ap, subst, ◌∙◌, arith, length-append}
use Rattle.std.proofs.Common.{append-nil, true≢false}
use Rattle.std.specs.Prelude.{Contains}
use Rattle.std.specs.List.{All}
use Rattle.std.proofs.Math.Decide.{dec_le}
use Rattle.std.proofs.Math.Nat.{le_refl}
use Rattle.std.proofs.Math.Seq.{take-append-add}
use Rattle.std.proofs.lemmas.List.{take-append-le, take_all}
use Rattle.std.proofs.lemmas.List.Elements.{Contains-append_left, Contains-append_cases}
use Rattle.std.proofs.lemmas.List.Elements.{All-from_recursion}
use Rattle.srs_plane.specs.Regions.{Area}
use Rattle.srs_turn.specs.Prefixes.{Begins}
use Rattle.srs_tree.specs.Tree.{History, Tree, outcome_at}
use Rattle.srs_tree.specs.Answers.{Answers, IsMet}
use Rattle.srs_tree.specs.declared.queries.Query.{Query}
use Rattle.srs_tree.specs.declared.queries.Query.TheVariants.{Fresh, Count, Point, Polygon, Orbit}
use Rattle.srs_tree.specs.declared.queries.Said.{Said}
use Rattle.srs_tree.specs.declared.queries.Said.TheVariants as says
use Rattle.srs_tree.specs.declared.sessions.Segment.{Segment}
use Rattle.srs_path.specs.Views.{Entry}
use Rattle.srs_tree.specs.Legality.{IsLegal}
use Rattle.srs_tree.specs.Rounds.{AreRowsDone}
use Rattle.srs_tree.specs.Fits.{Heard, taken, tree_heard, MayBeSaid, Tells, TellsAll, TellsSegment}
use Rattle.srs_tree.specs.Fits.{HoldsRows, ComesAfterRows}
use Rattle.srs_tree.proofs.PlannedWhole.{later_all}
use Rattle.srs_session.specs.Playing.{IsPlayed}
use Rattle.srs_session.specs.Listening.{IsHeardIn}

-- a beginning is no longer
pub begins_length : {E : Type 0} (xs ys : List E) → Begins xs ys → length xs ≤ length ys
begins_length xs ys b = omega (arith, ap length b.1, length-append xs b.0)

-- the first entries of a beginning
pub take_begins : {E : Type 0} (n : ℕ) (xs ys : List E) → Begins xs ys → n ≤ length xs
    → take n ys ≡ take n xs
take_begins n xs ys b l = ap (take n) b.1 ∙ take-append-le n xs b.0 l

-- a version of the history that was taken is heard in it
taken_heard : (H : History) (n : ℕ) → n ≤ length H → IsHeardIn H (taken n)
taken_heard H n l = record { version = l; most = l }

-- what may be said stays so
may_later : (G H : History) (h : Heard) (n : ℕ) → Begins G H → MayBeSaid G h n → MayBeSaid H h n
may_later G H h n b may = record {
  never_older = may.never_older;
  there = let l = begins_length G H b in let m = may.there in omega (arith, l, m);
}

-- the answers to one question stay true where the history goes on
module _ (Root : Area) (G H : History) (b : Begins G H) where
  heard_tree : (h : Heard) → IsHeardIn G h → tree_heard G h ≡ tree_heard H h
  heard_tree h in_g = ap outcome_at (sym (take_begins h.version G H b in_g.version))

  tells_one_later : (h after : Heard) (query : Query) (said : Said) → IsHeardIn G h
      → Tells Root G h query said after → Tells Root H h query said after
  tells_one_later h after Fresh said in_g t = (t.0, may_later G H h t.0 b t.1, t.2, t.3)
  tells_one_later h after Count said in_g t = (t.0, may_later G H h t.0 b t.1, t.2, t.3)
  tells_one_later h after (Point r) said in_g t =
      (t.0, subst (λ (T : Tree). Answers Root T r t.0) (heard_tree h in_g) t.1, t.2, t.3)
  tells_one_later h after (Polygon q) said in_g t =
      (t.0, subst (λ (T : Tree). IsMet Root T q t.0) (heard_tree h in_g) t.1, t.2, t.3)
  tells_one_later h after (Orbit r z n) said in_g t = t

-- a question leaves what was heard within the history
module _ (Root : Area) (H : History) where
  pub heard_in : (h after : Heard) (query : Query) (said : Said) → IsHeardIn H h
      → Tells Root H h query said after → IsHeardIn H after
  heard_in h after Fresh said in_h t = subst (IsHeardIn H) (sym t.3) (taken_heard H t.0 t.1.there)
  heard_in h after Count said in_h t =
      subst (IsHeardIn H) (sym t.3) (record { version = in_h.version; most = t.1.there })
  heard_in h after (Point r) said in_h t = subst (IsHeardIn H) (sym t.3) in_h
  heard_in h after (Polygon q) said in_h t = subst (IsHeardIn H) (sym t.3) in_h
  heard_in h after (Orbit r z n) said in_h t = subst (IsHeardIn H) (sym t.3) in_h

  pub all_heard_in : (h after : Heard) (queries : List Query) (told : List Said) → IsHeardIn H h
      → TellsAll Root H h queries told after → IsHeardIn H after
  all_heard_in h after [] [] in_h t = subst (IsHeardIn H) (sym t) in_h
  all_heard_in h after [] (said ∷ told) in_h t = absurd t
  all_heard_in h after (query ∷ queries) [] in_h t = absurd t
  all_heard_in h after (query ∷ queries) (said ∷ told) in_h t =
      all_heard_in t.0 after queries told (heard_in h t.0 query said in_h t.1) t.2

-- so do those to all of them
pub tells_all_later : (Root : Area) (G H : History) → Begins G H → (h after : Heard)
    (queries : List Query) (told : List Said) → IsHeardIn G h → TellsAll Root G h queries told after
    → TellsAll Root H h queries told after
tells_all_later Root G H b h after [] [] in_g t = t
tells_all_later Root G H b h after [] (said ∷ told) in_g t = absurd t
tells_all_later Root G H b h after (query ∷ queries) [] in_g t = absurd t
tells_all_later Root G H b h after (query ∷ queries) (said ∷ told) in_g t = (
  t.0,
  tells_one_later Root G H b h t.0 query said in_g t.1,
  tells_all_later Root G H b t.0 after queries told (heard_in Root G h t.0 query said in_g t.1) t.2,
)

-- what a segment was told fits each history that goes on
pub tells_later : (Root : Area) (G H : History) (h after : Heard) (s : Segment) (told : List Said)
    → Begins G H → TellsSegment Root G h s told after → TellsSegment Root H h s told after
tells_later Root G H h after s told b t = record {
  number = t.number;
  may = may_later G H h t.number b t.may;
  answers = t.answers;
  is = t.is;
  tells =
      tells_all_later Root G H b (taken t.number) after s.queries t.answers
      (taken_heard G t.number t.may.there) t.tells;
}

-- no number that was heard is greater than the history
pub heard_within : (Root : Area) (H : History) (h after : Heard) (s : Segment) (told : List Said)
    → TellsSegment Root H h s told after → after.most ≤ length H
heard_within Root H h after s told t =
    let heard =
    all_heard_in Root H (taken t.number) after s.queries t.answers
    (taken_heard H t.number t.may.there) t.tells in
    heard.most

-- less may have been heard before
pub heard_earlier : (Root : Area) (H : History) (h k after : Heard) (s : Segment) (told : List Said)
    → h.most ≤ k.most → TellsSegment Root H k s told after → TellsSegment Root H h s told after
heard_earlier Root H h k after s told l t = record {
  number = t.number;
  may =
      let m = t.may.never_older in
      record { never_older = omega (arith, l, m); there = t.may.there };
  answers = t.answers;
  is = t.is;
  tells = t.tells;
}

-- the history went on from G, in which the rows above k are done
module _ (Root : Area) (W : ℕ) (G H : History) (k : ℕ) (rows : AreRowsDone G k) (b : Begins G H)
    (legal : IsLegal Root W H) where
  goes_on : IsLegal Root W ((G ++ []) ++ b.0)
  goes_on =
      subst (λ (K : History). IsLegal Root W (K ++ b.0)) (sym (append-nil G))
      (subst (IsLegal Root W) b.1 legal)

  -- the later events stand on no shorter path
  later : All (λ (e : Entry). k ≤ length e.path) b.0
  later =
      All-from_recursion (λ (e : Entry). k ≤ length e.path) b.0
      (later_all Root W G k rows.each [] b.0 goes_on)

  -- an event on a shorter path is an old one
  old_one : (e : Entry) → Contains H e → length e.path < k → Contains G e
  old_one e c l =
      let there : Contains (G ++ b.0) e = subst (λ (K : History). Contains K e) b.1 c in
      elim (Contains-append_cases G b.0 e there) [
        | inl i ↦ i
        | inr i ↦
            let long : k ≤ length (get_or b.0 i.0 e).path = later i.0 e i.1 in
            let same : length (get_or b.0 i.0 e).path ≡ length e.path =
            ap (λ (f : Entry). length f.path) i.2 in
            absurd (omega (arith, l, long, same))
      ]

-- the first events of a beginning are among the first of the whole
take_stays : (G K : History) (n : ℕ) (e : Entry) → Contains (take n G) e
    → Contains (take n (G ++ K)) e
take_stays G K n e c = elim (dec_le n (length G)) [
  | yes l ↦ subst (λ (F : History). Contains F e) (sym (take-append-le n G K l)) c
  | no m ↦
      let past : length G + (n - length G) ≡ n = omega (arith, m) in
      let all : take n G ≡ G = take_all n G (omega (arith, m)) in
      let is : take n (G ++ K) ≡ G ++ take (n - length G) K =
      ap (λ (j : ℕ). take j (G ++ K)) (sym past) ∙ take-append-add G K (n - length G) in
      subst (λ (F : History). Contains F e) (sym is)
      (Contains-append_left G (take (n - length G) K) e
      (subst (λ (F : History). Contains F e) all c))
]

-- where the rows are done, each later version holds what the history has in them
pub rows_hold : (Root : Area) (W : ℕ) (G H : History) (k n : ℕ) → AreRowsDone G k → Begins G H
    → IsLegal Root W H → length G ≤ n → HoldsRows H k n
rows_hold Root W G H k n rows b legal l e c short =
    let old : Contains (take n G) e =
    subst (λ (F : History). Contains F e) (sym (take_all n G l))
    (old_one Root W G H k rows b legal e c short) in
    subst (λ (K : History). Contains (take n K) e) (sym b.1) (take_stays G b.0 n e old)

-- an item that is told is the first or one of the rest
told_cases : (said next : Said) (told : List Said) → Contains (said ∷ told) next
    → (said ≡ next) ⊎ Contains told next
told_cases said next told c = elim (Contains-append_cases (said ∷ []) told next c) [
  | inl i ↦
      let l = i.1 in
      let none : i.0 ≡ 0 = omega (arith, l) in
      inl (ap (λ (j : ℕ). get_or (said ∷ []) j next) (sym none) ∙ i.2)
  | inr i ↦ inr i
]

module _ (Root : Area) (H : History) where
  -- numbers that are heard never fall
  pub most_grows : (h after : Heard) (query : Query) (said : Said) → Tells Root H h query said after
      → h.most ≤ after.most
  most_grows h after Fresh said t = subst (λ (x : Heard). h.most ≤ x.most) (sym t.3) t.1.never_older
  most_grows h after Count said t = subst (λ (x : Heard). h.most ≤ x.most) (sym t.3) t.1.never_older
  most_grows h after (Point r) said t =
      subst (λ (x : Heard). h.most ≤ x.most) (sym t.3) (le_refl h.most)
  most_grows h after (Polygon q) said t =
      subst (λ (x : Heard). h.most ≤ x.most) (sym t.3) (le_refl h.most)
  most_grows h after (Orbit r z n) said t =
      subst (λ (x : Heard). h.most ≤ x.most) (sym t.3) (le_refl h.most)

  -- a version that is said is no older than what was heard
  version_above : (h after : Heard) (query : Query) (n : ℕ)
      → Tells Root H h query (says.Version n) after → h.most ≤ n
  version_above h after Fresh n t =
      let same : n ≡ t.0 = cc (t.2) in
      let l = t.1.never_older in
      omega (arith, l, same)
  version_above h after Count n t = absurd (let u : true ≡ false = cc (t.2) in true≢false u)
  version_above h after (Point r) n t = absurd (let u : true ≡ false = cc (t.2) in true≢false u)
  version_above h after (Polygon q) n t = absurd (let u : true ≡ false = cc (t.2) in true≢false u)
  version_above h after (Orbit r z m) n t = absurd (let u : true ≡ false = cc (t.2) in true≢false u)

  -- so are all versions that are told
  versions_above : (h after : Heard) (queries : List Query) (told : List Said) (n : ℕ)
      → TellsAll Root H h queries told after → Contains told (says.Version n) → h.most ≤ n
  versions_above h after [] [] n t c = absurd (let l = c.1 in omega (arith, l))
  versions_above h after [] (said ∷ told) n t c = absurd t
  versions_above h after (query ∷ queries) [] n t c = absurd t
  versions_above h after (query ∷ queries) (said ∷ told) n t c =
      elim (told_cases said (says.Version n) told c) [
        | inl e ↦
            let is : Tells Root H h query (says.Version n) t.0 =
            subst (λ (x : Said). Tells Root H h query x t.0) e t.1 in
            version_above h t.0 query n is
        | inr d ↦
            let first : h.most ≤ t.0.most = most_grows h t.0 query said t.1 in
            let rest : t.0.most ≤ n = versions_above t.0 after queries told n t.2 d in
            omega (arith, first, rest)
      ]

  -- a segment tells no version that is older than what was heard
  pub segment_above : (h after : Heard) (s : Segment) (told : List Said) (n : ℕ)
      → TellsSegment Root H h s told after → Contains told (says.Version n) → h.most ≤ n
  segment_above h after s told n t c =
      let there : Contains (says.At s.at ∷ says.Version t.number ∷ t.answers) (says.Version n) =
      subst (λ (x : List Said). Contains x (says.Version n)) t.is c in
      elim (told_cases (says.At s.at) (says.Version n) (says.Version t.number ∷ t.answers) there) [
        | inl e ↦ absurd (let u : true ≡ false = cc (e) in true≢false u)
        | inr d ↦ elim (told_cases (says.Version t.number) (says.Version n) t.answers d) [
          | inl e ↦
              let same : t.number ≡ n = cc (e) in
              let l = t.may.never_older in
              omega (arith, l, same)
          | inr f ↦
              let l = t.may.never_older in
              let m : t.number ≤ n =
              versions_above (taken t.number) after s.queries t.answers n t.tells f in
              omega (arith, l, m)
        ]
      ]

-- where the rows were done before, the versions that are told hold them
pub comes_after_rows : (Root : Area) (W : ℕ) (G H : History) (s : Segment) (told : List Said)
    (heard : Heard) → AreRowsDone G s.at → Begins G H → IsLegal Root W H
    → TellsSegment Root H (taken (length G)) s told heard → ComesAfterRows H s told
comes_after_rows Root W G H s told heard rows b legal t n c =
    rows_hold Root W G H s.at n rows b legal
    (segment_above Root H (taken (length G)) heard s told n t c)

-- where the rows were done, versions that held them then hold them later
pub comes_later : (Root : Area) (W : ℕ) (G H : History) (s : Segment) (told : List Said)
    → AreRowsDone G s.at → Begins G H → IsLegal Root W H → ComesAfterRows G s told
    → ComesAfterRows H s told
comes_later Root W G H s told rows b legal after n c e d short =
    let old : Contains (take n G) e =
    after n c e (old_one Root W G H s.at rows b legal e d short) short in
    subst (λ (K : History). Contains (take n K) e) (sym b.1) (take_stays G b.0 n e old)

-- what a segment tells after `before` is played from there
pub played_by : (Root : Area) (G H : History) (s : Segment) (told : List Said) (heard : Heard)
    → Begins G H → TellsSegment Root H (taken (length G)) s told heard → IsPlayed Root G H s told
played_by Root G H s told heard b t = record {
  heard = heard;
  tells = t;
  rows = λ W rows legal. comes_after_rows Root W G H s told heard rows b legal t;
}
