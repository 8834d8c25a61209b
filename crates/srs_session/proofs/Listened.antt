-- One question more is answered.
use Rattle.std.proofs.Common.{◌≡◌, ℕ, ◌+◌, ◌≤◌, List, [], ◌∷◌, ◌++◌, length, take, refl, sym, ap}
use Rattle.std.proofs.Common.{subst, ◌∙◌, arith}
use Rattle.std.specs.Prelude.{slice_get, Some}
use Rattle.std.specs.FinMap as finite
use Rattle.std.proofs.Math.Nat.{le_refl}
use Rattle.std.proofs.lemmas.List.{take_all}
use Rattle.std.proofs.lemmas.Option.{slice_get_within}
use Rattle.srs_num.specs.Points.{Point as Place}
use Rattle.srs_num.specs.declared.pairs.V2.{V2}
use Rattle.srs_map.specs.Orbits.{IsOrbitEnd}
use Rattle.srs_map.specs.declared.orbits.OrbitEnd.{OrbitEnd}
use Rattle.srs_plane.specs.Regions.{Area}
use Rattle.srs_cell.proofs.Areas.{take_next}
use Rattle.srs_turn.specs.Prefixes.{Begins}
use Rattle.srs_tree.specs.Tree.{History, Tree}
use Rattle.srs_tree.specs.Snapshots.{Snapshot, tree_of, StandsFor}
use Rattle.srs_tree.specs.Answers.{Answers, IsMet}
use Rattle.srs_tree.specs.declared.answers.Reply.{Reply}
use Rattle.srs_tree.specs.declared.answers.Met.{Met}
use Rattle.srs_tree.specs.declared.queries.Query.{Query}
use Rattle.srs_tree.specs.declared.queries.Query.TheVariants.{Fresh, Count, Point, Polygon, Orbit}
use Rattle.srs_tree.specs.declared.queries.Said.{Said}
use Rattle.srs_tree.specs.declared.queries.Said.TheVariants as says
use Rattle.srs_tree.specs.declared.sessions.Segment.{Segment}
use Rattle.srs_tree.specs.Fits.{Heard, taken, tree_heard, MayBeSaid, Tells, TellsAll, TellsSegment}
use Rattle.srs_atlas.proofs.Entries.{same_tree}
use Rattle.srs_session.specs.Playing.{IsPlayed}
use Rattle.srs_session.specs.Listening.{IsVersionHeard, IsAnswered, first_queries, IsPlayedTo}
use Rattle.srs_session.proofs.Fitting.{begins_length, take_begins, tells_later, played_by}

-- a version that stands for the whole history is that of its number
newest_held : (Root : Area) (H : History) (w : Snapshot) (n : ℕ) → StandsFor Root H w
    → n ≡ finite.len w.entries → (n ≡ length H) × IsVersionHeard Root H (taken n) w
newest_held Root H w n stands is =
    let number : n ≡ length H = is ∙ stands.count in
    let l : n ≤ length H = omega (arith, number) in
    let all : take n H ≡ H = take_all n H (omega (arith, number)) in (
      number,
      record {
        within = record { version = l; most = l };
        stands = subst (λ (K : History). StandsFor Root K w) (sym all) stands;
      },
    )

module _ (Root : Area) (G H : History) (b : Begins G H) (heard : Heard) (v : Snapshot)
    (held : IsVersionHeard Root G heard v) where
  -- the version held stays that of its number
  pub held_later : IsVersionHeard Root H heard v
  held_later =
      let l = begins_length G H b in
      let x = held.within.version in
      let y = held.within.most in
      record {
        within = record { version = omega (arith, l, x); most = omega (arith, l, y) };
        stands =
            subst (λ (K : History). StandsFor Root K v)
            (sym (take_begins heard.version G H b held.within.version)) held.stands;
      }

  pub fresh_said : (w : Snapshot) (n : ℕ) (query : Query) → query ≡ Fresh → StandsFor Root H w
      → n ≡ finite.len w.entries → IsAnswered Root H heard query (says.Version n) w
  fresh_said w n query asked stands is =
      let new = newest_held Root H w n stands is in
      let l = begins_length G H b in
      let m = held.within.most in
      let number = new.0 in
      let may : MayBeSaid H heard n = record {
        never_older = omega (arith, l, m, number);
        there = omega (arith, number);
      } in
      let tells : Tells Root H heard Fresh (says.Version n) (taken n) = (n, may, refl, refl) in
      record {
        next = taken n;
        tells = subst (λ (q : Query). Tells Root H heard q (says.Version n) (taken n))
            (sym asked) tells;
        held = new.1;
      }

  pub count_said : (n : ℕ) (query : Query) → query ≡ Count → n ≡ length H
      → IsAnswered Root H heard query (says.Count n) v
  count_said n query asked number =
      let l = begins_length G H b in
      let m = held.within.most in
      let may : MayBeSaid H heard n = record {
        never_older = omega (arith, l, m, number);
        there = omega (arith, number);
      } in
      let next : Heard = record heard { most = n } in
      let tells : Tells Root H heard Count (says.Count n) next = (n, may, refl, refl) in
      record {
        next = next;
        tells = subst (λ (q : Query). Tells Root H heard q (says.Count n) next) (sym asked) tells;
        held = record {
          within = record { version = held_later.within.version; most = omega (arith, number) };
          stands = held_later.stands;
        };
      }

module _ (Root : Area) (H : History) (heard : Heard) (v : Snapshot)
    (held : IsVersionHeard Root H heard v) where
  -- the version held has the region and the tree of its number
  same : (P : Area → Tree → Type 0) → P v.region (tree_of v) → P Root (tree_heard H heard)
  same P p =
      subst (P Root) (same_tree Root (take heard.version H) v held.stands)
      (subst (λ (R : Area). P R (tree_of v)) held.stands.region p)

  pub point_said : (r : Place) (reply : Reply) (query : Query) → query ≡ Point r
      → Answers v.region (tree_of v) r reply → IsAnswered Root H heard query (says.Point r reply) v
  point_said r reply query asked answers =
      let tells : Tells Root H heard (Point r) (says.Point r reply) heard =
      (reply, same (λ R T. Answers R T r reply) answers, refl, refl) in
      record {
        next = heard;
        tells = subst (λ (q : Query). Tells Root H heard q (says.Point r reply) heard)
            (sym asked) tells;
        held = held;
      }

  pub polygon_said : (q : Area) (met : Met) (query : Query) → query ≡ Polygon q
      → IsMet v.region (tree_of v) q met → IsAnswered Root H heard query (says.Polygon met) v
  polygon_said q met query asked is =
      let tells : Tells Root H heard (Polygon q) (says.Polygon met) heard =
      (met, same (λ R T. IsMet R T q met) is, refl, refl) in
      record {
        next = heard;
        tells = subst (λ (x : Query). Tells Root H heard x (says.Polygon met) heard)
            (sym asked) tells;
        held = held;
      }

  pub orbit_said : (r : Place) (z : V2) (n : ℕ) (end : OrbitEnd) (query : Query)
      → query ≡ Orbit r z n → IsOrbitEnd r z n end
      → IsAnswered Root H heard query (says.Orbit end) v
  orbit_said r z n end query asked is =
      let tells : Tells Root H heard (Orbit r z n) (says.Orbit end) heard = (end, is, refl, refl) in
      record {
        next = heard;
        tells = subst (λ (x : Query). Tells Root H heard x (says.Orbit end) heard)
            (sym asked) tells;
        held = held;
      }

-- one question more at the end
told_next : (Root : Area) (H : History) (h between after : Heard) (queries : List Query)
    (query : Query) (told : List Said) (said : Said) → TellsAll Root H h queries told between
    → Tells Root H between query said after → TellsAll Root H h (queries ++ query ∷ [])
    (told ++ said ∷ []) after
told_next Root H h between after [] query [] said t u =
    (after, subst (λ (x : Heard). Tells Root H x query said after) t u, refl)
told_next Root H h between after [] query (first ∷ told) said t u = absurd t
told_next Root H h between after (asked ∷ queries) query [] said t u = absurd t
told_next Root H h between after (asked ∷ queries) query (first ∷ told) said t u =
    (t.0, t.1, told_next Root H t.0 between after queries query told said t.2 u)

segment_next : (Root : Area) (H : History) (h between after : Heard) (s : Segment) (i : ℕ)
    (query : Query) (told : List Said) (said : Said) → slice_get s.queries i ≡ Some query
    → TellsSegment Root H h (first_queries s i) told between → Tells Root H between query said after
    → TellsSegment Root H h (first_queries s (i + 1)) (told ++ said ∷ []) after
segment_next Root H h between after s i query told said there t u =
    let more : take (i + 1) s.queries ≡ take i s.queries ++ query ∷ [] =
    take_next s.queries i query (slice_get_within s.queries i query there) there in
    record {
      number = t.number;
      may = t.may;
      answers = t.answers ++ said ∷ [];
      is = ap (λ (l : List Said). l ++ said ∷ []) t.is;
      tells =
          subst (λ (qs : List Query). TellsAll Root H (taken t.number) qs
          (t.answers ++ said ∷ []) after) (sym more)
          (told_next Root H (taken t.number) between after (take i s.queries) query t.answers said
          t.tells u);
    }

-- the segment's next question was answered while the history grew
pub played_next : (Root : Area) (before G H : History) (s : Segment) (i : ℕ) (query : Query)
    (told now : List Said) (said : Said) (v w : Snapshot) → Begins G H
    → slice_get s.queries i ≡ Some query
    → ((heard : Heard) → IsVersionHeard Root G heard v → IsAnswered Root H heard query said w)
    → now ≡ told ++ said ∷ []
    → IsPlayedTo Root before G s i told v → IsPlayedTo Root before H s (i + 1) now w
played_next Root before G H s i query told now said v w b there answered is p =
    let a = answered p.heard p.held in
    let old : TellsSegment Root H (taken (length before)) (first_queries s i) told p.heard =
    tells_later Root G H (taken (length before)) p.heard (first_queries s i) told b p.tells in
    record {
      heard = a.next;
      tells =
          subst (λ (l : List Said). TellsSegment Root H (taken (length before))
          (first_queries s (i + 1)) l a.next) (sym is)
          (segment_next Root H (taken (length before)) p.heard a.next s i query told said there
          old a.tells);
      held = a.held;
    }

-- the round was said and a version taken
pub begun : (Root : Area) (G H : History) (s : Segment) (none first told : List Said) (w : Snapshot)
    (n : ℕ) → Begins G H → StandsFor Root H w → n ≡ finite.len w.entries
    → none ≡ [] → first ≡ none ++ says.At s.at ∷ [] → told ≡ first ++ says.Version n ∷ []
    → IsPlayedTo Root G H s 0 told w
begun Root G H s none first told w n b stands is e f g =
    let new = newest_held Root H w n stands is in
    let number = new.0 in
    let l = begins_length G H b in
    record {
      heard = taken n;
      tells = record {
        number = n;
        may = record { never_older = omega (arith, l, number); there = omega (arith, number) };
        answers = [];
        is = g ∙ ap (λ (x : List Said). x ++ says.Version n ∷ [])
            (f ∙ ap (λ (x : List Said). x ++ says.At s.at ∷ []) e);
        tells = refl;
      };
      held = new.1;
    }

-- all questions were answered
pub all_answered : (Root : Area) (before H : History) (s : Segment) (told : List Said)
    (v : Snapshot) → Begins before H → IsPlayedTo Root before H s (length s.queries) told v
    → IsPlayed Root before H s told
all_answered Root before H s told v b p =
    let n = length s.queries in
    let all : take n s.queries ≡ s.queries = take_all n s.queries (le_refl n) in
    let whole : first_queries s n ≡ s = λ i. record { at = s.at; queries = all i } in
    played_by Root before H s told p.heard b
    (subst (λ (x : Segment). TellsSegment Root H (taken (length before)) x told p.heard) whole
    p.tells)
