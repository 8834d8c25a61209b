-- What the sessions of a script are told in one round, and in the rounds so far.
use Rattle.std.specs.Prelude.{◌≡◌, ◌≢◌, ◌⊎◌, ⊤, ℕ, ◌<◌, ◌≤◌, List, [], ◌∷◌, ◌++◌, length, take, get_or, slice_get, Some, Contains}
use Rattle.std.specs.declared.result.Result.{Result}
use Rattle.std.specs.declared.result.Result.TheVariants.{Ok}
use Rattle.srs_num.specs.declared.pairs.NoMemory.{NoMemory}
use Rattle.srs_plane.specs.Regions.{Area}
use Rattle.srs_turn.specs.Prefixes.{Begins}
use Rattle.srs_tree.specs.Tree.{History}
use Rattle.srs_tree.specs.Legality.{IsLegal}
use Rattle.srs_tree.specs.Fits.{Heard, nothing_heard, TellsSession}
use Rattle.srs_tree.specs.Sessions.{AreAscending}
use Rattle.srs_tree.specs.declared.queries.Said.{Said}
use Rattle.srs_tree.specs.declared.sessions.Segment.{Segment}
use Rattle.srs_session.specs.Playing.{IsPlayed}

-- in round k the session was told this while the history grew: what its segment there is told, and
-- nothing where it has none there
abbrev pub IsToldIn : Area → History → History → ℕ → List Segment → List Said → Type 0
IsToldIn Root before after k session told =
    (((s : Segment) → Contains session s → s.at ≢ k) × (told ≡ []))
    ⊎ ((s : Segment) × Contains session s × (s.at ≡ k) × IsPlayed Root before after s told)

-- so was each session of the script
abbrev pub AreToldIn : Area → History → History → ℕ → List (List Segment) → List (List Said) → Type 0
AreToldIn Root before after k [] [] = ⊤
AreToldIn Root before after k [] (told ∷ rest) = ⊥
AreToldIn Root before after k (session ∷ sessions) [] = ⊥
AreToldIn Root before after k (session ∷ sessions) (told ∷ rest) =
    IsToldIn Root before after k session told × AreToldIn Root before after k sessions rest

-- the first n segments are those of rounds before k
pub record AreEarly (k n : ℕ) (session : List Segment) : Type 0 where
  pub within : n ≤ length session
  pub before : (i : ℕ) (s : Segment) → slice_get session i ≡ Some s → i < n → s.at < k
  pub later : (i : ℕ) (s : Segment) → slice_get session i ≡ Some s → n ≤ i → k ≤ s.at

-- The session was told this of its first n segments, in each legal history that begins with H; and
-- no number that it heard is above the length of H.
pub record IsToldFirst (Root : Area) (H : History) (n : ℕ) (session : List Segment)
    (told : List Said) : Type 0 where
  pub heard : Heard
  pub within : heard.most ≤ length H
  pub tells : (W : ℕ) (J : History) → Begins H J → IsLegal Root W J →
      TellsSession Root J nothing_heard (take n session) told heard

-- of all its segments
abbrev pub IsToldAll : Area → History → List Segment → List Said → Type 0
IsToldAll Root H session told = IsToldFirst Root H (length session) session told

-- of its segments of rounds before k, which ascend
pub record IsToldBelow (Root : Area) (H : History) (k : ℕ) (session : List Segment)
    (told : List Said) : Type 0 where
  pub ascending : AreAscending session
  pub number : ℕ
  pub early : AreEarly k number session
  pub first : IsToldFirst Root H number session told

-- what the session at the place i was told in these rounds, one after another
abbrev pub told_to : ℕ → List (List (List Said)) → List Said
told_to i [] = []
told_to i (round ∷ rounds) = get_or round i [] ++ told_to i rounds

-- in these rounds each session of the script was told what it is told before round k
pub record AreToldBelow (Root : Area) (H : History) (k : ℕ) (script : List (List Segment))
    (rounds : List (List (List Said))) : Type 0 where
  pub as_many : (j : ℕ) (round : List (List Said)) → slice_get rounds j ≡ Some round →
      length round ≡ length script
  pub each : (i : ℕ) (session : List Segment) → slice_get script i ≡ Some session →
      IsToldBelow Root H k session (told_to i rounds)

-- each of the first n sessions of the script was told this of all its segments
pub record AreToldFirst (Root : Area) (H : History) (n : ℕ) (script : List (List Segment))
    (told : List (List Said)) : Type 0 where
  pub as_many : length told ≡ n
  pub each : (i : ℕ) (session : List Segment) (one : List Said) → slice_get script i ≡ Some session →
      slice_get told i ≡ Some one → IsToldAll Root H session one

-- both were found, and the list is the first with the second at its end
pub record IsOneMore (told : Result (List (List Said)) NoMemory) (one : Result (List Said) NoMemory)
    (all : List (List Said)) : Type 0 where
  pub before : List (List Said)
  pub last : List Said
  pub first_found : told ≡ Ok before
  pub last_found : one ≡ Ok last
  pub is : all ≡ before ++ last ∷ []
