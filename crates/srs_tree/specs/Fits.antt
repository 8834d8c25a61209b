-- What sessions may be told while a history grows.
use Rattle.std.specs.Prelude.{◌≡◌, ⊤, ℕ, ◌<◌, ◌≤◌, List, [], ◌∷◌, ◌++◌, length, take, Contains}
use Rattle.srs_map.specs.Orbits.{IsOrbitEnd}
use Rattle.srs_map.specs.declared.orbits.OrbitEnd.{OrbitEnd}
use Rattle.srs_plane.specs.Regions.{Area}
use Rattle.srs_path.specs.Views.{Entry}
use Rattle.srs_tree.specs.Tree.{History, Tree, outcome_at}
use Rattle.srs_tree.specs.Answers.{Answers, IsMet}
use Rattle.srs_tree.specs.declared.answers.Reply.{Reply}
use Rattle.srs_tree.specs.declared.answers.Met.{Met}
use Rattle.srs_tree.specs.declared.queries.Query.{Query}
use Rattle.srs_tree.specs.declared.queries.Query.TheVariants as asks
use Rattle.srs_tree.specs.declared.queries.Said.{Said}
use Rattle.srs_tree.specs.declared.queries.Said.TheVariants as says
use Rattle.srs_tree.specs.declared.sessions.Segment.{Segment}

-- what a session has heard: the number of the version that was taken last, and the greatest number of all
pub record Heard : Type 0 where
  pub version : ℕ
  pub most : ℕ

-- before the first line
abbrev pub nothing_heard : Heard
nothing_heard = record { version = 0; most = 0 }

-- the version n was taken
abbrev pub taken : ℕ → Heard
taken n = record { version = n; most = n }

-- the number may be said next: none that was heard is greater, and H has so many events
pub record MayBeSaid (H : History) (heard : Heard) (n : ℕ) : Type 0 where
  pub never_older : heard.most ≤ n
  pub there : n ≤ length H

-- the tree of the version that was taken last: that of the first events of H
abbrev pub tree_heard : History → Heard → Tree
tree_heard H heard = outcome_at (take heard.version H)

-- the question is answered by the version that was taken last; `after` is what was heard then
abbrev pub Tells : Area → History → Heard → Query → Said → Heard → Type 0
Tells Root H heard asks.Fresh said after =
    (n : ℕ) × MayBeSaid H heard n × (said ≡ says.Version n) × (after ≡ taken n)
Tells Root H heard asks.Count said after =
    (n : ℕ) × MayBeSaid H heard n × (said ≡ says.Count n) × (after ≡ record heard { most = n })
Tells Root H heard (asks.Point r) said after =
    (reply : Reply) × Answers Root (tree_heard H heard) r reply × (said ≡ says.Point r reply)
    × (after ≡ heard)
Tells Root H heard (asks.Polygon q) said after =
    (met : Met) × IsMet Root (tree_heard H heard) q met × (said ≡ says.Polygon met)
    × (after ≡ heard)
Tells Root H heard (asks.Orbit r z n) said after =
    (end : OrbitEnd) × IsOrbitEnd r z n end × (said ≡ says.Orbit end) × (after ≡ heard)

-- the questions are answered in their order, each once
abbrev pub TellsAll : Area → History → Heard → List Query → List Said → Heard → Type 0
TellsAll Root H heard [] [] after = after ≡ heard
TellsAll Root H heard [] (said ∷ told) after = ⊥
TellsAll Root H heard (query ∷ queries) [] after = ⊥
TellsAll Root H heard (query ∷ queries) (said ∷ told) after =
    (next : Heard) × Tells Root H heard query said next × TellsAll Root H next queries told after

-- the segment begins with its round and a version, and then its questions are answered
pub record TellsSegment (Root : Area) (H : History) (heard : Heard) (s : Segment)
    (told : List Said) (after : Heard) : Type 0 where
  pub number : ℕ
  pub may : MayBeSaid H heard number
  pub answers : List Said
  pub is : told ≡ says.At s.at ∷ says.Version number ∷ answers
  pub tells : TellsAll Root H (taken number) s.queries answers after

-- the first n events of H hold every event of H on a path shorter than k
abbrev pub HoldsRows : History → ℕ → ℕ → Type 0
HoldsRows H k n = (e : Entry) → Contains H e → length e.path < k → Contains (take n H) e

-- each version of the segment holds every event on a path shorter than the segment's round
abbrev pub ComesAfterRows : History → Segment → List Said → Type 0
ComesAfterRows H s told = (n : ℕ) → Contains told (says.Version n) → HoldsRows H s.at n

-- the segments are played in their order, each behind its rounds
abbrev pub TellsSession : Area → History → Heard → List Segment → List Said → Heard → Type 0
TellsSession Root H heard [] told after = (told ≡ []) × (after ≡ heard)
TellsSession Root H heard (s ∷ segments) told after =
    (first : List Said) × (rest : List Said) × (between : Heard) × (told ≡ first ++ rest)
    × TellsSegment Root H heard s first between × ComesAfterRows H s first
    × TellsSession Root H between segments rest after

-- what the session was told fits the history
pub record FitsSession (Root : Area) (H : History) (session : List Segment) (told : List Said)
    : Type 0 where
  pub after : Heard
  pub tells : TellsSession Root H nothing_heard session told after

-- What each session was told fits the history: its questions are answered in their order, each
-- once; an answer is that of the version that was taken last, and the number of a version or a
-- count is at least every such number before it; the versions of a segment hold all that was
-- found in the rounds before it.
abbrev pub Fits : Area → History → List (List Segment) → List (List Said) → Type 0
Fits Root H [] [] = ⊤
Fits Root H [] (told ∷ rest) = ⊥
Fits Root H (session ∷ sessions) [] = ⊥
Fits Root H (session ∷ sessions) (told ∷ rest) =
    FitsSession Root H session told × Fits Root H sessions rest
