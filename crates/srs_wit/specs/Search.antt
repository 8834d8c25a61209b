-- What the search for witnesses finds.
use Rattle.std.specs.Prelude.{◌≡◌, ◌≢◌, ℕ, ℤ, ◌+◌, ◌*◌, ◌<◌, ◌≤◌, ◌⊎◌, ◌++◌, Bool, IsTrue, List, Contains, AllPairs, ⊤}
use Rattle.srs_num.specs.declared.pairs.V2.{V2}
use Rattle.srs_map.specs.Step.{IsNarrow, origin}
use Rattle.srs_map.specs.Links.{IsUnit}
use Rattle.srs_plane.specs.Regions.{Area}
use Rattle.srs_path.specs.Witnesses.{IsWitness}
use Rattle.srs_cell.specs.Moves.{LinksTo, AreMoves}
use Rattle.srs_cell.specs.declared.spans.Span.{Span}
use Rattle.srs_wit.specs.declared.closure.Stop.{Stop}
use Rattle.srs_wit.specs.declared.closure.Stop.TheVariants.{Over, Long, Wide, NoMemory}
use Rattle.srs_wit.specs.Listing.{IsTooWide}
use Rattle.srs_cell.specs.Spans.{IsCount, pair_from}
use Rattle.srs_wit.specs.Halves.{IsUpper, IsUpperOf, AreNarrow, IsHeld, count_both}

-- different witnesses after (0, 0), with entries within 2^37, and (0, 0) is one where it was met
pub record AreHalf (R : Area) (ws : List V2) (met : Bool) : Type 0 where
  pub upper : (w : V2) → Contains ws w → IsUpper w
  pub different : AllPairs ◌≢◌ ws
  pub each : (w : V2) → Contains ws w → IsWitness R w
  pub narrow : AreNarrow ws
  pub center : IsTrue met → IsWitness R origin

-- with those on the other side, they are at most W
pub record AreFound (R : Area) (W : ℕ) (ws : List V2) (met : Bool) : Type 0 where
  pub half : AreHalf R ws met
  pub few : count_both ws met ≤ W

-- v is held: what is new of it is the last of those found, and waits
pub record Adds (old : List V2) (was : Bool) (v : V2) (new : List V2) (met : Bool)
    (waited waiting : List V2) : Type 0 where
  pub more : List V2
  pub is : new ≡ old ++ more
  pub waits : waiting ≡ waited ++ more
  pub here : IsHeld new met v
  pub others : (w : V2) → Contains new w → Contains old w ⊎ IsUpperOf v w
  pub center : IsTrue met → IsTrue was ⊎ (v ≡ origin)
  pub stays : IsTrue was → IsTrue met
  pub different : AllPairs ◌≢◌ old → AllPairs ◌≢◌ new
  pub narrow : IsNarrow v
  pub few : count_both new met ≤ count_both old was + 2

-- more were found, after the old ones, and all of these wait
pub record Extends (R : Area) (old : List V2) (was : Bool) (new : List V2) (met : Bool)
    (waited waiting : List V2) : Type 0 where
  pub more : List V2
  pub is : new ≡ old ++ more
  pub waits : waiting ≡ waited ++ more
  pub stays : IsTrue was → IsTrue met
  pub half : AreHalf R new met

-- the first n pairs that begin with the second entry of w, from low on, were added
pub record Added (R : Area) (W : ℕ) (old : List V2) (was : Bool) (w : V2) (low : ℤ) (n : ℕ)
    (new : List V2) (met : Bool) (waited waiting : List V2) : Type 0 where
  pub extends : Extends R old was new met waited waiting
  pub few : count_both new met ≤ W + 2 * n
  pub done : (k : ℕ) → k < n → IsHeld new met (pair_from w low k)

-- what adding those of w makes of what was found, wherever w is a witness and links to them
abbrev pub AddsLinks : List V2 → Bool → V2 → ℤ → ℤ → ℕ → List V2 → Bool → List V2 → List V2 → Type 0
AddsLinks old was w low high n new met waited waiting =
    (R : Area) (W : ℕ) → IsWitness R w → AreFound R W old was → AreMoves (LinksTo R) w low high
    → Added R W old was w low n new met waited waiting

-- all that w links to is held
abbrev pub IsClosedAt : Area → List V2 → Bool → V2 → Type 0
IsClosedAt R ws met w = (v : V2) → LinksTo R w v → IsHeld ws met v

-- the units are held
abbrev pub HasUnits : List V2 → Bool → Type 0
HasUnits ws met = (w : V2) → IsUnit w → IsHeld ws met w

-- what was found has the units and all that its pairs link to
pub record AreAll (R : Area) (W : ℕ) (ws : List V2) (met : Bool) : Type 0 where
  pub found : AreFound R W ws met
  pub units : HasUnits ws met
  pub closed : (w : V2) → Contains ws w → IsClosedAt R ws met w

-- w links to the pairs of the span, which are more than W
pub record IsTooLong (R : Area) (W : ℕ) (w : V2) (span : Span) : Type 0 where
  pub witness : IsWitness R w
  pub moves : AreMoves (LinksTo R) w span.low span.high
  pub count : ℕ
  pub counted : IsCount span.low span.high count
  pub long : W < count

-- why the search stops, where it has found ws and, where it was met, (0, 0)
abbrev pub IsStop : Area → ℕ → List V2 → Bool → Stop → Type 0
IsStop R W ws met Over = AreHalf R ws met × (W < count_both ws met)
IsStop R W ws met (Long w span) = IsTooLong R W w span
IsStop R W ws met (Wide v) = IsTooWide R v
IsStop R W ws met NoMemory = ⊤
