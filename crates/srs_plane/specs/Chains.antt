-- The halves of a chain.
use Rattle.std.specs.Prelude.{◌≡◌, ℕ, ◌≤◌, length, List, [], ◌∷◌, ◌++◌}
use Rattle.srs_plane.specs.declared.halves.Half.{Half}
use Rattle.srs_plane.specs.declared.chains.Chain.{Chain}
use Rattle.srs_plane.specs.declared.chains.Chain.TheVariants.{First, More'}

-- the halves from the first to the last
abbrev pub halves_of : Chain → List Half
halves_of (First halves) = halves.items
halves_of (More' p rest half) = halves_of rest ++ half ∷ []

-- n halves are left of the chain: all of them, or the first of those that it begins with
abbrev pub AreLeft : ℕ → Chain → Type 0
AreLeft n (First halves) = n ≤ length halves.items
AreLeft n (More' p rest half) = n ≡ length (halves_of rest ++ half ∷ [])
