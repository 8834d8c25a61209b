-- Pairs that stand for those on the other side of (0, 0) too.
use Rattle.std.specs.Prelude.{◌≡◌, ℕ, ◌+◌, ◌*◌, ◌⊎◌, Bool, IsTrue, if◌then◌else◌, List, [], ◌∷◌, ◌++◌, length, Contains}
use Rattle.srs_num.specs.declared.pairs.V2.{V2}
use Rattle.srs_map.specs.Step.{origin, minus, IsNarrow}
use Rattle.srs_path.specs.Core.{Precedes}

-- w comes after (0, 0) in the order by a and then by b
abbrev pub IsUpper : V2 → Type 0
IsUpper w = Precedes origin w

-- the entries of all the pairs are within 2^37
abbrev pub AreNarrow : List V2 → Type 0
AreNarrow ws = (w : V2) → Contains ws w → IsNarrow w

-- u is the one of v and -v that comes after (0, 0)
abbrev pub IsUpperOf : V2 → V2 → Type 0
IsUpperOf v u = IsUpper u × ((u ≡ v) ⊎ (u ≡ minus v))

-- the pairs on the other side, in reverse order
abbrev pub opposites : List V2 → List V2
opposites [] = []
opposites (w ∷ ws) = opposites ws ++ minus w ∷ []

-- the pairs on the other side, (0, 0) where it was met, and the pairs
abbrev pub with_opposites : List V2 → Bool → List V2
with_opposites ws met = opposites ws ++ ((if met then origin ∷ [] else []) ++ ws)

-- how many those are
abbrev pub count_both : List V2 → Bool → ℕ
count_both ws met = 2 * length ws + (if met then 1 else 0)

-- v is one of those
abbrev pub IsHeld : List V2 → Bool → V2 → Type 0
IsHeld ws met v = Contains ws v ⊎ (Contains ws (minus v) ⊎ ((v ≡ origin) × IsTrue met))
