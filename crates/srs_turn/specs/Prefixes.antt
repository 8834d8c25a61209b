-- Lists that grow at the end.
use Rattle.std.specs.Prelude.{◌≡◌, ◌⊎◌, List, [], ◌∷◌, ◌++◌, length, leb, if◌then◌else◌}

-- the first list is a beginning of the second
abbrev pub Begins : {E : Type 0} → List E → List E → Type 0
Begins {E} front all = (rest : List E) × (all ≡ front ++ rest)

-- the second list is the first, or the first with one entry more at its end
abbrev pub AddsAtMostOne : {E : Type 0} → List E → List E → Type 0
AddsAtMostOne {E} before after = (after ≡ before) ⊎ ((x : E) × (after ≡ before ++ x ∷ []))

-- the longer of two lists
abbrev pub longer : {E : Type 0} → List E → List E → List E
longer xs ys = if leb (length xs) (length ys) then ys else xs
