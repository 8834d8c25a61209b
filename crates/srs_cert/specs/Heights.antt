-- How many lines the parts of a certificate have.
use Rattle.std.specs.Prelude.{ℕ, ◌+◌, length}
use Rattle.srs_path.specs.declared.outcomes.Outcome.{Outcome}
use Rattle.srs_path.specs.declared.outcomes.Outcome.TheVariants.{Inside, Outside, Cut, Left}

-- how many lines an outcome has: one, and one for each witness
abbrev pub height : Outcome → ℕ
height (Inside ranks) = length ranks + 1
height (Outside cycle) = 1
height (Cut h) = 1
height (Left cause) = 1
