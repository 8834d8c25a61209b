-- What a finding holds.
use Rattle.std.specs.Arc.{arc_value}
use Rattle.srs_path.specs.declared.outcomes.Outcome.{Outcome}
use Rattle.srs_path.specs.declared.findings.Held.{Held}
use Rattle.srs_path.specs.declared.findings.Held.TheVariants.{Own, Shared}

-- its outcome
abbrev pub outcome_held : Held → Outcome
outcome_held (Own o) = o
outcome_held (Shared o) = arc_value o
