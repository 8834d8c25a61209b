-- What is found of a cell where memory may be wanting.
use Rattle.std.specs.Prelude.{◌≡◌, ◌⊎◌, ℕ}
use Rattle.std.specs.declared.option.Option.{Option}
use Rattle.srs_plane.specs.Regions.{Area}
use Rattle.srs_path.specs.declared.outcomes.Outcome.{Outcome}
use Rattle.srs_path.specs.declared.outcomes.Outcome.TheVariants.{Left}
use Rattle.srs_path.specs.declared.outcomes.Cause.TheVariants.{Memory}
use Rattle.srs_path.specs.declared.limits.Last.{Last}
use Rattle.srs_path.specs.Refinement.{Refines}

-- the outcome of the cell, or that there was no memory for it
abbrev pub IsFoundOf : Area → Option Last → ℕ → Outcome → Type 0
IsFoundOf R last w o = (o ≡ Left Memory) ⊎ Refines R last w o
