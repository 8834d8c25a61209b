-- The outcome of a region is sound.
use Rattle.std.proofs.Common.{◌⊎◌, inl, inr, ℕ, subst}
use Rattle.std.specs.declared.option.Option.{Option}
use Rattle.srs_num.specs.Points.{LinearForm}
use Rattle.srs_plane.specs.Regions.{Area, Divides}
use Rattle.srs_path.specs.declared.limits.Last.{Last}
use Rattle.srs_path.specs.declared.outcomes.Why.{Why}
use Rattle.srs_path.specs.declared.outcomes.Why.TheVariants.{Cycle as CycleFails, Witness as WitnessFails}
use Rattle.srs_path.specs.declared.outcomes.Cause.TheVariants.{Depth, Cells, Thin, Memory}
use Rattle.srs_path.specs.declared.outcomes.Outcome.{Outcome}
use Rattle.srs_path.specs.declared.outcomes.Outcome.TheVariants.{Inside, Outside, Cut, Left}
use Rattle.srs_path.specs.Refinement.{Refines, StaysOpen, CutsByCycle, CutsByGrid}
use Rattle.srs_path.specs.Soundness.{IsSound, IsLeftOpen}
use Rattle.srs_path.proofs.OutcomeSound.{inside_sound, outside_sound}
use Rattle.srs_path.proofs.ChosenEdges.{chosen_some, chosen_not_zero}

left_open : (R : Area) (W : ℕ) (why : Why) → StaysOpen R W why → IsLeftOpen R W why
left_open R W CycleFails h = (h.1.small, (h.1.chosen.z 0, h.1.chosen.start.has))
left_open R W WitnessFails h = h

cut_divides : (R : Area) (W : ℕ) (h : LinearForm) → CutsByCycle R W h ⊎ CutsByGrid R W h → Divides R h
cut_divides R W h (inl b) = b.first.divides
cut_divides R W h (inr b) = subst (Divides R) b.first.is b.first.divides.divides

pub refines_sound : (R : Area) (last : Option Last) (W : ℕ) (o : Outcome) → Refines R last W o → IsSound R W o
refines_sound R last W (Inside entries) h = λ r i. inside_sound R entries h.ranks r i
refines_sound R last W (Outside c) h = λ r i. outside_sound R c h.covers r i (chosen_not_zero R c h.chosen) (chosen_some R c h.chosen)
refines_sound R last W (Cut h) g = cut_divides R W h g.1
refines_sound R last W (Left (Depth why)) h = left_open R W why h.1
refines_sound R last W (Left (Cells why)) h = left_open R W why h.1
refines_sound R last W (Left Thin) h = (h.1.large, h.1.no_line)
refines_sound R last W (Left Memory) h = tt
