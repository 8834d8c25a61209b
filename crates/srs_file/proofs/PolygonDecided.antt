-- Each text is that of a polygon, or has a first slip.
use Rattle.std.proofs.Common.{◌≡◌, ◌⊎◌, true, ℕ, List, [], ◌∷◌, codes, refl, inl, inr}
use Rattle.srs_line.specs.declared.slip.Slip.{Slip}
use Rattle.srs_line.specs.declared.slip.Slip.TheVariants.{Word}
use Rattle.srs_line.specs.Machine.{Runs, IsTotal}
use Rattle.srs_line.proofs.Decided.{bytes_decided}
use Rattle.srs_file.specs.declared.polygon_reader.PolygonReader.{PolygonReader}
use Rattle.srs_file.specs.Ring.{IsGrowing}
use Rattle.srs_file.specs.PolygonReading.{Steps, Slips, IsEnd, start}
use Rattle.srs_file.proofs.OutlineDecided.{flag_decided, whole_decided, no_ring_grows, outline_decided, outline_keeps}

-- the ring keeps what a ring keeps
abbrev Keeps : PolygonReader → Type 0
Keeps s = IsGrowing s.outline.ring.left s.outline.ring.vertices

keeps_step : (s t : PolygonReader) (line : List ℕ) → Keeps s → Steps s line t → Keeps t
keeps_step s t line k (still, inl (more, outline, p, e)) = rw e (outline_keeps s.outline outline line k more p)
keeps_step s t line k (still, inr (whole, p, e)) = rw e k

keeps_all : (lines : List (List ℕ)) (s t : PolygonReader) → Runs Steps s lines t → Keeps s → Keeps t
keeps_all [] s t e k = rw (← e) k
keeps_all (line ∷ lines) s t (u, step, plain, runs) k = keeps_all lines u t runs (keeps_step s u line k step)

goes_on : (s : PolygonReader) → Keeps s → ¬ (IsEnd s) → (line : List ℕ) → ((t : PolygonReader) × Steps s line t) ⊎ ((slip : Slip) × (back : ℕ) × Slips s line slip back)
goes_on s k still line =
    elim (whole_decided s.outline) [
      | inl whole ↦ elim (bytes_decided line (codes "end")) [
        | inl e ↦ inl (record s { ended = true }, (still, inr (whole, e, refl)))
        | inr other ↦ inr (Word, 0, inr (whole, other, refl, refl))
      ]
      | inr more ↦ elim (outline_decided s.outline k more line) [
        | inl o ↦ inl (record s { outline = o.0 }, (still, inl (more, o.0, o.1, refl)))
        | inr f ↦ inr (f.0, f.1, inl (more, f.2))
      ]
    ]

pub polygon_total : IsTotal Steps Slips IsEnd start
polygon_total = record {
  ends = λ s. flag_decided s.ended;
  goes_on = λ lines s runs still line plain. goes_on s (keeps_all lines start s runs no_ring_grows) still line;
}
