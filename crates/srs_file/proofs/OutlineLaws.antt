-- What a line of a polygon does is determined, and so is what is wrong with it.
use Rattle.std.proofs.Common.{◌≡◌, ℕ, List, codes, refl, sym, ◌∙◌, inl, inr}
use Rattle.srs_line.specs.declared.slip.Slip.{Slip}
use Rattle.srs_line.specs.declared.slip.Slip.TheVariants.{Count}
use Rattle.srs_line.proofs.FieldLaws.{no_count_slip, count_slip_once}
use Rattle.srs_file.specs.declared.outline.Outline.{Outline}
use Rattle.srs_file.specs.Outline.{TakesOutline, SlipsOutline}
use Rattle.srs_file.proofs.RingLaws.{opens_once, takes_once, ring_apart, ring_slips_once}

pub outline_once : (s t u : Outline) (line : List ℕ) → TakesOutline s line t → TakesOutline s line u → t ≡ u
outline_once s t u line (inl (a, r, p, e)) (inl (b, q, o, f)) = rw (e, f, opens_once (codes "polygon") r q line p o) refl
outline_once s t u line (inl (a, r, p, e)) (inr (b, q, o, f)) = absurd (a b)
outline_once s t u line (inr (a, r, p, e)) (inl (b, q, o, f)) = absurd (b a)
outline_once s t u line (inr (a, r, p, e)) (inr (b, q, o, f)) = rw (e, f, takes_once s.ring r q line p o) refl

pub outline_apart : (s t : Outline) (line : List ℕ) (slip : Slip) (back : ℕ) → TakesOutline s line t → SlipsOutline s line slip back → ⊥
outline_apart s t line slip back (inl (a, r, (n, p, e), f)) (inl (b, g, z)) = no_count_slip (codes "polygon") line 3 16 n Count slip p g
outline_apart s t line slip back (inl (a, r, p, e)) (inr (b, g)) = a b
outline_apart s t line slip back (inr (a, r, p, e)) (inl (b, g, z)) = b a
outline_apart s t line slip back (inr (a, r, p, e)) (inr (b, g)) = ring_apart s.ring r line slip back p g

pub outline_slips : (s : Outline) (line : List ℕ) (d e : Slip) (m n : ℕ) → SlipsOutline s line d m → SlipsOutline s line e n → (d ≡ e) × (m ≡ n)
outline_slips s line d e m n (inl (a, f, z)) (inl (b, g, y)) = (count_slip_once (codes "polygon") line 3 16 Count d e f g, z ∙ sym y)
outline_slips s line d e m n (inl (a, f, z)) (inr (b, g)) = absurd (a b)
outline_slips s line d e m n (inr (a, f)) (inl (b, g, y)) = absurd (b a)
outline_slips s line d e m n (inr (a, f)) (inr (b, g)) = ring_slips_once s.ring line d e m n f g
