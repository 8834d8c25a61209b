-- The reader of polygons meets what the laws of line grammars ask.
use Rattle.std.proofs.Common.{◌≡◌, ℕ, List, refl, sym, ◌∙◌, inl, inr}
use Rattle.srs_line.specs.declared.slip.Slip.{Slip}
use Rattle.srs_line.specs.Machine.{IsExact}
use Rattle.srs_file.specs.declared.polygon_reader.PolygonReader.{PolygonReader}
use Rattle.srs_file.specs.PolygonReading.{StepsPolygon, Steps, Slips, IsEnd}
use Rattle.srs_file.proofs.OutlineLaws.{outline_once, outline_apart, outline_slips}

once : (s t u : PolygonReader) (line : List ℕ) → StepsPolygon s line t → StepsPolygon s line u → t ≡ u
once s t u line (inl (a, o, p, e)) (inl (b, n, q, f)) = rw (e, f, outline_once s.outline o n line p q) refl
once s t u line (inl (a, o, p, e)) (inr (b, q, f)) = absurd (a b)
once s t u line (inr (a, p, e)) (inl (b, n, q, f)) = absurd (b a)
once s t u line (inr (a, p, e)) (inr (b, q, f)) = e ∙ sym f

apart : (s t : PolygonReader) (line : List ℕ) (slip : Slip) (back : ℕ) → StepsPolygon s line t → Slips s line slip back → ⊥
apart s t line slip back (inl (a, o, p, e)) (inl (b, f)) = outline_apart s.outline o line slip back p f
apart s t line slip back (inl (a, o, p, e)) (inr (b, f, g, z)) = a b
apart s t line slip back (inr (a, p, e)) (inl (b, f)) = b a
apart s t line slip back (inr (a, p, e)) (inr (b, f, g, z)) = f p

slips : (s : PolygonReader) (line : List ℕ) (d e : Slip) (m n : ℕ) → Slips s line d m → Slips s line e n → (d ≡ e) × (m ≡ n)
slips s line d e m n (inl (a, f)) (inl (b, g)) = outline_slips s.outline line d e m n f g
slips s line d e m n (inl (a, f)) (inr (b, q, g, y)) = absurd (a b)
slips s line d e m n (inr (a, p, f, z)) (inl (b, g)) = absurd (b a)
slips s line d e m n (inr (a, p, f, z)) (inr (b, q, g, y)) = (f ∙ sym g, z ∙ sym y)

pub exact : IsExact Steps Slips IsEnd
exact = record {
  steps_once = λ s t u line p q. once s t u line p.1 q.1;
  apart = λ s t line slip back p q. apart s t line slip back p.1 q;
  slips_once = slips;
  over = λ s t line end p. p.0 end;
}
