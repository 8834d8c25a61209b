-- The reader of certificates meets what the laws of line grammars ask.
use Rattle.std.proofs.Common.{◌≡◌, ℕ, ℤ, pos, List, [], ◌∷◌, codes, refl, sym, ◌∙◌, inl, inr}
use Rattle.srs_path.specs.Views.{Budget}
use Rattle.srs_line.specs.declared.slip.Slip.{Slip}
use Rattle.srs_line.specs.Fields.{Says}
use Rattle.srs_line.specs.Machine.{IsExact}
use Rattle.srs_line.proofs.FieldLaws.{says_once, no_field_slip, field_slip_once}
use Rattle.srs_file.specs.declared.cert_reader.CertPhase.{CertPhase}
use Rattle.srs_file.specs.declared.cert_reader.CertPhase.TheVariants.{First, Polygon, Nodes, Done}
use Rattle.srs_file.specs.declared.cert_reader.CertReader.{CertReader}
use Rattle.srs_file.specs.CertReading.{StepsFrom, SlipsFrom, CertSteps, CertSlips, CertEnds, SlipsFirst, SaysLimits, IsLimitsSlip, StepsLimits}
use Rattle.srs_file.proofs.OutlineLaws.{outline_once, outline_apart, outline_slips}
use Rattle.srs_file.proofs.TreeLaws.{line_once, line_apart, line_slips}

abbrev pub limit_numbers : Budget → List ℤ
limit_numbers b = pos b.depth ∷ pos b.cells ∷ pos b.wits ∷ []

pub same_budget : (d c w x y z : ℕ) → d ≡ x → c ≡ y → w ≡ z → let a : Budget = record { depth = d; cells = c; wits = w } in let b : Budget = record { depth = x; cells = y; wits = z } in a ≡ b
same_budget d c w x y z e f g = rw (e, f, g) refl

limits_once : (a b : Budget) (line : List ℕ) → SaysLimits a line → SaysLimits b line → a ≡ b
limits_once a b line p q =
    let same = says_once (codes "limits") line (limit_numbers a) (limit_numbers b) p.0 q.0 in
    let one : a.depth ≡ b.depth = cc in
    let two : a.cells ≡ b.cells = cc in
    let three : a.wits ≡ b.wits = cc in
    same_budget a.depth a.cells a.wits b.depth b.cells b.wits one two three

no_limits_slip : (b : Budget) (line : List ℕ) (slip : Slip) → SaysLimits b line → IsLimitsSlip line slip → ⊥
no_limits_slip b line slip p (inl f) = no_field_slip (codes "limits") line (limit_numbers b) slip p.0 f
no_limits_slip b line slip p (inr (d, c, w, q, out, e)) =
    let same = says_once (codes "limits") line (d ∷ c ∷ w ∷ []) (limit_numbers b) q p.0 in
    let one : d ≡ pos b.depth = cc in
    let two : c ≡ pos b.cells = cc in
    let three : w ≡ pos b.wits = cc in
    out b p.1 one two three

limits_slip_once : (line : List ℕ) (d e : Slip) → IsLimitsSlip line d → IsLimitsSlip line e → d ≡ e
limits_slip_once line d e (inl f) (inl g) = field_slip_once (codes "limits") line 3 d e f g
limits_slip_once line d e (inl f) (inr (x, y, z, q, out, g)) = absurd (no_field_slip (codes "limits") line (x ∷ y ∷ z ∷ []) d q f)
limits_slip_once line d e (inr (x, y, z, q, out, f)) (inl g) = absurd (no_field_slip (codes "limits") line (x ∷ y ∷ z ∷ []) e q g)
limits_slip_once line d e (inr (x, y, z, q, out, f)) (inr (x', y', z', q', out', g)) = f ∙ sym g

begins_once : (s t u : CertReader) (line : List ℕ) → StepsLimits s line t → StepsLimits s line u → t ≡ u
begins_once s t u line (a, p, e) (b, q, f) = let same : a ≡ b = limits_once a b line p q in rw (e, f, same) refl

once : (phase : CertPhase) (s t u : CertReader) (line : List ℕ) → StepsFrom phase s line t → StepsFrom phase s line u → t ≡ u
once First s t u line (p, e) (q, f) = e ∙ sym f
once Polygon s t u line (inl (a, r, p, e)) (inl (b, q, o, f)) = rw (e, f, outline_once s.outline r q line p o) refl
once Polygon s t u line (inl (a, r, p, e)) (inr (b, o)) = absurd (a b)
once Polygon s t u line (inr (a, p)) (inl (b, q, o, f)) = absurd (b a)
once Polygon s t u line (inr (a, p)) (inr (b, q)) = begins_once s t u line p q
once Nodes s t u line (inl (a, r, p, e)) (inl (b, q, o, f)) = rw (e, f, line_once s.tree r q line p o) refl
once Nodes s t u line (inl (a, r, p, e)) (inr (b, o, f)) = absurd (a b)
once Nodes s t u line (inr (a, p, e)) (inl (b, q, o, f)) = absurd (b a)
once Nodes s t u line (inr (a, p, e)) (inr (b, q, f)) = e ∙ sym f
once Done s t u line p q = absurd p

first_apart : (line : List ℕ) (slip : Slip) (back : ℕ) → Says (codes "srs") (pos 1 ∷ []) line → SlipsFirst line slip back → ⊥
first_apart line slip back p (inl f, b) = no_field_slip (codes "srs") line (pos 1 ∷ []) slip p f
first_apart line slip back p (inr (z, q, other, f), b) =
    let same : z ≡ pos 1 = let h = says_once (codes "srs") line (z ∷ []) (pos 1 ∷ []) q p in cc in
    other same

first_slips : (line : List ℕ) (d e : Slip) (m n : ℕ) → SlipsFirst line d m → SlipsFirst line e n → (d ≡ e) × (m ≡ n)
first_slips line d e m n (inl f, b) (inl g, c) = (field_slip_once (codes "srs") line 1 d e f g, b ∙ sym c)
first_slips line d e m n (inl f, b) (inr (z, q, other, g), c) = absurd (no_field_slip (codes "srs") line (z ∷ []) d q f)
first_slips line d e m n (inr (z, q, other, f), b) (inl g, c) = absurd (no_field_slip (codes "srs") line (z ∷ []) e q g)
first_slips line d e m n (inr (z, q, other, f), b) (inr (y, p, other', g), c) = (f ∙ sym g, b ∙ sym c)

apart : (phase : CertPhase) (s t : CertReader) (line : List ℕ) (slip : Slip) (back : ℕ) → StepsFrom phase s line t → SlipsFrom phase s line slip back → ⊥
apart First s t line slip back (p, e) f = first_apart line slip back p f
apart Polygon s t line slip back (inl (a, r, p, e)) (inl (b, f)) = outline_apart s.outline r line slip back p f
apart Polygon s t line slip back (inl (a, r, p, e)) (inr (b, f, c)) = a b
apart Polygon s t line slip back (inr (a, p)) (inl (b, f)) = b a
apart Polygon s t line slip back (inr (a, (l, p, e))) (inr (b, f, c)) = no_limits_slip l line slip p f
apart Nodes s t line slip back (inl (a, r, p, e)) (inl (b, f)) = line_apart s.tree r line slip back p f
apart Nodes s t line slip back (inl (a, r, p, e)) (inr (b, f, g, c)) = a b
apart Nodes s t line slip back (inr (a, p, e)) (inl (b, f)) = b a
apart Nodes s t line slip back (inr (a, p, e)) (inr (b, f, g, c)) = f p
apart Done s t line slip back p q = p

slips : (phase : CertPhase) (s : CertReader) (line : List ℕ) (d e : Slip) (m n : ℕ) → SlipsFrom phase s line d m → SlipsFrom phase s line e n → (d ≡ e) × (m ≡ n)
slips First s line d e m n f g = first_slips line d e m n f g
slips Polygon s line d e m n (inl (a, f)) (inl (b, g)) = outline_slips s.outline line d e m n f g
slips Polygon s line d e m n (inl (a, f)) (inr (b, g, c)) = absurd (a b)
slips Polygon s line d e m n (inr (a, f, b)) (inl (c, g)) = absurd (c a)
slips Polygon s line d e m n (inr (a, f, b)) (inr (c, g, z)) = (limits_slip_once line d e f g, b ∙ sym z)
slips Nodes s line d e m n (inl (a, f)) (inl (b, g)) = line_slips s.tree line d e m n f g
slips Nodes s line d e m n (inl (a, f)) (inr (b, p, g, c)) = absurd (a b)
slips Nodes s line d e m n (inr (a, p, f, b)) (inl (c, g)) = absurd (c a)
slips Nodes s line d e m n (inr (a, p, f, b)) (inr (c, q, g, z)) = (f ∙ sym g, b ∙ sym z)
slips Done s line d e m n p q = absurd p

not_over : (s t : CertReader) (line : List ℕ) → CertEnds s → CertSteps s line t → ⊥
not_over s t line e p = let q : StepsFrom Done s line t = rw e at p in q

pub cert_exact : IsExact CertSteps CertSlips CertEnds
cert_exact = record {
  steps_once = λ s t u line p q. once s.phase s t u line p q;
  apart = λ s t line slip back p q. apart s.phase s t line slip back p q;
  slips_once = λ s line d e m n p q. slips s.phase s line d e m n p q;
  over = not_over;
}
