-- What the line of a witness does is determined, and so is what is wrong with it.
use Rattle.std.proofs.Common.{◌≡◌, ℕ, ℤ, pos, List, [], ◌∷◌, codes, refl, sym, ◌∙◌, inl, inr}
use Rattle.srs_num.specs.declared.pairs.V2.{V2}
use Rattle.srs_line.specs.declared.slip.Slip.{Slip}
use Rattle.srs_line.specs.Fields.{Says}
use Rattle.srs_line.proofs.FieldLaws.{says_once, no_field_slip, field_slip_once}
use Rattle.srs_file.specs.Leaf.{LeafView, SaysEntry, IsEntrySlip, TakesEntry, SlipsEntry}

abbrev pub entry_numbers : V2 → ℤ → List ℤ
entry_numbers w z = w.a ∷ w.b ∷ z ∷ []

pub same_pair : (a b c d : ℤ) → a ≡ c → b ≡ d → let v : V2 = record { a = a; b = b } in let w : V2 = record { a = c; b = d } in v ≡ w
same_pair a b c d e f = rw (e, f) refl

said_once : (v w : V2) (y z : ℤ) (line : List ℕ) → Says (codes "w") (entry_numbers v y) line → Says (codes "w") (entry_numbers w z) line → (v ≡ w) × (y ≡ z)
said_once v w y z line p q =
    let same = says_once (codes "w") line (entry_numbers v y) (entry_numbers w z) p q in
    let one : v.a ≡ w.a = cc in
    let two : v.b ≡ w.b = cc in
    let three : y ≡ z = cc in
    (same_pair v.a v.b w.a w.b one two, three)

no_entry_slip : (w : V2) (z : ℤ) (line : List ℕ) (slip : Slip) → SaysEntry w z line → IsEntrySlip line slip → ⊥
no_entry_slip w z line slip p (inl f) = no_field_slip (codes "w") line (entry_numbers w z) slip p.0 f
no_entry_slip w z line slip p (inr (v, y, q, out, e)) = let same = said_once w v z y line p.0 q in out (rw (same.0, same.1) at p.1)

entry_slip_once : (line : List ℕ) (d e : Slip) → IsEntrySlip line d → IsEntrySlip line e → d ≡ e
entry_slip_once line d e (inl f) (inl g) = field_slip_once (codes "w") line 3 d e f g
entry_slip_once line d e (inl f) (inr (w, z, q, out, g)) = absurd (no_field_slip (codes "w") line (entry_numbers w z) d q f)
entry_slip_once line d e (inr (w, z, q, out, f)) (inl g) = absurd (no_field_slip (codes "w") line (entry_numbers w z) e q g)
entry_slip_once line d e (inr (w, z, q, out, f)) (inr (v, y, p, out', g)) = f ∙ sym g

pub entry_once : (s t u : LeafView) (line : List ℕ) → TakesEntry s line t → TakesEntry s line u → t ≡ u
entry_once s t u line (w, m, p, f, e) (v, n, q, g, h) =
    let same = said_once w v (pos m) (pos n) line p.0 q.0 in
    let number : m ≡ n = let k = same.1 in cc in
    rw (e, h, same.0, number) refl

pub entry_apart : (s t : LeafView) (line : List ℕ) (slip : Slip) (back : ℕ) → TakesEntry s line t → SlipsEntry s line slip back → ⊥
entry_apart s t line slip back (w, m, p, f, e) (inl (g, b)) = no_entry_slip w (pos m) line slip p g
entry_apart s t line slip back (w, m, p, f, e) (inr (v, y, q, bar, g, b)) = let same = said_once w v (pos m) y line p.0 q.0 in bar (rw same.0 at f)

pub entry_slips : (s : LeafView) (line : List ℕ) (d e : Slip) (m n : ℕ) → SlipsEntry s line d m → SlipsEntry s line e n → (d ≡ e) × (m ≡ n)
entry_slips s line d e m n (inl (f, b)) (inl (g, c)) = (entry_slip_once line d e f g, b ∙ sym c)
entry_slips s line d e m n (inl (f, b)) (inr (v, y, q, bar, g, c)) = absurd (no_entry_slip v y line d q f)
entry_slips s line d e m n (inr (w, z, p, bar, f, b)) (inl (g, c)) = absurd (no_entry_slip w z line e p g)
entry_slips s line d e m n (inr (w, z, p, bar, f, b)) (inr (v, y, q, bar', g, c)) = (f ∙ sym g, b ∙ sym c)
