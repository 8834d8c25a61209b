-- Each text is that of a certificate, or has a first slip.
use Rattle.std.proofs.Common.{◌≡◌, ◌≢◌, ◌⊎◌, ◌≤◌, ◌*◌, ℕ, ℤ, pos, List, [], ◌∷◌, codes, refl, sym, ◌∙◌, inl, inr}
use Rattle.srs_path.specs.declared.limits.TheConstants.{MOST_DEPTH, MOST_CELLS, MOST_WITNESSES, MOST_PRODUCT}
use Rattle.srs_path.specs.Views.{Budget, IsBudget}
use Rattle.srs_line.specs.declared.slip.Slip.{Slip}
use Rattle.srs_line.specs.declared.slip.Slip.TheVariants.{Word, Version, Range}
use Rattle.srs_line.specs.Fields.{Says}
use Rattle.srs_line.specs.Machine.{Runs, IsTotal}
use Rattle.srs_line.proofs.Decided.{Decided, both_decided, same_decided, le_decided, bytes_decided, one_decided, three_decided, natural}
use Rattle.srs_file.specs.declared.cert_reader.CertPhase.{CertPhase}
use Rattle.srs_file.specs.declared.cert_reader.CertPhase.TheVariants.{First, Polygon, Nodes, Done}
use Rattle.srs_file.specs.declared.cert_reader.CertReader.{CertReader}
use Rattle.srs_file.specs.Ring.{IsGrowing}
use Rattle.srs_file.specs.TreeReading.{only_root}
use Rattle.srs_file.specs.CertReading.{StepsFrom, SlipsFrom, CertSteps, CertSlips, CertEnds, SaysLimits, AreNoLimits, IsLimitsSlip, StepsFirst, SlipsFirst, StepsInPolygon, SlipsInPolygon, StepsNodes, SlipsNodes, cert_start}
use Rattle.srs_file.proofs.CertLaws.{same_budget}
use Rattle.srs_file.proofs.OutlineDecided.{whole_decided, no_ring_grows, outline_decided, outline_keeps}
use Rattle.srs_file.proofs.TreeDecided.{Goes, int_eq_decided, line_decided}

phase_decided : (phase : CertPhase) → Decided (phase ≡ Done)
phase_decided First = inr (λ e. absurd (cc))
phase_decided Polygon = inr (λ e. absurd (cc))
phase_decided Nodes = inr (λ e. absurd (cc))
phase_decided Done = inl refl

-- the ring keeps what a ring keeps
abbrev pub Keeps : CertReader → Type 0
Keeps s = IsGrowing s.outline.ring.left s.outline.ring.vertices

keeps_from : (phase : CertPhase) (s t : CertReader) (line : List ℕ) → Keeps s → StepsFrom phase s line t → Keeps t
keeps_from First s t line k (p, e) = rw e k
keeps_from Polygon s t line k (inl (more, outline, p, e)) = rw e (outline_keeps s.outline outline line k more p)
keeps_from Polygon s t line k (inr (whole, (b, p, e))) = rw e k
keeps_from Nodes s t line k (inl (some, tree, p, e)) = rw e k
keeps_from Nodes s t line k (inr (none, p, e)) = rw e k
keeps_from Done s t line k p = absurd p

pub keeps_step : (s t : CertReader) (line : List ℕ) → Keeps s → CertSteps s line t → Keeps t
keeps_step s t line k p = keeps_from s.phase s t line k p

keeps_all : (lines : List (List ℕ)) (s t : CertReader) → Runs CertSteps s lines t → Keeps s → Keeps t
keeps_all [] s t e k = rw (← e) k
keeps_all (line ∷ lines) s t (u, step, plain, runs) k = keeps_all lines u t runs (keeps_step s u line k step)

first_decided : (s : CertReader) (line : List ℕ) → Goes (StepsFirst s line) (SlipsFirst line)
first_decided s line =
    elim (one_decided (codes "srs") line) [
      | inl v ↦ elim (int_eq_decided v.0 (pos 1)) [
        | inl e ↦ inl (record s { phase = Polygon }, (rw e at v.1, refl))
        | inr other ↦ inr (Version, 0, (inr (v.0, v.1, other, refl), refl))
      ]
      | inr f ↦ inr (f.0, 0, (inl f.1, refl))
    ]

budget_decided : (b : Budget) → Decided (IsBudget b)
budget_decided b =
    let depth = b.depth ≤ MOST_DEPTH in
    let cells = (1 ≤ b.cells) × (b.cells ≤ MOST_CELLS) in
    let wits = (1 ≤ b.wits) × (b.wits ≤ MOST_WITNESSES) in
    let product = b.wits * b.cells ≤ MOST_PRODUCT in
    same_decided ((depth × cells) × (wits × product)) (IsBudget b)
    (λ p. record { depth = p.0.0; some_cell = p.0.1.0; cells = p.0.1.1; some_wit = p.1.0.0; wits = p.1.0.1; product = p.1.1 })
    (λ p. ((p.depth, (p.some_cell, p.cells)), ((p.some_wit, p.wits), p.product)))
    (both_decided (depth × cells) (wits × product)
    (both_decided depth cells (le_decided b.depth MOST_DEPTH) (both_decided (1 ≤ b.cells) (b.cells ≤ MOST_CELLS) (le_decided 1 b.cells) (le_decided b.cells MOST_CELLS)))
    (both_decided wits product (both_decided (1 ≤ b.wits) (b.wits ≤ MOST_WITNESSES) (le_decided 1 b.wits) (le_decided b.wits MOST_WITNESSES)) (le_decided (b.wits * b.cells) MOST_PRODUCT)))

-- three numbers are limits, or none
abbrev Limiting : ℤ → ℤ → ℤ → Type 0
Limiting d c w = ((b : Budget) × IsBudget b × (d ≡ pos b.depth) × (c ≡ pos b.cells) × (w ≡ pos b.wits)) ⊎ AreNoLimits d c w

same_limits : (b a : Budget) → pos b.depth ≡ pos a.depth → pos b.cells ≡ pos a.cells → pos b.wits ≡ pos a.wits → b ≡ a
same_limits b a e f g =
    let one : b.depth ≡ a.depth = cc in
    let two : b.cells ≡ a.cells = cc in
    let three : b.wits ≡ a.wits = cc in
    same_budget b.depth b.cells b.wits a.depth a.cells a.wits one two three

limits_told : (d c w : ℤ) → Limiting d c w
limits_told d c w =
    elim (natural d) [
      | inl m ↦ elim (natural c) [
        | inl n ↦ elim (natural w) [
          | inl k ↦
              let b : Budget = record { depth = m.0; cells = n.0; wits = k.0 } in
              elim (budget_decided b) [
                | inl is ↦ inl (b, is, m.1, n.1, k.1)
                | inr bar ↦ inr (λ a is e f g. bar (rw (same_limits b a (sym m.1 ∙ e) (sym n.1 ∙ f) (sym k.1 ∙ g)) is))
              ]
          | inr none ↦ inr (λ a is e f g. none a.wits g)
        ]
        | inr none ↦ inr (λ a is e f g. none a.cells f)
      ]
      | inr none ↦ inr (λ a is e f g. none a.depth e)
    ]

limits_line : (line : List ℕ) (d c w : ℤ) (b : Budget) → Says (codes "limits") (d ∷ c ∷ w ∷ []) line → IsBudget b → d ≡ pos b.depth → c ≡ pos b.cells → w ≡ pos b.wits → SaysLimits b line
limits_line line d c w b said is e f g = (rw (e, f, g) at said, is)

limits_decided : (line : List ℕ) → ((b : Budget) × SaysLimits b line) ⊎ ((slip : Slip) × IsLimitsSlip line slip)
limits_decided line =
    elim (three_decided (codes "limits") line) [
      | inl n ↦ elim (limits_told n.0 n.1 n.2) [
        | inl b ↦ inl (b.0, limits_line line n.0 n.1 n.2 b.0 n.3 b.1 b.2 b.3 b.4)
        | inr none ↦ inr (Range, inr (n.0, n.1, n.2, n.3, none, refl))
      ]
      | inr f ↦ inr (f.0, inl f.1)
    ]

polygon_goes : (s : CertReader) → Keeps s → (line : List ℕ) → Goes (StepsInPolygon s line) (SlipsInPolygon s line)
polygon_goes s k line =
    elim (whole_decided s.outline) [
      | inl whole ↦ elim (limits_decided line) [
        | inl b ↦ inl (record s { phase = Nodes; tree = only_root b.0 }, inr (whole, (b.0, b.1, refl)))
        | inr f ↦ inr (f.0, 0, inr (whole, f.1, refl))
      ]
      | inr more ↦ elim (outline_decided s.outline k more line) [
        | inl o ↦ inl (record s { outline = o.0 }, inl (more, o.0, o.1, refl))
        | inr f ↦ inr (f.0, f.1, inl (more, f.2))
      ]
    ]

none_decided : {X : Type 0} (xs : List X) → Decided (xs ≡ [])
none_decided [] = inl refl
none_decided (x ∷ xs) = inr (λ e. absurd (cc))

nodes_go : (s : CertReader) (line : List ℕ) → Goes (StepsNodes s line) (SlipsNodes s line)
nodes_go s line =
    elim (none_decided s.tree.pending) [
      | inl none ↦ elim (bytes_decided line (codes "end")) [
        | inl e ↦ inl (record s { phase = Done }, inr (none, e, refl))
        | inr other ↦ inr (Word, 0, inr (none, other, refl, refl))
      ]
      | inr some ↦ elim (line_decided s.tree line some) [
        | inl t ↦ inl (record s { tree = t.0 }, inl (some, t.0, t.1, refl))
        | inr f ↦ inr (f.0, f.1, inl (some, f.2))
      ]
    ]

goes_from : (phase : CertPhase) (s : CertReader) → Keeps s → ¬ (phase ≡ Done) → (line : List ℕ) → Goes (StepsFrom phase s line) (SlipsFrom phase s line)
goes_from First s k still line = first_decided s line
goes_from Polygon s k still line = polygon_goes s k line
goes_from Nodes s k still line = nodes_go s line
goes_from Done s k still line = absurd (still refl)

pub cert_ends : (s : CertReader) → Decided (CertEnds s)
cert_ends s = phase_decided s.phase

pub cert_goes : (s : CertReader) → Keeps s → ¬ (CertEnds s) → (line : List ℕ) → Goes (CertSteps s line) (CertSlips s line)
cert_goes s k still line = goes_from s.phase s k still line

pub cert_total : IsTotal CertSteps CertSlips CertEnds cert_start
cert_total = record { ends = cert_ends; goes_on = λ lines s runs still line plain. cert_goes s (keeps_all lines cert_start s runs no_ring_grows) still line }
