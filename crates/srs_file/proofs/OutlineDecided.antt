-- A line of a polygon goes on, or has a slip.
use Rattle.std.proofs.Common.{◌≡◌, ◌⊎◌, ◌<◌, Bool, true, false, IsTrue, ℕ, List, [], codes, refl, inl, inr, arith}
use Rattle.std.proofs.lemmas.List.Elements.{All-nil}
use Rattle.srs_plane.specs.Placed.{IsPlaced}
use Rattle.srs_line.specs.declared.slip.Slip.{Slip}
use Rattle.srs_line.specs.declared.slip.Slip.TheVariants.{Count}
use Rattle.srs_line.proofs.Decided.{Decided, both_decided, eq_decided, count_decided}
use Rattle.srs_file.specs.declared.outline.Outline.{Outline}
use Rattle.srs_file.specs.Ring.{RingView, no_ring, IsGrowing, Opens, IsOpenSlip}
use Rattle.srs_file.specs.Outline.{no_outline, IsWholeOutline, TakesOutline, SlipsOutline}
use Rattle.srs_file.proofs.RingDecided.{ring_decided, ring_keeps}

pub flag_decided : (b : Bool) → Decided (IsTrue b)
flag_decided true = inl refl
flag_decided false = inr (λ e. absurd (cc))

pub whole_decided : (outline : Outline) → Decided (IsWholeOutline outline)
whole_decided outline = both_decided (IsTrue outline.opened) (outline.ring.left ≡ 0) (flag_decided outline.opened) (eq_decided outline.ring.left 0)

pub no_ring_grows : IsGrowing 0 []
no_ring_grows = record { placed = All-nil IsPlaced; counted = λ more. absurd (omega arith) }

pub opens_decided : (word line : List ℕ) → ((ring : RingView) × Opens word line ring) ⊎ ((slip : Slip) × IsOpenSlip word line slip)
opens_decided word line =
    elim (count_decided word line 3 16 Count) [
      | inl n ↦ inl (record no_ring { left = n.0 }, (n.0, n.1, refl))
      | inr f ↦ inr f
    ]

pub opens_keeps : (word line : List ℕ) (ring : RingView) → Opens word line ring → IsGrowing ring.left ring.vertices
opens_keeps word line ring (n, p, e) = rw e (record { placed = All-nil IsPlaced; counted = λ more. (omega (arith, p.0), omega (arith, p.1)) })

left_more : (n : ℕ) → (n ≡ 0 → ⊥) → 0 < n
left_more n h = omega (arith, h)

pub outline_decided : (s : Outline) → IsGrowing s.ring.left s.ring.vertices → ¬ (IsWholeOutline s) → (line : List ℕ)
    → ((t : Outline) × TakesOutline s line t) ⊎ ((slip : Slip) × (back : ℕ) × SlipsOutline s line slip back)
outline_decided s g more line =
    elim (flag_decided s.opened) [
      | inl opened ↦ elim (ring_decided s.ring g (left_more s.ring.left (λ zero. more (opened, zero))) line) [
        | inl r ↦ inl (record s { ring = r.0 }, inr (opened, r.0, r.1, refl))
        | inr f ↦ inr (f.0, f.1, inr (opened, f.2))
      ]
      | inr closed ↦ elim (opens_decided (codes "polygon") line) [
        | inl r ↦ inl (record { opened = true; ring = r.0 }, inl (closed, r.0, r.1, refl))
        | inr f ↦ inr (f.0, 0, inl (closed, f.1, refl))
      ]
    ]

pub outline_keeps : (s t : Outline) (line : List ℕ) → IsGrowing s.ring.left s.ring.vertices → ¬ (IsWholeOutline s) → TakesOutline s line t → IsGrowing t.ring.left t.ring.vertices
outline_keeps s t line g more (inl (closed, r, p, e)) = rw e (opens_keeps (codes "polygon") line r p)
outline_keeps s t line g more (inr (opened, r, p, e)) = rw e (ring_keeps s.ring r line g (left_more s.ring.left (λ zero. more (opened, zero))) p)
