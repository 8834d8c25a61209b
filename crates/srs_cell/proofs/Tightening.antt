-- The ends of a line with one half more in front.
use Rattle.std.proofs.Common.{◌≡◌, List, [], ◌∷◌, ◌++◌, pos, ℤ, neg_ℤ, ◌≤ℤ◌, ◌<ℤ◌, All, Option, Some, None, refl, ◌∙◌, arith}
use Rattle.std.proofs.lemmas.List.Elements.{All-nil, All-cons, All-head, All-tail, All-push, All-pop}
use Rattle.srs_num.specs.Points.{LinearForm, Point, value, opposite}
use Rattle.srs_num.specs.Lines.{meet}
use Rattle.srs_num.proofs.Linear.{linear}
use Rattle.srs_num.proofs.Identities.{meet-d_turned, meet-d_opposite}
use Rattle.srs_cell.specs.Cutting.{IsFirstEnd, IsSection}
use Rattle.srs_cell.specs.declared.ends.Section.{Section}
use Rattle.srs_cell.proofs.Section.{end_passed}

-- an end within the same halves in another order
pub end_same : (g : LinearForm) (hs ks : List LinearForm) (end : Option Point) → ((P : LinearForm → Type 0) → All P hs → All P ks) → ((P : LinearForm → Type 0) → All P ks → All P hs)
    → IsFirstEnd g hs end → IsFirstEnd g ks end
end_same g hs ks None f b s = f (λ h. (meet h g).d ≤ℤ pos 0) s
end_same g hs ks (Some c) f b s = record {
  half = s.half;
  is_end = record {
    turns = s.is_end.turns;
    nearest = f (λ h. pos 0 <ℤ (meet h g).d → pos 0 ≤ℤ value h (meet s.half g)) s.is_end.nearest;
    holds = λ z i. s.is_end.holds z (record { positive = i.positive; each = b (λ h. pos 0 ≤ℤ value h z) i.each });
  };
  crossing = s.crossing;
  sized = s.sized;
}

to_front : (hs : List LinearForm) (h : LinearForm) (P : LinearForm → Type 0) → All P (hs ++ h ∷ []) → All P (h ∷ hs)
to_front hs h P a = let b = All-pop P (hs ++ h ∷ []) hs (Some h) refl a in All-cons P h hs b.1 b.0

to_back : (hs : List LinearForm) (h : LinearForm) (P : LinearForm → Type 0) → All P (h ∷ hs) → All P (hs ++ h ∷ [])
to_back hs h P a = All-push P hs h (All-tail P h hs a) (All-head P h hs a)

pub end_front : (g : LinearForm) (hs : List LinearForm) (h : LinearForm) (end : Option Point) → IsFirstEnd g (hs ++ h ∷ []) end → IsFirstEnd g (h ∷ hs) end
end_front g hs h end s = end_same g (hs ++ h ∷ []) (h ∷ hs) end (to_front hs h) (to_back hs h) s

-- the half doesn't bound the line this way
pub end_stays : (g : LinearForm) (hs : List LinearForm) (h : LinearForm) (end : Option Point) → (meet h g).d ≤ℤ pos 0 → IsFirstEnd g hs end → IsFirstEnd g (h ∷ hs) end
end_stays g hs h end low s = end_front g hs h end (end_passed g hs h end low s)

-- how a half turns to the opposite line
turned_back : (h g : LinearForm) → (meet h (opposite g)).d ≡ neg_ℤ (meet h g).d
turned_back h g = meet-d_opposite h g ∙ meet-d_turned g h

pub low_back : (h g : LinearForm) (t : ℤ) → t ≡ (meet h g).d → pos 0 ≤ℤ t → (meet h (opposite g)).d ≤ℤ pos 0
low_back h g t e k = by _ _ _ e (turned_back h g) k
  where
    by : (t a b : ℤ) → t ≡ a → b ≡ neg_ℤ a → pos 0 ≤ℤ t → b ≤ℤ pos 0
    by t a b e f k = omega (arith, linear)

pub up_back : (h g : LinearForm) (t : ℤ) → t ≡ (meet h g).d → t <ℤ pos 0 → pos 0 <ℤ (meet h (opposite g)).d
up_back h g t e k = by _ _ _ e (turned_back h g) k
  where
    by : (t a b : ℤ) → t ≡ a → b ≡ neg_ℤ a → t <ℤ pos 0 → pos 0 <ℤ b
    by t a b e f k = omega (arith, linear)

-- a line without halves
pub bare_section : (s : Section) → s.first ≡ None → s.second ≡ None → IsSection [] s
bare_section s e f = record {
  first = rw e (All-nil (λ h. (meet h s.line).d ≤ℤ pos 0));
  second = rw f (All-nil (λ h. (meet h (opposite s.line)).d ≤ℤ pos 0));
}
