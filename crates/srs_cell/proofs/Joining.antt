-- Corners with one more, or without it where it is a double.
use Rattle.std.proofs.Common.{◌≡◌, ◌^◌, List, [], ◌∷◌, ◌++◌, ℤ, pos, neg_ℤ, ◌*ℤ◌, ◌+ℤ◌, ◌≤ℤ◌, ◌<ℤ◌, All, Some, refl, ap₂, ◌∙◌, subst, arith, length-append}
use Rattle.std.proofs.lemmas.List.Elements.{All-push, All-pop}
use Rattle.srs_num.specs.Points.{LinearForm, Point, value, opposite, IsPointWithin}
use Rattle.srs_num.proofs.Linear.{linear, mul_nonneg, nonneg_from}
use Rattle.srs_num.proofs.Ring.{v, ◌⊕◌, ◌⊗◌, ring}
use Rattle.srs_cell.specs.Hull.{IsInHalves, IsAbove}
use Rattle.srs_cell.specs.declared.ends.Section.{Section}
use Rattle.srs_cell.specs.Cutting.{IsPart, IsSection}
use Rattle.srs_cell.specs.Doubles.{IsSamePoint, HasDouble, IsJoined}

front : {X : Type 0} (P : X → Type 0) (xs : List X) (x : X) → All P (xs ++ x ∷ []) → All P xs
front P xs x h = (All-pop P (xs ++ x ∷ []) xs (Some x) refl h).0

-- a form has the same sign at the same point
weighed : (a b c p q d r s e : ℤ) → p *ℤ e ≡ r *ℤ d → q *ℤ e ≡ s *ℤ d → e *ℤ (a *ℤ p +ℤ b *ℤ q +ℤ c *ℤ d) ≡ d *ℤ (a *ℤ r +ℤ b *ℤ s +ℤ c *ℤ e)
weighed a b c p q d r s e x y =
    ring (a ∷ b ∷ c ∷ p ∷ q ∷ d ∷ e ∷ [])
    (v 6 ⊗ (v 0 ⊗ v 3 ⊕ v 1 ⊗ v 4 ⊕ v 2 ⊗ v 5))
    (v 0 ⊗ (v 3 ⊗ v 6) ⊕ v 1 ⊗ (v 4 ⊗ v 6) ⊕ v 2 ⊗ v 5 ⊗ v 6) tt
    ∙ ap₂ (λ (k l : ℤ). a *ℤ k +ℤ b *ℤ l +ℤ c *ℤ d *ℤ e) x y
    ∙ ring (a ∷ b ∷ c ∷ r ∷ s ∷ d ∷ e ∷ [])
    (v 0 ⊗ (v 3 ⊗ v 5) ⊕ v 1 ⊗ (v 4 ⊗ v 5) ⊕ v 2 ⊗ v 5 ⊗ v 6)
    (v 5 ⊗ (v 0 ⊗ v 3 ⊕ v 1 ⊗ v 4 ⊕ v 2 ⊗ v 6)) tt

same_sign : (f : LinearForm) (c e : Point) → IsSamePoint c e → pos 0 ≤ℤ value f c → pos 0 ≤ℤ value f e
unfolding value
same_sign f c e s h =
    let w = weighed f.a f.b f.c c.p c.q c.d e.p e.q e.d s.x s.y in
    nonneg_from c.d (value f e) s.positive (subst (λ (z : ℤ). pos 0 ≤ℤ z) w (mul_nonneg e.d (value f c) (less e.d s.positive_too) h))
  where
    less : (d : ℤ) → pos 0 <ℤ d → pos 0 ≤ℤ d
    less d h = omega (arith, linear)

pub joined_double : (us : List Point) (c : Point) → HasDouble us c → IsJoined us c us
joined_double us c (e, (k, lt, is), s) = record {
  covers = λ f a. All-push (λ z. pos 0 ≤ℤ value f z) us c a (same_sign f e c s (subst (λ (z : Point). pos 0 ≤ℤ value f z) is (a k e lt)));
  inside = λ hs a. front (IsInHalves hs) us c a;
  sized = λ m a. front (IsPointWithin m) us c a;
  some = omega arith;
  few = omega arith;
}

-- two ends are joined to the corners that a line keeps
module _ (hs : List LinearForm) (cs : List Point) (g : LinearForm) (us vs ws : List Point) (x y : Point) (j : IsJoined us x vs) (k : IsJoined vs y ws) where
  along : (P : Point → Type 0) → (All P (us ++ x ∷ []) → All P vs) → (All P (vs ++ y ∷ []) → All P ws) → All P ((us ++ x ∷ []) ++ y ∷ []) → All P ws
  along P f g a = let b = All-pop P ((us ++ x ∷ []) ++ y ∷ []) (us ++ x ∷ []) (Some y) refl a in g (All-push P vs y (f b.0) b.1)

  covered : (f : LinearForm) → IsAbove f ws → IsAbove f ((us ++ x ∷ []) ++ y ∷ [])
  covered f a =
      let P : Point → Type 0 = λ z. pos 0 ≤ℤ value f z in
      let b = All-pop P (vs ++ y ∷ []) vs (Some y) refl (k.covers f a) in
      All-push P (us ++ x ∷ []) y (j.covers f b.0) b.1

  pub part_joined : IsPart hs cs g ((us ++ x ∷ []) ++ y ∷ []) → IsPart hs cs g ws
  part_joined p = record {
    hull = record {
      inside = let H = hs ++ g ∷ [] in along (IsInHalves H) (j.inside H) (k.inside H) p.hull.inside;
      whole = λ f a z z_in. p.hull.whole f (covered f a) z z_in;
    };
    sized = along (IsPointWithin (2 ^ 77)) (j.sized (2 ^ 77)) (k.sized (2 ^ 77)) p.sized;
    some = k.some;
    few = let old = p.few in let first = j.few in let second = k.few in omega (arith, length-append (us ++ x ∷ []) (y ∷ []), length-append us (x ∷ []));
  }

pub opposite-twice : (f : LinearForm) → opposite (opposite f) ≡ f
unfolding opposite
opposite-twice f = same _ _ _ _ _ _ (twice f.a) (twice f.b) (twice f.c)
  where
    twice : (a : ℤ) → neg_ℤ (neg_ℤ a) ≡ a
    twice a = omega (arith, linear)

    same : (a b c x y z : ℤ) → a ≡ x → b ≡ y → c ≡ z → ◌≡◌ {A = LinearForm} (record { a = a; b = b; c = c }) (record { a = x; b = y; c = z })
    same a b c x y z e f g = cc

-- the section of the opposite line
pub turned_section : (hs : List LinearForm) (s : Section) (t : Section) → t.line ≡ opposite s.line → t.first ≡ s.second → t.second ≡ s.first → IsSection hs s → IsSection hs t
turned_section hs s t l f g i = record {
  first = rw (l, f) i.second;
  second = rw (l, g, opposite-twice s.line) i.first;
}
