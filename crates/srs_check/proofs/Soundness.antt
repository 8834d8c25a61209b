-- A leaf that proves itself is sound.
use Rattle.std.proofs.Common.{◌≡◌, ◌≢◌, inl, inr, ℕ, zero, suc, ◌+◌, ◌<◌, ℤ, pos, ◌<ℤ◌, refl, sym, ap, ap₂, subst, ◌∙◌, arith}
use Rattle.std.specs.Prelude.{Contains}
use Rattle.std.proofs.lemmas.Int.{by_lt_z, ints}
use Rattle.srs_num.specs.declared.pairs.V2.{V2}
use Rattle.srs_num.specs.Points.{Point}
use Rattle.srs_map.specs.Step.{pair, origin, step_of, after}
use Rattle.srs_map.specs.Finiteness.{IsFinite}
use Rattle.srs_map.specs.Links.{IsLink}
use Rattle.srs_map.proofs.Brunotte.{brunotte}
use Rattle.srs_map.proofs.Cycles.{after-add}
use Rattle.srs_plane.specs.Regions.{Area, IsIn}
use Rattle.srs_path.specs.declared.outcomes.Outcome.{Outcome}
use Rattle.srs_path.specs.declared.outcomes.Outcome.TheVariants.{Inside}
use Rattle.srs_tree.specs.Growth.{IsProvedOf}
use Rattle.srs_check.specs.Listed.{RankList, IsListed, ProvesInside}

abbrev Reaches : Point → V2 → Type 0
Reaches r w = (n : ℕ) × (after n r w ≡ origin)

-- a pair is (0, 0), or it isn't
zero_or : (P : Type 0) (w : V2) → (w ≡ origin → P) → (w ≢ origin → P) → P
zero_or P w f g =
    by_lt_z w.a (pos 0) (λ l. g (λ e. not_less w.a (ap (λ (x : V2). x.a) e) l)) (λ m.
    by_lt_z (pos 0) w.a (λ l. g (λ e. not_more w.a (ap (λ (x : V2). x.a) e) l)) (λ n.
    by_lt_z w.b (pos 0) (λ l. g (λ e. not_less w.b (ap (λ (x : V2). x.b) e) l)) (λ o.
    by_lt_z (pos 0) w.b (λ l. g (λ e. not_more w.b (ap (λ (x : V2). x.b) e) l)) (λ p.
    f (same w.a w.b (omega (arith, ints, m, n)) (omega (arith, ints, o, p)))))))
  where
    not_less : (x : ℤ) → x ≡ pos 0 → x <ℤ pos 0 → ⊥
    not_less x e l = omega (arith, ints)

    not_more : (x : ℤ) → x ≡ pos 0 → pos 0 <ℤ x → ⊥
    not_more x e l = omega (arith, ints)

    same : (x y : ℤ) → x ≡ pos 0 → y ≡ pos 0 → pair x y ≡ origin
    same x y e f = ap₂ pair e f

module _ (R : Area) (entries : RankList) (proves : ProvesInside R entries) (r : Point) (i : IsIn R r) where
  -- a listed pair of rank below n reaches (0, 0)
  reach_by : (n m : ℕ) (w : V2) → Contains entries (w, m) → m < n → Reaches r w
  reach_by zero m w c l = absurd (omega arith)
  reach_by (suc n) m w c l =
      let b = (proves.closed (w, m) c).ahead (step_of r w) (r, i, refl) in
      let next : w ≢ origin → Reaches r (step_of r w) = λ z. reach_by n b.listed.0 (step_of r w) b.listed.1 (omega (arith, l, b.falls z b.listed.0 b.listed.1)) in
      zero_or (Reaches r w) w (λ e. (0, e)) (λ z. let f = next z in (f.0 + 1, after-add f.0 1 r w ∙ f.1))

  links : (w v : V2) → IsListed entries w → IsLink r w v → IsListed entries v
  links w v (n, c) (inl e) = ((proves.closed (w, n) c).ahead v (r, i, sym e)).listed
  links w v (n, c) (inr e) = (proves.closed (w, n) c).back v (r, i, sym e)

  -- each point of an inside leaf is finite
  pub finite : IsFinite r
  finite = brunotte r (IsListed entries) i.is_point (record {
    units = proves.units;
    closed = links;
    reaches = λ w l. reach_by (l.0 + 1) l.0 w l.1 (omega arith);
  })

pub inside_sound : (R : Area) (entries : RankList) (o : Outcome) → Inside entries ≡ o → ProvesInside R entries → IsProvedOf R o
inside_sound R entries o is p = subst (IsProvedOf R) is (λ r i. finite R entries p r i)
