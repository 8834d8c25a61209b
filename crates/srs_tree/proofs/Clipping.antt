-- Cutting a cell by the halves of a region in turn.
use Rattle.std.proofs.Common.{◌≡◌, ◌⊎◌, inl, inr, ℕ, ◌+◌, [], ◌∷◌, ◌++◌, Bool, true, false, take, drop, slice_get, refl, sym, ap, subst, ◌∙◌, arith, take-append-drop, pos, ◌≤ℤ◌, ◌<ℤ◌, Some, None}
use Rattle.std.specs.Prelude.{IsTrue, ◌↔◌, ◌||◌, MatchOption}
use Rattle.std.specs.List.{AllByRecursion}
use Rattle.std.specs.declared.option.Option.{Option}
use Rattle.std.proofs.lemmas.Bool.{true≢false, false≢true}
use Rattle.std.proofs.lemmas.Int.{ints}
use Rattle.std.proofs.lemmas.List.{take_more}
use Rattle.std.proofs.lemmas.Option.{get_or_from_slice_get, slice_get_within}
use Rattle.srs_num.specs.Points.{Point, LinearForm, value, opposite}
use Rattle.srs_num.proofs.Identities.{value-opposite}
use Rattle.srs_plane.specs.declared.halves.Half.{Half}
use Rattle.srs_plane.specs.declared.halves.Kind.TheVariants.{Ge, Gt}
use Rattle.srs_plane.specs.Regions.{Area, IsIn, IsInHalf, HasPoint, ge_side, lt_side}
use Rattle.srs_plane.proofs.Members.{IsIn-push, IsIn-front, IsIn-last}
use Rattle.srs_cell.specs.Parts.{AreBoth}
use Rattle.srs_tree.specs.Clips.{IsClip}
use Rattle.srs_tree.proofs.Ways.{all_left}

module _ (Q : Area) (P : Point → Type 0) where
  abbrev Part : Area → Type 0
  Part I = (r : Point) → IsIn I r ↔ (IsIn Q r × P r)

  clip_part : (I : Area) → Part I → (r : Point) × IsIn Q r × (P r → ⊥) → IsClip Q P (record { inside = Some I; beyond = true })
  clip_part I is out = record { inside = is; some_beyond = λ _. out; none_beyond = λ e. absurd (true≢false e) }

  clip_whole : ((r : Point) → IsIn Q r → P r) → IsClip Q P (record { inside = Some Q; beyond = false })
  clip_whole all = record { inside = λ r. (λ i. (i, all r i), λ t. t.0); some_beyond = λ k. absurd (false≢true k); none_beyond = λ e. all }

  clip_nothing : HasPoint Q → ((r : Point) → IsIn Q r → P r → ⊥) → IsClip Q P (record { inside = None; beyond = true })
  clip_nothing some none = record { inside = none; some_beyond = λ _. (some.0, some.1, none some.0 some.1); none_beyond = λ e. absurd (true≢false e) }

-- the half of a form, where a cell's part has the half h appended, which holds the same points
part_of : (Q I : Area) (g h : Half) → ((r : Point) → IsInHalf g r ↔ IsInHalf h r) → I ≡ Q ++ g ∷ [] → Part Q (IsInHalf h) I
part_of Q I g h same e r = (
  λ i. let k : IsIn (Q ++ g ∷ []) r = subst (λ (R : Area). IsIn R r) e i in (IsIn-front Q g r k, (same r).0 (IsIn-last Q g r k)),
  λ t. subst (λ (R : Area). IsIn R r) (sym e) (IsIn-push Q g r t.0 ((same r).1 t.1)),
)

module _ (Q : Area) (h : Half) where
  -- the form of a closed half
  module _ (kind : h.kind ≡ Ge) where
    is_ge : h ≡ ge_side h.form
    is_ge = ap (λ k. let g : Half = record { form = h.form; kind = k } in g) kind

    to_ge : (r : Point) → IsInHalf h r → pos 0 ≤ℤ value h.form r
    to_ge r k = subst (λ (g : Half). IsInHalf g r) is_ge k

    of_ge : (r : Point) → pos 0 ≤ℤ value h.form r → IsInHalf h r
    of_ge r k = subst (λ (g : Half). IsInHalf g r) (sym is_ge) k

    pub ge_both : (x y : Area) → AreBoth Q h.form x y → IsClip Q (IsInHalf h) (record { inside = Some x; beyond = true })
    ge_both x y b =
        let t = b.divides.below in
        clip_part Q (IsInHalf h) x (part_of Q x (ge_side h.form) h (λ r. (of_ge r, to_ge r)) b.above)
        (t.0, t.1, λ k. let l = to_ge t.0 k in let m = t.2 in omega (arith, ints))

    pub ge_all : ((r : Point) → IsIn Q r → pos 0 ≤ℤ value h.form r) → IsClip Q (IsInHalf h) (record { inside = Some Q; beyond = false })
    ge_all all = clip_whole Q (IsInHalf h) (λ r i. of_ge r (all r i))

    pub ge_none : HasPoint Q → ((r : Point) → IsIn Q r → value h.form r <ℤ pos 0) → IsClip Q (IsInHalf h) (record { inside = None; beyond = true })
    ge_none some all = clip_nothing Q (IsInHalf h) some (λ r i k. let l = to_ge r k in let m = all r i in omega (arith, ints))

  -- the opposite of the form of an open half
  module _ (kind : h.kind ≡ Gt) (f : LinearForm) (is : f ≡ opposite h.form) where
    is_gt : h ≡ record { form = h.form; kind = Gt }
    is_gt = ap (λ k. let g : Half = record { form = h.form; kind = k } in g) kind

    turned : (r : Point) → value f r ≡ value (opposite h.form) r
    turned r = ap (λ (g : LinearForm). value g r) is

    to_gt : (r : Point) → IsInHalf h r → value f r <ℤ pos 0
    to_gt r k =
        let l : pos 0 <ℤ value h.form r = subst (λ (g : Half). IsInHalf g r) is_gt k in
        let e = value-opposite h.form r in let t = turned r in omega (arith, ints)

    of_gt : (r : Point) → value f r <ℤ pos 0 → IsInHalf h r
    of_gt r k =
        let e = value-opposite h.form r in let t = turned r in
        let l : pos 0 <ℤ value h.form r = omega (arith, ints) in
        subst (λ (g : Half). IsInHalf g r) (sym is_gt) l

    below : (r : Point) → IsInHalf (lt_side f) r ↔ (value f r <ℤ pos 0)
    below r = (λ k. let e = value-opposite f r in omega (arith, ints), λ k. let e = value-opposite f r in omega (arith, ints))

    pub gt_both : (x y : Area) → AreBoth Q f x y → IsClip Q (IsInHalf h) (record { inside = Some y; beyond = true })
    gt_both x y b =
        let t = b.divides.not_below in
        clip_part Q (IsInHalf h) y (part_of Q y (lt_side f) h (λ r. (λ k. of_gt r ((below r).0 k), λ k. (below r).1 (to_gt r k))) b.below)
        (t.0, t.1, λ k. let l = to_gt t.0 k in let m = t.2 in omega (arith, ints))

    pub gt_none : HasPoint Q → ((r : Point) → IsIn Q r → pos 0 ≤ℤ value f r) → IsClip Q (IsInHalf h) (record { inside = None; beyond = true })
    gt_none some all = clip_nothing Q (IsInHalf h) some (λ r i k. let l = to_gt r k in let m = all r i in omega (arith, ints))

    pub gt_all : ((r : Point) → IsIn Q r → value f r <ℤ pos 0) → IsClip Q (IsInHalf h) (record { inside = Some Q; beyond = false })
    gt_all all = clip_whole Q (IsInHalf h) (λ r i. of_gt r (all r i))

either : (a b : Bool) → IsTrue (a || b) → IsTrue a ⊎ IsTrue b
either true b k = inl refl
either false b k = inr k

neither : (a b : Bool) → a || b ≡ false → (a ≡ false) × (b ≡ false)
neither true b e = absurd (true≢false e)
neither false b e = (refl, e)

module _ (Q R : Area) (i : ℕ) (h : Half) (at : slice_get R i ≡ Some h) where
  more : take (i + 1) R ≡ take i R ++ h ∷ []
  more = take_more R i h (slice_get_within R i h at) ∙ ap (λ (g : Half). take i R ++ g ∷ []) (get_or_from_slice_get R i h h at)

  split : (r : Point) → IsIn (take (i + 1) R) r → IsIn (take i R) r × IsInHalf h r
  split r k = let j : IsIn (take i R ++ h ∷ []) r = subst (λ (S : Area). IsIn S r) more k in (IsIn-front (take i R) h r j, IsIn-last (take i R) h r j)

  join : (r : Point) → IsIn (take i R) r → IsInHalf h r → IsIn (take (i + 1) R) r
  join r j k = subst (λ (S : Area). IsIn S r) (sym more) (IsIn-push (take i R) h r j k)

  -- one half more
  pub clip_next : (I : Area) (b : Bool) (o : Option Area) (d : Bool) → IsClip Q (IsIn (take i R)) (record { inside = Some I; beyond = b }) → IsClip I (IsInHalf h) (record { inside = o; beyond = d }) → IsClip Q (IsIn (take (i + 1) R)) (record { inside = o; beyond = b || d })
  clip_next I b o d old new = record { inside = inside o new.inside; some_beyond = some_beyond; none_beyond = none_beyond }
    where
      inside : (o : Option Area) → MatchOption o ((r : Point) → IsIn I r → IsInHalf h r → ⊥) (λ J. (r : Point) → IsIn J r ↔ (IsIn I r × IsInHalf h r)) → MatchOption o ((r : Point) → IsIn Q r → IsIn (take (i + 1) R) r → ⊥) (λ J. (r : Point) → IsIn J r ↔ (IsIn Q r × IsIn (take (i + 1) R) r))
      inside None none = λ r j k. let s = split r k in none r ((old.inside r).1 (j, s.0)) s.1
      inside (Some J) is = λ r. (
        λ j. let t = (is r).0 j in let u = (old.inside r).0 t.0 in (u.0, join r u.1 t.1),
        λ t. let s = split r t.1 in (is r).1 ((old.inside r).1 (t.0, s.0), s.1),
      )

      some_beyond : IsTrue (b || d) → (r : Point) × IsIn Q r × (IsIn (take (i + 1) R) r → ⊥)
      some_beyond k = elim (either b d k) [
        | inl x ↦ let t = old.some_beyond x in (t.0, t.1, λ j. t.2 (split t.0 j).0)
        | inr x ↦ let t = new.some_beyond x in (t.0, ((old.inside t.0).0 t.1).0, λ j. t.2 (split t.0 j).1)
      ]

      none_beyond : b || d ≡ false → (r : Point) → IsIn Q r → IsIn (take (i + 1) R) r
      none_beyond e r j =
          let k = neither b d e in
          let before = old.none_beyond k.0 r j in
          join r before (new.none_beyond k.1 r ((old.inside r).1 (j, before)))

-- what nothing is left of by the first halves
pub clip_none : (Q R : Area) (k : ℕ) (b : Bool) → IsClip Q (IsIn (take k R)) (record { inside = None; beyond = b }) → IsClip Q (IsIn R) (record { inside = None; beyond = b })
clip_none Q R k b clip = record {
  inside = λ r i j. clip.inside r i (first r j);
  some_beyond = λ x. let t = clip.some_beyond x in (t.0, t.1, λ j. t.2 (first t.0 j));
  none_beyond = λ e r i. absurd (clip.inside r i (clip.none_beyond e r i));
}
  where
    first : (r : Point) → IsIn R r → IsIn (take k R) r
    first r j = record { is_point = j.is_point; halves = all_left (λ h. IsInHalf h r) (take k R) (drop k R) (subst (AllByRecursion (λ h. IsInHalf h r)) (sym (take-append-drop k R)) j.halves) }
