-- Which answers a region meets, from those that its parts meet.
use Rattle.std.proofs.Common.{◌≡◌, ◌⊎◌, inl, inr, List, [], ◌∷◌, ◌++◌, Bool, true, false, refl, sym, ap, subst, ◌∙◌, Some, None}
use Rattle.std.proofs.lemmas.Bool.{false≢true}
use Rattle.std.specs.Prelude.{IsTrue, ◌↔◌, ◌||◌, MatchOption}
use Rattle.std.specs.declared.option.Option.{Option}
use Rattle.srs_num.specs.Points.{Point, LinearForm, value}
use Rattle.srs_plane.specs.Regions.{Area, IsIn, HasPoint, ge_side, lt_side}
use Rattle.srs_plane.proofs.Members.{IsIn-push, IsIn-front}
use Rattle.srs_path.specs.declared.paths.Side.{Side}
use Rattle.srs_path.specs.declared.paths.Side.TheVariants.{Ge, Lt}
use Rattle.srs_path.specs.declared.outcomes.Outcome.{Outcome}
use Rattle.srs_path.specs.declared.outcomes.Outcome.TheVariants.{Inside, Outside, Cut, Left}
use Rattle.srs_tree.specs.declared.answers.Reply.{Reply}
use Rattle.srs_tree.specs.declared.answers.Reply.TheVariants.{Inside as SaysInside, Outside as SaysOutside, Undecided as SaysUndecided, Beyond as SaysBeyond}
use Rattle.srs_tree.specs.declared.answers.Met.{Met}
use Rattle.srs_tree.specs.declared.meetings.Clip.{Clip}
use Rattle.srs_tree.specs.Tree.{Tree, HoldsAt}
use Rattle.srs_tree.specs.Answers.{reply_by, Answers, Meets, IsInside, IsOutside, IsUndecided, IsBeyond, IsMarked, IsMet, no_kind, kind_of, both, AnswersAreOne}
use Rattle.srs_tree.specs.Snapshots.{tree_of}
use Rattle.srs_tree.specs.Clips.{IsClip}
use Rattle.srs_tree.proofs.Trees.{IsClosed}
use Rattle.srs_tree.proofs.TreeCut.{some_sign, on_side, Sign}
use Rattle.srs_tree.proofs.Ways.{one_leaf, in_root}

abbrev Kinds : Type 1
Kinds = (Reply → Type 0) → Type 0

or_iff : (a b : Bool) (A B C : Type 0) → IsTrue a ↔ A → IsTrue b ↔ B → (A → C) → (B → C) → (C → A ⊎ B) → IsTrue (a || b) ↔ C
or_iff true b A B C f g to_a to_b from = (λ _. to_a (f.0 refl), λ _. refl)
or_iff false true A B C f g to_a to_b from = (λ _. to_b (g.0 refl), λ _. refl)
or_iff false false A B C f g to_a to_b from = (λ k. absurd (false≢true k), λ c. elim (from c) [ inl a ↦ f.1 a | inr b ↦ g.1 b ])

-- the kinds of two parts together
pub marked_both : (X Y Z : Kinds) (m n : Met) → ((A : Reply → Type 0) → X A → Z A) → ((A : Reply → Type 0) → Y A → Z A) → ((A : Reply → Type 0) → Z A → X A ⊎ Y A) → IsMarked X m → IsMarked Y n → IsMarked Z (both m n)
marked_both X Y Z m n f g from a b = record {
  inside = or_iff m.inside n.inside (X IsInside) (Y IsInside) (Z IsInside) a.inside b.inside (f IsInside) (g IsInside) (from IsInside);
  outside = or_iff m.outside n.outside (X IsOutside) (Y IsOutside) (Z IsOutside) a.outside b.outside (f IsOutside) (g IsOutside) (from IsOutside);
  undecided = or_iff m.undecided n.undecided (X IsUndecided) (Y IsUndecided) (Z IsUndecided) a.undecided b.undecided (f IsUndecided) (g IsUndecided) (from IsUndecided);
  beyond = or_iff m.beyond n.beyond (X IsBeyond) (Y IsBeyond) (Z IsBeyond) a.beyond b.beyond (f IsBeyond) (g IsBeyond) (from IsBeyond);
}

through : (A B C : Type 0) → A ↔ B → B ↔ C → A ↔ C
through A B C f g = (λ a. g.0 (f.0 a), λ c. f.1 (g.1 c))

-- what says the same marks the same
pub marked_same : (X Z : Kinds) (m : Met) → ((A : Reply → Type 0) → X A ↔ Z A) → IsMarked X m → IsMarked Z m
marked_same X Z m same a = record {
  inside = through (IsTrue m.inside) (X IsInside) (Z IsInside) a.inside (same IsInside);
  outside = through (IsTrue m.outside) (X IsOutside) (Z IsOutside) a.outside (same IsOutside);
  undecided = through (IsTrue m.undecided) (X IsUndecided) (Z IsUndecided) a.undecided (same IsUndecided);
  beyond = through (IsTrue m.beyond) (X IsBeyond) (Z IsBeyond) a.beyond (same IsBeyond);
}

yes : (P : Type 0) → P → true ≡ true ↔ P
yes P p = (λ _. p, λ _. refl)

never : (P : Type 0) → (P → ⊥) → false ≡ true ↔ P
never P f = (λ e. absurd (false≢true e), λ p. absurd (f p))

pub none_marked : IsMarked (λ A. ⊥) no_kind
none_marked = record { inside = never ⊥ (λ k. k); outside = never ⊥ (λ k. k); undecided = never ⊥ (λ k. k); beyond = never ⊥ (λ k. k) }

-- an answer has its kind alone
pub kind_marked : (a : Reply) → IsMarked (λ A. A a) (kind_of a)
kind_marked SaysInside = record {
  inside = yes (IsInside SaysInside) refl;
  outside = never (IsOutside SaysInside) (λ t. let e = t.1 in cc);
  undecided = never (IsUndecided SaysInside) (λ t. let e = t.1 in cc);
  beyond = never (IsBeyond SaysInside) (λ e. cc);
}
kind_marked (SaysOutside cycle) = record {
  inside = never (IsInside (SaysOutside cycle)) (λ e. cc);
  outside = yes (IsOutside (SaysOutside cycle)) (cycle, refl);
  undecided = never (IsUndecided (SaysOutside cycle)) (λ t. let e = t.1 in cc);
  beyond = never (IsBeyond (SaysOutside cycle)) (λ e. cc);
}
kind_marked (SaysUndecided cause) = record {
  inside = never (IsInside (SaysUndecided cause)) (λ e. cc);
  outside = never (IsOutside (SaysUndecided cause)) (λ t. let e = t.1 in cc);
  undecided = yes (IsUndecided (SaysUndecided cause)) (cause, refl);
  beyond = never (IsBeyond (SaysUndecided cause)) (λ e. cc);
}
kind_marked SaysBeyond = record {
  inside = never (IsInside SaysBeyond) (λ e. cc);
  outside = never (IsOutside SaysBeyond) (λ t. let e = t.1 in cc);
  undecided = never (IsUndecided SaysBeyond) (λ t. let e = t.1 in cc);
  beyond = yes (IsBeyond SaysBeyond) refl;
}

-- a leaf doesn't answer that a point is beyond
by_leaf_within : (o : Option Outcome) → SaysBeyond ≡ reply_by o → ⊥
by_leaf_within None e = cc
by_leaf_within (Some (Inside ranks)) e = cc
by_leaf_within (Some (Outside cycle)) e = cc
by_leaf_within (Some (Cut h)) e = cc
by_leaf_within (Some (Left cause)) e = cc

module _ (Root : Area) (T : Tree) where
  meets_more : (C D : Area) → ((r : Point) → IsIn D r → IsIn C r) → (A : Reply → Type 0) → Meets Root T D A → Meets Root T C A
  meets_more C D k A m = (m.0, m.1, k m.0 m.2, m.3, m.4)

  meets_side : (C : Area) (h : LinearForm) (A : Reply → Type 0) → Meets Root T C A → Meets Root T (C ++ ge_side h ∷ []) A ⊎ Meets Root T (C ++ lt_side h ∷ []) A
  meets_side C h A m = by_sign (some_sign (value h m.0)).0 (some_sign (value h m.0)).1
    where
      by_sign : (s : Side) → Sign s (value h m.0) → Meets Root T (C ++ ge_side h ∷ []) A ⊎ Meets Root T (C ++ lt_side h ∷ []) A
      by_sign Ge k = inl (m.0, m.1, IsIn-push C (ge_side h) m.0 m.2 (on_side Ge h m.0 k), m.3, m.4)
      by_sign Lt k = inr (m.0, m.1, IsIn-push C (lt_side h) m.0 m.2 (on_side Lt h m.0 k), m.3, m.4)

  -- the two parts of a cell
  pub met_both : (C X Y : Area) (h : LinearForm) (m n : Met) → X ≡ C ++ ge_side h ∷ [] → Y ≡ C ++ lt_side h ∷ [] → IsMet Root T X m → IsMet Root T Y n → IsMet Root T C (both m n)
  met_both C X Y h m n e f a b =
      marked_both (Meets Root T (C ++ ge_side h ∷ [])) (Meets Root T (C ++ lt_side h ∷ [])) (Meets Root T C) m n
      (meets_more C (C ++ ge_side h ∷ []) (λ r i. IsIn-front C (ge_side h) r i))
      (meets_more C (C ++ lt_side h ∷ []) (λ r i. IsIn-front C (lt_side h) r i))
      (meets_side C h) (subst (λ (R : Area). IsMet Root T R m) e a) (subst (λ (R : Area). IsMet Root T R n) f b)

  -- a cell within a leaf
  pub met_leaf : IsClosed T → (C : Area) (p : List Side) (a : Reply) (m : Met) → HasPoint C → ((r : Point) → IsIn C r → HoldsAt Root T r p) → a ≡ reply_by (T p) → IsMarked (λ A. A a) m → IsMet Root T C m
  met_leaf closed C p a m some holds is marked = marked_same (λ A. A a) (Meets Root T C) m same marked
    where
      same : (A : Reply → Type 0) → A a ↔ Meets Root T C A
      same A = (
        λ k. (some.0, a, some.1, inr (record { path = p; holds = holds some.0 some.1; is = is }), k),
        λ t. subst A (answer t.0 t.1 t.2 t.3) t.4,
      )
        where
          answer : (r : Point) (b : Reply) → IsIn C r → Answers Root T r b → b ≡ a
          answer r b i (inl out) = absurd (out.0 (in_root Root T r p (holds r i)))
          answer r b i (inr leaf) = leaf.is ∙ ap (λ (q : List Side). reply_by (T q)) (one_leaf T closed r Root leaf.path p leaf.holds (holds r i)) ∙ sym is

  -- the answers but beyond are those of the part within the root
  within_root : (Q : Area) (A : Reply → Type 0) → (A SaysBeyond → ⊥) → Meets Root T Q A → (r : Point) × (a : Reply) × IsIn Q r × IsIn Root r × Answers Root T r a × A a
  within_root Q A other t = (t.0, t.1, t.2, inside t.3, t.3, t.4)
    where
      inside : Answers Root T t.0 t.1 → IsIn Root t.0
      inside (inl out) = absurd (other (subst A out.1 t.4))
      inside (inr leaf) = in_root Root T t.0 leaf.path leaf.holds

  module _ (Q : Area) (c : Clip) (clip : IsClip Q (IsIn Root) c) where
    beyond_iff : IsTrue c.beyond ↔ Meets Root T Q IsBeyond
    beyond_iff = (λ k. let t = clip.some_beyond k in (t.0, SaysBeyond, t.1, inl (t.2, refl), refl), λ t. by_test c.beyond refl t)
      where
        by_test : (b : Bool) → c.beyond ≡ b → Meets Root T Q IsBeyond → IsTrue b
        by_test true e t = refl
        by_test false e t = absurd (out t.3)
          where
            out : Answers Root T t.0 t.1 → ⊥
            out (inl k) = k.0 (clip.none_beyond e t.0 t.2)
            out (inr leaf) = by_leaf_within (T leaf.path) (sym t.4 ∙ leaf.is)

    inside_cc : IsInside SaysBeyond → ⊥
    inside_cc e = cc

    outside_cc : IsOutside SaysBeyond → ⊥
    outside_cc t = let e = t.1 in cc

    undecided_cc : IsUndecided SaysBeyond → ⊥
    undecided_cc t = let e = t.1 in cc

    -- where a part is within the root
    pub met_some : (I : Area) (m : Met) → c.inside ≡ Some I → IsMet Root T I m → IsMet Root T Q (record { inside = m.inside; outside = m.outside; undecided = m.undecided; beyond = c.beyond })
    met_some I m e met = record {
      inside = through (IsTrue m.inside) (Meets Root T I IsInside) (Meets Root T Q IsInside) met.inside (same IsInside inside_cc);
      outside = through (IsTrue m.outside) (Meets Root T I IsOutside) (Meets Root T Q IsOutside) met.outside (same IsOutside outside_cc);
      undecided = through (IsTrue m.undecided) (Meets Root T I IsUndecided) (Meets Root T Q IsUndecided) met.undecided (same IsUndecided undecided_cc);
      beyond = beyond_iff;
    }
      where
        inner : (r : Point) → IsIn I r ↔ (IsIn Q r × IsIn Root r)
        inner = subst (λ (o : Option Area). MatchOption o ((r : Point) → IsIn Q r → IsIn Root r → ⊥) (λ J. (r : Point) → IsIn J r ↔ (IsIn Q r × IsIn Root r))) e clip.inside

        same : (A : Reply → Type 0) → (A SaysBeyond → ⊥) → Meets Root T I A ↔ Meets Root T Q A
        same A other = (
          meets_more Q I (λ r i. ((inner r).0 i).0) A,
          λ t. let u = within_root Q A other t in (u.0, u.1, (inner u.0).1 (u.2, u.3), u.4, u.5),
        )

    -- where no part is
    pub met_none : (m : Met) → c.inside ≡ None → IsMarked (λ A. ⊥) m → IsMet Root T Q (record { inside = m.inside; outside = m.outside; undecided = m.undecided; beyond = c.beyond })
    met_none m e marked = record {
      inside = through (IsTrue m.inside) ⊥ (Meets Root T Q IsInside) marked.inside (same IsInside inside_cc);
      outside = through (IsTrue m.outside) ⊥ (Meets Root T Q IsOutside) marked.outside (same IsOutside outside_cc);
      undecided = through (IsTrue m.undecided) ⊥ (Meets Root T Q IsUndecided) marked.undecided (same IsUndecided undecided_cc);
      beyond = beyond_iff;
    }
      where
        inner : (r : Point) → IsIn Q r → IsIn Root r → ⊥
        inner = subst (λ (o : Option Area). MatchOption o ((r : Point) → IsIn Q r → IsIn Root r → ⊥) (λ J. (r : Point) → IsIn J r ↔ (IsIn Q r × IsIn Root r))) e clip.inside

        same : (A : Reply → Type 0) → (A SaysBeyond → ⊥) → ⊥ ↔ Meets Root T Q A
        same A other = (λ k. absurd k, λ t. let u = within_root Q A other t in inner u.0 u.2 u.3)

-- a version has one answer at a point
pub one_answer : AnswersAreOne
one_answer v r a b version (inl x) (inl y) = x.1 ∙ sym y.1
one_answer v r a b version (inl x) (inr y) = absurd (x.0 (in_root v.region (tree_of v) r y.path y.holds))
one_answer v r a b version (inr x) (inl y) = absurd (y.0 (in_root v.region (tree_of v) r x.path x.holds))
one_answer v r a b version (inr x) (inr y) =
    x.is ∙ ap (λ (q : List Side). reply_by (tree_of v q)) (one_leaf (tree_of v) version.at_cells r v.region x.path y.path x.holds y.holds) ∙ sym y.is
