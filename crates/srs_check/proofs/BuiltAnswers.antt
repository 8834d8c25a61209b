-- A tree and the one that is built of it give the same answers, but for the causes.
use Rattle.std.proofs.Common.{◌≡◌, inl, inr, List, refl, sym, ap, subst, ◌∙◌}
use Rattle.std.specs.Prelude.{◌↔◌}
use Rattle.std.specs.declared.option.Option.{Option}
use Rattle.std.specs.declared.option.Option.TheVariants.{Some, None}
use Rattle.srs_num.specs.Points.{Point}
use Rattle.srs_plane.specs.Regions.{Area}
use Rattle.srs_path.specs.declared.paths.Side.{Side}
use Rattle.srs_path.specs.declared.outcomes.Cause.TheVariants.{Memory}
use Rattle.srs_path.specs.declared.outcomes.Outcome.{Outcome}
use Rattle.srs_path.specs.declared.outcomes.Outcome.TheVariants.{Inside, Outside, Cut, Left}
use Rattle.srs_tree.specs.declared.answers.Reply.{Reply}
use Rattle.srs_tree.specs.declared.answers.Reply.TheVariants.{Inside as SaysInside, Outside as SaysOutside, Undecided as SaysUndecided, Beyond as SaysBeyond}
use Rattle.srs_tree.specs.declared.answers.Met.{Met}
use Rattle.srs_tree.specs.Tree.{Tree, HoldsAt}
use Rattle.srs_tree.specs.Answers.{reply_by, Answers, Meets, IsInside, IsOutside, IsUndecided, IsBeyond, IsMet}
use Rattle.srs_check.specs.Builds.{built_in}
use Rattle.srs_check.proofs.Cuts.{cut_in, holds_forth, holds_back}
use Rattle.srs_check.proofs.Building.{same_cuts}

-- the answer with the cause that a built tree has
abbrev pub built_reply : Reply → Reply
built_reply SaysInside = SaysInside
built_reply (SaysOutside cycle) = SaysOutside cycle
built_reply (SaysUndecided None) = SaysUndecided None
built_reply (SaysUndecided (Some cause)) = SaysUndecided (Some Memory)
built_reply SaysBeyond = SaysBeyond

reply_by-built : (x : Option Outcome) → reply_by (built_in x) ≡ built_reply (reply_by x)
reply_by-built None = refl
reply_by-built (Some (Inside ranks)) = refl
reply_by-built (Some (Outside cycle)) = refl
reply_by-built (Some (Cut h)) = refl
reply_by-built (Some (Left cause)) = refl

inside_back : (a : Reply) → IsInside (built_reply a) → IsInside a
inside_back SaysInside e = refl
inside_back (SaysOutside cycle) e = e
inside_back (SaysUndecided None) e = e
inside_back (SaysUndecided (Some cause)) e = cc
inside_back SaysBeyond e = e

inside_forth : (a : Reply) → IsInside a → IsInside (built_reply a)
inside_forth a e = ap built_reply e

outside_back : (a : Reply) → IsOutside (built_reply a) → IsOutside a
outside_back SaysInside e = e
outside_back (SaysOutside cycle) e = e
outside_back (SaysUndecided None) e = e
outside_back (SaysUndecided (Some cause)) e = let q : SaysUndecided (Some Memory) ≡ SaysOutside e.0 = e.1 in cc
outside_back SaysBeyond e = e

outside_forth : (a : Reply) → IsOutside a → IsOutside (built_reply a)
outside_forth a e = (e.0, ap built_reply e.1)

undecided_back : (a : Reply) → IsUndecided (built_reply a) → IsUndecided a
undecided_back SaysInside e = e
undecided_back (SaysOutside cycle) e = e
undecided_back (SaysUndecided cause) e = (cause, refl)
undecided_back SaysBeyond e = e

undecided_forth : (a : Reply) → IsUndecided a → IsUndecided (built_reply a)
undecided_forth SaysInside e = e
undecided_forth (SaysOutside cycle) e = e
undecided_forth (SaysUndecided None) e = (None, refl)
undecided_forth (SaysUndecided (Some cause)) e = (Some Memory, refl)
undecided_forth SaysBeyond e = e

beyond_back : (a : Reply) → IsBeyond (built_reply a) → IsBeyond a
beyond_back SaysInside e = e
beyond_back (SaysOutside cycle) e = e
beyond_back (SaysUndecided None) e = e
beyond_back (SaysUndecided (Some cause)) e = cc
beyond_back SaysBeyond e = refl

beyond_forth : (a : Reply) → IsBeyond a → IsBeyond (built_reply a)
beyond_forth a e = ap built_reply e

module _ (U T : Tree) (built : (p : List Side) → U p ≡ built_in (T p)) (Root : Area) where
  -- what the paths of T have of its cuts
  abbrev cuts : Tree
  cuts p = cut_in (T p)

  cuts_built : (p : List Side) → cuts p ≡ cut_in (U p)
  cuts_built p = sym (ap cut_in (built p) ∙ same_cuts (T p))

  -- the same leaf holds the point
  pub built_holds : (r : Point) (p : List Side) → HoldsAt Root U r p → HoldsAt Root T r p
  built_holds r p h = holds_back cuts T (λ q. refl) Root r p (holds_forth cuts U cuts_built Root r p h)

  holds_built : (r : Point) (p : List Side) → HoldsAt Root T r p → HoldsAt Root U r p
  holds_built r p h = holds_back cuts U cuts_built Root r p (holds_forth cuts T (λ q. refl) Root r p h)

  -- each answer of the built tree is one of the tree, but for its cause
  pub built_answers : (r : Point) (a : Reply) → Answers Root U r a → (b : Reply) × Answers Root T r b × (a ≡ built_reply b)
  built_answers r a (inl e) = (SaysBeyond, inl (e.0, refl), e.1)
  built_answers r a (inr l) =
      (reply_by (T l.path), inr (record { path = l.path; holds = built_holds r l.path l.holds; is = refl }), l.is ∙ ap reply_by (built l.path) ∙ reply_by-built (T l.path))

  answers_built : (r : Point) (b : Reply) → Answers Root T r b → Answers Root U r (built_reply b)
  answers_built r b (inl e) = inl (e.0, ap built_reply e.1)
  answers_built r b (inr l) =
      inr (record { path = l.path; holds = holds_built r l.path l.holds; is = ap built_reply l.is ∙ sym (ap reply_by (built l.path) ∙ reply_by-built (T l.path)) })

  module _ (Q : Area) (Asked : Reply → Type 0) (back : (a : Reply) → Asked (built_reply a) → Asked a) (forth : (a : Reply) → Asked a → Asked (built_reply a)) where
    meets_back : Meets Root U Q Asked → Meets Root T Q Asked
    meets_back m = let t = built_answers m.0 m.1 m.3 in (m.0, t.0, m.2, t.1, back t.0 (subst Asked t.2 m.4))

    meets_forth : Meets Root T Q Asked → Meets Root U Q Asked
    meets_forth m = (m.0, built_reply m.1, m.2, answers_built m.0 m.1 m.3, forth m.1 m.4)

    moved : {B : Type 0} → B ↔ Meets Root U Q Asked → B ↔ Meets Root T Q Asked
    moved e = (λ b. meets_back (e.0 b), λ m. e.1 (meets_forth m))

  -- a region meets the same kinds of answers
  pub built_met : (Q : Area) (m : Met) → IsMet Root U Q m → IsMet Root T Q m
  built_met Q m is = record {
    inside = moved Q IsInside inside_back inside_forth is.inside;
    outside = moved Q IsOutside outside_back outside_forth is.outside;
    undecided = moved Q IsUndecided undecided_back undecided_forth is.undecided;
    beyond = moved Q IsBeyond beyond_back beyond_forth is.beyond;
  }
