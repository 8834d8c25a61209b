-- The questions of a file can be asked, and the text grows by one reply.
use Rattle.std.proofs.Common.{◌≡◌, inl, inr, ℕ, zero, suc, List, [], ◌∷◌, ◌++◌, sym, ap, subst, ◌∙◌, append-nil}
use Rattle.std.specs.List.{flat_map}
use Rattle.std.specs.Prelude.{OnOk, Ok, Err}
use Rattle.std.specs.declared.result.Result.{Result}
use Rattle.std.proofs.lemmas.Option.{none-some, same_Some}
use Rattle.std.proofs.lemmas.List.Concat.{flat_map-append}
use Rattle.srs_num.specs.Points.{Point as Place}
use Rattle.srs_plane.specs.Polygons.{region_of}
use Rattle.srs_plane.specs.Regions.{Area, IsIn}
use Rattle.srs_path.specs.declared.paths.Side.{Side}
use Rattle.srs_tree.specs.declared.answers.Met.{Met}
use Rattle.srs_tree.specs.declared.answers.Reply.{Reply}
use Rattle.srs_tree.specs.declared.answers.Reply.TheVariants.{Beyond}
use Rattle.srs_tree.specs.declared.queries.Query.{Query}
use Rattle.srs_tree.specs.declared.queries.Query.TheVariants.{Fresh, Count, Point, Polygon, Orbit}
use Rattle.srs_tree.specs.declared.queries.Said.{Said}
use Rattle.srs_tree.specs.Tree.{outcome_at, HoldsAt}
use Rattle.srs_tree.specs.Snapshots.{Snapshot, tree_of}
use Rattle.srs_tree.specs.Answers.{Answers, IsMet, reply_by}
use Rattle.srs_cert.specs.Certificates.{CertView}
use Rattle.srs_file.specs.Questions.{IsQuestion, AreQuestions}
use Rattle.srs_cert.specs.Sayings.{said_text}
use Rattle.srs_check.specs.Builds.{IsBuilt}
use Rattle.srs_check.proofs.BuiltAnswers.{built_holds, built_met}
use Rattle.srs_tool.specs.Replies.{Replies, AreReplies, IsReplyText, AddsReply, IsAsked, AreAsked}

asked_of : (text : List ℕ) (query : Query) → IsQuestion text query → IsAsked query
asked_of text (Point r) is = tt
asked_of text (Polygon q) is = tt
asked_of text (Orbit r z n) is = tt
asked_of text Fresh is = absurd is
asked_of text Count is = absurd is

pub are_asked : (texts : List (List ℕ)) (queries : List Query) → AreQuestions texts queries → AreAsked queries
are_asked [] [] are i query at = absurd (none-some query at)
are_asked [] (q ∷ queries) are i query at = absurd are
are_asked (text ∷ texts) [] are i query at = absurd are
are_asked (text ∷ texts) (q ∷ queries) are zero query at = subst IsAsked (same_Some q query at) (asked_of text q are.0)
are_asked (text ∷ texts) (q ∷ queries) are (suc i) query at = are_asked texts queries are.1 i query at

module _ (c : CertView) where
  replies_more : (queries : List Query) (said : List Said) (query : Query) (new : Said) → AreReplies c queries said → Replies c query new
      → AreReplies c (queries ++ query ∷ []) (said ++ new ∷ [])
  replies_more [] [] query new all more = (more, tt)
  replies_more [] (s ∷ said) query new all more = absurd all
  replies_more (q ∷ queries) [] query new all more = absurd all
  replies_more (q ∷ queries) (s ∷ said) query new all more = (all.0, replies_more queries said query new all.1 more)

  pub replies_none : (text : List ℕ) → text ≡ [] → IsReplyText c [] text
  replies_none text e = record { said = []; replies = tt; is = e }

  pub one_reply_more : (queries : List Query) (query : Query) (before after : List ℕ) → IsReplyText c queries before → AddsReply c query before after
      → IsReplyText c (queries ++ query ∷ []) after
  one_reply_more queries query before after text adds = record {
    said = text.said ++ adds.0 ∷ [];
    replies = replies_more queries text.said query adds.0 text.replies adds.1;
    is = adds.2 ∙ ap (λ (t : List ℕ). t ++ said_text adds.0) text.is
        ∙ ap (λ (t : List ℕ). flat_map said_text text.said ++ t) (sym (append-nil (said_text adds.0)))
        ∙ sym (flat_map-append said_text text.said (adds.0 ∷ []));
  }

  -- where it succeeds, a text with one reply more
  pub adds_said : {A E : Type 0} (query : Query) (new : Said) (before after : List ℕ) (r : Result A E) → Replies c query new → OnOk r (after ≡ before ++ said_text new)
      → OnOk r (AddsReply c query before after)
  adds_said query new before after (Ok a) is e = (new, is, e)
  adds_said query new before after (Err e) is f = tt

  module _ (v : Snapshot) (built : IsBuilt c v) where
    -- by the leaf of the version that holds the point
    pub answer_by_leaf : (r : Place) (path : List Side) (reply : Reply) → HoldsAt v.region (tree_of v) r path → reply ≡ reply_by (outcome_at c.events path)
        → Answers (region_of c.vertices) (outcome_at c.events) r reply
    answer_by_leaf r path reply holds is =
        let there : HoldsAt (region_of c.vertices) (tree_of v) r path = subst (λ (R : Area). HoldsAt R (tree_of v) r path) built.region holds in
        inr (record { path = path; holds = built_holds (tree_of v) (outcome_at c.events) built.entries (region_of c.vertices) r path there; is = is })

    pub answer_beyond : (r : Place) (reply : Reply) → (IsIn v.region r → ⊥) → reply ≡ Beyond → Answers (region_of c.vertices) (outcome_at c.events) r reply
    answer_beyond r reply out is = inl (subst (λ (R : Area). IsIn R r → ⊥) built.region out, is)

    pub met_by_events : (Q : Area) (m : Met) → IsMet v.region (tree_of v) Q m → IsMet (region_of c.vertices) (outcome_at c.events) Q m
    met_by_events Q m met =
        built_met (tree_of v) (outcome_at c.events) built.entries (region_of c.vertices) Q m (subst (λ (R : Area). IsMet R (tree_of v) Q m) built.region met)
