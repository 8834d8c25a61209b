-- The part within the root, and what is beyond.
use Rattle.std.proofs.Common.{◌≡◌, sym, ap, subst, ◌∙◌}
use Rattle.std.proofs.lemmas.Option.{same_Some}
use Rattle.srs_plane.specs.Regions.{Area, IsIn}
use Rattle.srs_tree.specs.Nodes.{Spot, root_of, spots_tree}
use Rattle.srs_tree.specs.Answers.{IsMarked, IsMet}
use Rattle.srs_tree.specs.Clips.{IsClip}
use Rattle.srs_tree.proofs.Regions.{root_of_first}
use Rattle.srs_tree.proofs.Meeting.{met_some, met_none, none_marked}
use Rattle.srs_tree.proofs.meetings.met_by.Goals as goal

pub returns-in-Some : goal.returns-in-Some
returns-in-Some c =
    let xs = c.args.nodes.now in
    let same : c.get.result.now ≡ c.requires.spots.first = same_Some _ _ (sym c.get.ensures.item ∙ c.requires.spots.is_first) in
    let root : c.region.result.now ≡ root_of xs
    = c.region.ensures ∙ ap (λ (z : Spot). z.region) same ∙ sym (root_of_first xs c.requires.spots.first c.requires.spots.is_first) in
    let clip : IsClip c.args.q.now (IsIn (root_of xs)) c.in_ok-clip.clip = subst (λ (R : Area). IsClip c.args.q.now (IsIn R) c.in_ok-clip.clip) root c.in_ok-clip.ensures.clip in
    subst (IsMet (root_of xs) (spots_tree xs) c.args.q.now) (sym c.with_beyond.ensures)
    (met_some (root_of xs) (spots_tree xs) c.args.q.now c.in_ok-clip.clip clip _ c.in_ok-met_below-in-Some.field-0 c.in-Some.is c.in_ok-met_below-in-Some.ensures)

pub returns : goal.returns
returns c =
    let xs = c.args.nodes.now in
    let same : c.get.result.now ≡ c.requires.spots.first = same_Some _ _ (sym c.get.ensures.item ∙ c.requires.spots.is_first) in
    let root : c.region.result.now ≡ root_of xs
    = c.region.ensures ∙ ap (λ (z : Spot). z.region) same ∙ sym (root_of_first xs c.requires.spots.first c.requires.spots.is_first) in
    let clip : IsClip c.args.q.now (IsIn (root_of xs)) c.in_ok-clip.clip = subst (λ (R : Area). IsClip c.args.q.now (IsIn R) c.in_ok-clip.clip) root c.in_ok-clip.ensures.clip in
    subst (IsMet (root_of xs) (spots_tree xs) c.args.q.now) (sym c.with_beyond-in-None.ensures)
    (met_none (root_of xs) (spots_tree xs) c.args.q.now c.in_ok-clip.clip clip c.none.result c.in-None.is (subst (IsMarked (λ A. ⊥)) (sym c.none.ensures) none_marked))
