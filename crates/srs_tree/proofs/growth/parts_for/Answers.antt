-- The cells are those that the outcome makes of the open cell, and so cells of the tree with the outcome.
use Rattle.std.proofs.Common.{◌≡◌, ◌∙◌, ap, ap₂, sym, subst, arith}
use Rattle.srs_plane.specs.Regions.{Area}
use Rattle.srs_path.specs.declared.outcomes.Outcome.{Outcome}
use Rattle.srs_tree.specs.Nodes.{Spot}
use Rattle.srs_tree.specs.Queue.{WaitingCell, cells_from}
use Rattle.srs_tree.specs.Ahead.{cells_made, AreMadeBy}
use Rattle.srs_tree.proofs.Entering.{is_spot, made_before}
use Rattle.srs_tree.proofs.growth.parts_for.Goals as goal
use Rattle.srs_tree.proofs.growth.parts_for.Goals.{in-Some, in-None+in_ok-parts-in-None}

pub returns : goal.returns
returns c =
    let f = c.args.f.now in
    let at = c.requires.there in
    let cell : Area → WaitingCell = λ R. record { path = c.args.path.now; region = R } in
    let made : cells_from c.match-ahead.parts ≡ cells_made (cell f.region) f.outcome = elim c.match-ahead.branch [
      | in-Some w ↦ ap cells_from w.parts-is ∙ subst (AreMadeBy (cell f.region) f.outcome) w.in-Some.is c.requires.ahead
      | in-None+in_ok-parts-in-None w ↦
          let same = ap (λ (x : Spot). x.region) (sym (is_spot c.args.nodes.now c.args.path.now f c.args.i c.requires.spots at w.get.result.now w.get.ensures.item)) ∙ at.region in
          ap cells_from w.parts-is ∙ w.in_ok-parts-in-None.ensures
          ∙ ap₂ (λ (R : Area) (o : Outcome). cells_made (cell R) o) (w.deref.ensures ∙ w.cell.ensures ∙ same) w.outcome.ensures.outcome
    ] in
    c.placed.ensures ∙ made
    ∙ made_before c.args.nodes.now c.args.path.now f c.args.i c.requires.spots at (omega (arith, c.len-place.ensures.most, c.len-place.ensures.len)) c.w.ensures.sound
