-- The cell of the round is there still, and so its event comes or stands.
use Rattle.std.proofs.Common.{◌∙◌, ap}
use Rattle.srs_tree.specs.Queue.{WaitingCell}
use Rattle.srs_crew.proofs.Working.{fits, outcome_same, by_done, not_there, not_other}
use Rattle.srs_crew.proofs.single.settle.Goals as goal

pub commit_at-requires-clause-planned : goal.commit_at-requires-clause-planned
commit_at-requires-clause-planned g c =
    fits c.args.atlas.now.fixed c.args.pass.now.seen c.args.last c.args.cell.now c.requires.work c.in_ok-found.found
    (outcome_same _ _ _ _ c.args.last c.in_ok-found.found.outcome (c.deref.ensures ∙ ap (λ (x : WaitingCell). x.region) c.cell.view_is) c.w.ensures.w c.in_ok-found.ensures.outcome)
    c.w.ensures.terms

pub returns-in-Done-clause-done : goal.returns-in-Done-clause-done
returns-in-Done-clause-done g c =
    by_done c.args.atlas.now.fixed c.in-Done.ensures.did.0 c.commit_at.new.pass.seen c.args.cell.now.path c.in_ok-found.found c.in-Done.field-0 c.in-Done.ensures.did.2

pub unreachable-requires : goal.unreachable-requires
unreachable-requires g c =
    not_there c.args.atlas.now.fixed c.args.pass.now.seen c.args.last c.args.cell.now c.requires.work c.in_ok-found.found c.in-NotThere.ensures.did.0 c.commit_at.new.pass.seen c.in-NotThere.ensures.did.1
    c.in-NotThere.field-0 c.in-NotThere.ensures.did.2

pub unreachable-requires-in-OtherCell : goal.unreachable-requires-in-OtherCell
unreachable-requires-in-OtherCell g c =
    not_other c.args.atlas.now.fixed c.args.pass.now.seen c.args.last c.args.cell.now c.requires.work c.in_ok-found.found c.in-OtherCell.ensures.did.0 c.commit_at.new.pass.seen c.in-OtherCell.ensures.did.1
    c.in-OtherCell.field-0 (c.in_ok-found.ensures.region ∙ c.deref.ensures ∙ ap (λ (x : WaitingCell). x.region) c.cell.view_is) c.in-OtherCell.ensures.lawful c.in-OtherCell.ensures.did.2
