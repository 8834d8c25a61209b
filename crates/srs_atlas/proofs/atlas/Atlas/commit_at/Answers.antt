-- What fits the plan at a beginning of what was seen is ready for each history that goes on from there.
use Rattle.std.proofs.Common.{List, ap, sym, subst}
use Rattle.srs_path.specs.declared.paths.Side.{Side}
use Rattle.srs_path.specs.Views.{Found}
use Rattle.srs_turn.specs.Passes.{TurnId}
use Rattle.srs_tree.specs.Queue.{WaitingCell}
use Rattle.srs_atlas.specs.declared.book.Terms.{Terms}
use Rattle.srs_atlas.specs.Commits.{IsPrepared}
use Rattle.srs_atlas.proofs.Entries.{prepared_later}
use Rattle.srs_atlas.proofs.atlas.Atlas.commit_at.Goals as goal

pub with_turn-requires-clause-ready : goal.with_turn-requires-clause-ready
with_turn-requires-clause-ready g c = λ list b.
    let parts = c.ahead_of-ahead.result.parts in
    subst (λ (path : List Side). IsPrepared c.self.inside.turn.fixed list path c.prepared.result parts) (sym (ap (λ (x : WaitingCell). x.path) c.cell.view_is))
    (subst (λ (f : Found). IsPrepared c.self.inside.turn.fixed list c.args.cell.now.path f parts) (sym c.prepared.ensures)
    (prepared_later c.args.self.now.fixed c.self.inside.turn.fixed _ list _ _ parts (ap (λ (t : TurnId Terms). t.fixed) c.self.view_is) b c.requires.w c.requires.short c.requires.planned c.ahead_of-ahead.ensures))
