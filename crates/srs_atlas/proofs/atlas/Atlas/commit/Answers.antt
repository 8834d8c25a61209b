-- What fits the plan at a beginning of what was seen is ready for each history that goes on from there.
use Rattle.std.proofs.Common.{ap, sym, subst, None}
use Rattle.srs_path.specs.Views.{Found}
use Rattle.srs_turn.specs.Passes.{TurnId}
use Rattle.srs_atlas.specs.declared.book.Terms.{Terms}
use Rattle.srs_atlas.specs.Commits.{IsPrepared}
use Rattle.srs_atlas.proofs.Entries.{prepared_later}
use Rattle.srs_atlas.proofs.atlas.Atlas.commit.Goals as goal

pub with_turn-requires-clause-ready : goal.with_turn-requires-clause-ready
with_turn-requires-clause-ready g c = λ list b.
    subst (λ (f : Found). IsPrepared c.self.inside.turn.fixed list c.args.path f None) (sym c.prepared.ensures)
    (prepared_later c.args.self.now.fixed c.self.inside.turn.fixed _ list _ _ None (ap (λ (t : TurnId Terms). t.fixed) c.self.view_is) b c.requires.w c.requires.short c.requires.planned tt)
