-- The first part goes again where the second finds no memory.
use Rattle.std.proofs.Common.{◌≡◌, ◌∙◌, sym, ap, subst, true, List}
use Rattle.std.specs.Prelude.{is_err}
use Rattle.std.specs.declared.option.Option.{Option}
use Rattle.srs_atlas.specs.Frontiers.{LackPaths, LacksPath}
use Rattle.srs_tree.specs.Queue.{WaitingCell, cells_from, without}
use Rattle.srs_atlas.proofs.FrontierLemmas.{without_last}
use Rattle.srs_atlas.proofs.FrontierSteps.{on_err}
use Rattle.srs_atlas.proofs.frontier.Frontier.push_parts.Goals as goal

pub returns-then-is_err-clause-err : goal.returns-then-is_err-clause-err
returns-then-is_err-clause-err c =
    let now = c.args.self.now in
    let first = c.in_ok-first.first in
    let failed : is_err c.push-2.result ≡ true = cc in
    let lacks = (subst (λ (p : Option (WaitingCell × WaitingCell)). LackPaths (cells_from p) now) c.in-Some.is c.requires).0 in
    c.remove.ensures ∙ ap (λ (w : WaitingCell). without w.path c.push-2.new.self) (c.ge.view_is ∙ sym c.in_ok-first.ensures)
    ∙ ap (without first.path) (on_err c.push-2.result (c.push-2.new.self ≡ c.push.new.self) c.push-2.ensures.err failed ∙ c.in_ok-push.ensures.ok)
    ∙ without_last now first (subst (λ (w : WaitingCell). LacksPath w.path now) (sym c.in_ok-first.ensures) lacks)
