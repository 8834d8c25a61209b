-- The cell comes last, with its entry; or both stay away.
use Rattle.std.proofs.Common.{◌≡◌, ◌∙◌, sym, ap, subst, List, [], ◌∷◌, ◌++◌, true, false}
use Rattle.std.specs.Prelude.{nat_eq, is_err}
use Rattle.std.specs.HashMap.{IsUnchanged, Updates}
use Rattle.std.specs.declared.option.Option.TheVariants.{Some}
use Rattle.srs_front.specs.Walks.{HasSlot}
use Rattle.srs_tree.specs.Queue.{WaitingCell}
use Rattle.srs_atlas.specs.Frontiers.{LacksPath, number_at}
use Rattle.srs_atlas.proofs.FrontierLemmas.{Cells, has_pushed}
use Rattle.srs_atlas.proofs.FrontierSteps.{pushed, undone, on_ok, on_err}
use Rattle.srs_atlas.proofs.frontier.Frontier.push_uncounted.Goals as goal

pub unlink-requires : goal.unlink-requires
unlink-requires g c =
    let f = c.self.inside in
    let made : c.push_back.new.self ≡ f.cells ++ (c.in-Ok.slot, c.args.cell) ∷ [] = cc (c.in-Ok.ensures.last) in
    subst (λ (xs : Cells). HasSlot xs c.in-Ok.slot) (sym made) (has_pushed f.cells c.in-Ok.slot c.args.cell)

pub invariant_of-self-then-is_err : goal.invariant_of-self-then-is_err
invariant_of-self-then-is_err g c =
    let f = c.self.inside in
    let made : c.push_back.new.self ≡ f.cells ++ (c.in-Ok.slot, c.args.cell) ∷ [] = cc (c.in-Ok.ensures.last) in
    let failed : is_err c.insert.result ≡ true = cc in
    (undone f.slots c.insert.new.self f.cells c.self.invariant c.push_back.new.self c.unlink.new.self c.in-Ok.slot c.args.cell c.in-Ok.ensures.other made c.unlink.ensures.others
    (on_err c.insert.result (IsUnchanged f.slots c.insert.new.self) c.insert.ensures.err failed)).0

pub returns-then-is_err-clause-err : goal.returns-then-is_err-clause-err
returns-then-is_err-clause-err g c =
    let f = c.self.inside in
    let made : c.push_back.new.self ≡ f.cells ++ (c.in-Ok.slot, c.args.cell) ∷ [] = cc (c.in-Ok.ensures.last) in
    let failed : is_err c.insert.result ≡ true = cc in
    (undone f.slots c.insert.new.self f.cells c.self.invariant c.push_back.new.self c.unlink.new.self c.in-Ok.slot c.args.cell c.in-Ok.ensures.other made c.unlink.ensures.others
    (on_err c.insert.result (IsUnchanged f.slots c.insert.new.self) c.insert.ensures.err failed)).1 ∙ c.self.view_is

pub invariant_of-self-else-is_err : goal.invariant_of-self-else-is_err
invariant_of-self-else-is_err g c =
    let f = c.self.inside in
    let made : c.push_back.new.self ≡ f.cells ++ (c.in-Ok.slot, c.args.cell) ∷ [] = cc (c.in-Ok.ensures.last) in
    let went : is_err c.insert.result ≡ false = cc in
    let lacks = subst (λ (cs : List WaitingCell). LacksPath c.args.cell.path cs) (sym c.self.view_is) c.requires.other in
    (pushed f.slots c.insert.new.self f.cells c.self.invariant c.push_back.new.self c.in-Ok.slot c.number-number.result c.args.cell lacks
    (c.number-number.ensures ∙ ap (λ (w : WaitingCell). number_at w.path) c.cell.view_is) made
    (on_ok c.insert.result (Updates nat_eq f.slots c.insert.new.self c.number-number.result (Some c.in-Ok.slot)) c.insert.ensures.updates went)).0
