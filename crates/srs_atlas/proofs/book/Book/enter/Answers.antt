-- The book with the event, or as it was, and what is answered.
use Rattle.std.proofs.Common.{◌≡◌, ◌++◌, ◌∙◌, sym, ap, subst, map, false, arith}
use Rattle.std.specs.Prelude.{is_err}
use Rattle.srs_path.specs.Views.{Found}
use Rattle.srs_tree.specs.Rounds.{parts_by}
use Rattle.srs_tree.specs.Snapshots.{with_entry}
use Rattle.srs_tree.specs.Growth.{MayEnter}
use Rattle.srs_tree.specs.Queue.{cell_in, cells_from}
use Rattle.srs_atlas.specs.declared.book.Terms.{Terms}
use Rattle.srs_atlas.specs.declared.commits.Commit.TheVariants.{Done as IsDone}
use Rattle.srs_atlas.specs.Books.{BookView, IsBook}
use Rattle.srs_atlas.specs.Commits.{IsReady, Commits}
use Rattle.srs_atlas.specs.Frontiers.{paths_from}
use Rattle.srs_atlas.proofs.Entries.{book_after, done, refused, same_terms}
use Rattle.srs_atlas.proofs.FrontierSteps.{on_ok}
use Rattle.srs_atlas.proofs.Parts.{lack, came, back, book_same}
use Rattle.srs_atlas.proofs.book.Book.enter.Goals as goal

pub push_parts-requires : goal.push_parts-requires
push_parts-requires c =
    let b = c.self.inside in
    lack _ _ b.tree b.frontier c.self.invariant c.args.path c.args.f c.in-Ok.ensures.may (cells_from c.in-Ok.prepared.parts) c.in-Ok.ensures.parts

pub enter_prepared-requires-clause-may : goal.enter_prepared-requires-clause-may
enter_prepared-requires-clause-may c = subst (MayEnter c.self.inside.tree.version c.args.path) (sym c.in-Ok.ensures.finding) c.in-Ok.ensures.may

pub enter_prepared-requires-clause-parts : goal.enter_prepared-requires-clause-parts
enter_prepared-requires-clause-parts c =
    c.in-Ok.ensures.parts
    ∙ ap (λ (f : Found). map (cell_in (with_entry c.self.inside.tree.version c.args.path f.outcome)) (parts_by c.args.path f.outcome)) (sym c.in-Ok.ensures.finding)

pub invariant_of-self-in-Ok-enter_prepared : goal.invariant_of-self-in-Ok-enter_prepared
invariant_of-self-in-Ok-enter_prepared c =
    let b = c.self.inside in
    let u = c.enter_prepared.new.self in
    let cells = cells_from c.in-Ok.prepared.parts in
    let ready = subst (λ (k : BookView). IsReady k.terms k.history c.args.path c.args.f) (sym c.self.view_is) c.requires.ready in
    let went : is_err c.push_parts.result ≡ false = cc in
    let push = on_ok c.push_parts.result (c.push_parts.new.self ≡ b.frontier ++ cells) c.push_parts.ensures.ok went in
    let is = c.in-Ok-enter_prepared.ensures.entered ∙ ap (λ (f : Found). with_entry b.tree.version c.args.path f.outcome) c.in-Ok.ensures.finding in
    (book_after _ _ b.tree c.args.path c.args.f b.frontier c.self.invariant c.in-Ok.ensures.may ready c.w.ensures.sound u c.remove.new.self
    c.reserve.new.self.items c.push_reserved.new.self.items c.in-Ok-enter_prepared.outcome.value _ is
    (came _ _ b.tree b.frontier c.self.invariant c.args.path c.args.f c.in-Ok.ensures.may cells c.in-Ok.ensures.parts u c.push_parts.new.self c.remove.new.self is push c.remove.ensures)
    c.reserve.ensures.items c.push_reserved.ensures.items (c.in-Ok-enter_prepared.ensures.outcome ∙ ap (λ (f : Found). f.outcome) c.in-Ok.ensures.finding)
    (same_terms u b.tree b.w b.plan c.args.path c.args.f.outcome is)).1

pub returns-in-Ok-enter_prepared-clause-did : goal.returns-in-Ok-enter_prepared-clause-did
returns-in-Ok-enter_prepared-clause-did c =
    let b = c.self.inside in
    let u = c.enter_prepared.new.self in
    let cells = cells_from c.in-Ok.prepared.parts in
    let ready = subst (λ (k : BookView). IsReady k.terms k.history c.args.path c.args.f) (sym c.self.view_is) c.requires.ready in
    let went : is_err c.push_parts.result ≡ false = cc in
    let push = on_ok c.push_parts.result (c.push_parts.new.self ≡ b.frontier ++ cells) c.push_parts.ensures.ok went in
    let is = c.in-Ok-enter_prepared.ensures.entered ∙ ap (λ (f : Found). with_entry b.tree.version c.args.path f.outcome) c.in-Ok.ensures.finding in
    let equal = same_terms u b.tree b.w b.plan c.args.path c.args.f.outcome is in
    let made = book_after _ _ b.tree c.args.path c.args.f b.frontier c.self.invariant c.in-Ok.ensures.may ready c.w.ensures.sound u c.remove.new.self
    c.reserve.new.self.items c.push_reserved.new.self.items c.in-Ok-enter_prepared.outcome.value _ is
    (came _ _ b.tree b.frontier c.self.invariant c.args.path c.args.f c.in-Ok.ensures.may cells c.in-Ok.ensures.parts u c.push_parts.new.self c.remove.new.self is push c.remove.ensures)
    c.reserve.ensures.items c.push_reserved.ensures.items (c.in-Ok-enter_prepared.ensures.outcome ∙ ap (λ (f : Found). f.outcome) c.in-Ok.ensures.finding) equal in
    subst (λ (k : BookView). Commits k.terms c.args.path c.args.f k.history (IsDone c.len.result) c.push_reserved.new.self.items) c.self.view_is
    (done _ _ b.tree c.args.path c.args.f b.frontier c.self.invariant c.in-Ok.ensures.may ready c.w.ensures.sound u c.remove.new.self c.push_reserved.new.self.items c.len.result made.0
    (omega (arith, c.push_reserved.new.self.ok.0)) (subst (λ (t : Terms). IsBook t c.push_reserved.new.self.items u c.remove.new.self) equal made.1))

pub invariant_of-self-in-Err-enter_prepared : goal.invariant_of-self-in-Err-enter_prepared
invariant_of-self-in-Err-enter_prepared c =
    let b = c.self.inside in
    let cells = cells_from c.in-Ok.prepared.parts in
    let went : is_err c.push_parts.result ≡ false = cc in
    let push = on_ok c.push_parts.result (c.push_parts.new.self ≡ b.frontier ++ cells) c.push_parts.ensures.ok went in
    book_same b.tree c.enter_prepared.new.self b.events.items c.reserve.new.self.items b.frontier c.remove_parts.new.self b.w b.plan c.self.invariant
    c.in-Err-enter_prepared.ensures.same c.reserve.ensures.items
    (back _ _ b.tree b.frontier c.self.invariant c.args.path c.args.f c.in-Ok.ensures.may cells c.in-Ok.ensures.parts c.push_parts.new.self c.remove_parts.new.self
    (paths_from c.paths_of-pushed.result) push c.paths_of-pushed.ensures c.remove_parts.ensures)

pub returns-in-Err-clause-did : goal.returns-in-Err-clause-did
returns-in-Err-clause-did c =
    let b = c.self.inside in
    subst (λ (k : BookView). Commits k.terms c.args.path c.args.f k.history c.refused.result c.reserve.new.self.items) c.self.view_is
    (refused _ _ b.tree c.args.path c.args.f b.frontier c.self.invariant c.in-Err.refusal c.refused.result c.reserve.new.self.items c.in-Err.ensures.refused c.refused.ensures c.reserve.ensures.items)
