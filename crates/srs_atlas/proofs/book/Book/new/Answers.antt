-- The root waits.
use Rattle.std.proofs.Common.{◌∙◌, ap, ap₂, List, [], ◌∷◌, ◌++◌}
use Rattle.srs_tree.specs.Snapshots.{Snapshot}
use Rattle.srs_tree.specs.Queue.{WaitingCell}
use Rattle.srs_atlas.proofs.Entries.{no_event}
use Rattle.srs_atlas.proofs.book.Book.new.Goals as goal

pub invariant_of-result : goal.invariant_of-result
invariant_of-result c =
    no_event (record { root = c.args.cell; w = c.args.w; plan = c.args.plan.now }) _ c.in_ok-tree.tree c.push.new.self c.new.result.items
    c.requires.terms c.in_ok-tree.ensures.version c.new.ensures.items
    (c.in_ok-push.ensures.ok ∙ ap₂ (λ (xs : List WaitingCell) (x : WaitingCell). xs ++ x ∷ []) c.new-frontier.ensures
    (c.in_ok-root.ensures ∙ ap (λ (v : Snapshot). let w : WaitingCell = record { path = []; region = v.region } in w) c.in_ok-tree.ensures.version))
    (λ i. record { root = ap (λ (v : Snapshot). v.region) c.in_ok-tree.ensures.version i; w = c.args.w; plan = c.args.plan.now })
