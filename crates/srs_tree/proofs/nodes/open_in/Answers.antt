-- One spot more.
use Rattle.std.proofs.Common.{◌++◌, List, sym, ap, ◌∙◌, refl}
use Rattle.srs_tree.specs.Queue.{WaitingCell}
use Rattle.srs_tree.specs.Nodes.{if_open}
use Rattle.srs_tree.proofs.OpenCells.{open_next}
use Rattle.srs_tree.proofs.nodes.open_in.Goals as goal

pub loop-i-preserved : goal.loop-i-preserved
loop-i-preserved c =
    c.in_ok-list_open.ensures ∙ ap (λ (u : List WaitingCell). u ++ if_open c.get.result.now c.get.result.now.outcome) c.loop-i.invariant
    ∙ sym (open_next c.args.nodes.now c.loop-i.i c.get.result.now c.get.result.now.outcome c.get.ensures.item refl)
