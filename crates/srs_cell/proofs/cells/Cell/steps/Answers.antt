use Rattle.std.proofs.Common.{sym, ◌∙◌}
use Rattle.std.proofs.lemmas.Bool.{false≢true}
use Rattle.srs_cell.specs.Floors.{form_of}
use Rattle.srs_cell.proofs.LeastFloors.{moves_with, moves_without}
use Rattle.srs_cell.proofs.HeldFloors.{held_ends}
use Rattle.srs_cell.proofs.cells.Cell.steps.Goals as goal

pub returns-then-takes : goal.returns-then-takes
returns-then-takes c =
    let floors = c.floors-floors.ensures in
    let ends = held_ends c.args.self.now (form_of c.args.w) c.floors-floors.result floors in
    let means = rw (ends.low, c.opposite.ensures, c.step_form.ensures) at c.takes.ensures in
    rw (ends.high, ends.low) (moves_with c.args.self.now c.args.w c.requires floors.near _ _ floors.ahead floors.back (means.0 c.if-takes.true))

pub returns-else-takes : goal.returns-else-takes
returns-else-takes c =
    let floors = c.floors-floors.ensures in
    let ends = held_ends c.args.self.now (form_of c.args.w) c.floors-floors.result floors in
    let means = rw (ends.low, c.opposite.ensures, c.step_form.ensures) at c.takes.ensures in
    rw (ends.high, ends.next) (moves_without c.args.self.now c.args.w c.requires floors.near _ _ floors.ahead floors.back (λ t. false≢true (sym c.if-takes.false ∙ means.1 t)))
