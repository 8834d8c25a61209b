use Rattle.std.proofs.Common.{FitsSigned, w64}
use Rattle.std.proofs.lemmas.Int.{to_z-of_z}
use Rattle.std.proofs.lemmas.Bool.{false≢true}
use Rattle.srs_cell.proofs.Infima.{takes_whole, least_in_halves}
use Rattle.srs_cell.proofs.Reaching.{whole_value, whole_least, nowhere_taken}
use Rattle.srs_cell.proofs.cells.Cell.takes.Goals as goal

pub returns-in_default : goal.returns-in_default
returns-in_default c =
    let fits : FitsSigned w64 c.args.least = c.ranges.least in
    let cell = c.corners-corners.ensures in
    (λ t. absurd (false≢true t), λ t. absurd (nowhere_taken c.args.self.now _ cell.0 cell.1 c.args.form.now c.args.least (rw c.in_default.is at (simp to_z-of_z at c.first_taking.ensures)) t))

pub least_sum-sum-requires-clause-least : goal.least_sum-sum-requires-clause-least
least_sum-sum-requires-clause-least c =
    let fits : FitsSigned w64 c.args.least = c.ranges.least in
    let cell = c.corners-corners.ensures in
    let at_first = simp to_z-of_z at c.in-Some.ensures in
    whole_least c.args.self.now _ cell.0 cell.1 c.args.form.now c.args.least c.requires.least.bound _ at_first.0 at_first.1

pub returns : goal.returns
returns c =
    let fits : FitsSigned w64 c.args.least = c.ranges.least in
    let cell = c.corners-corners.ensures in
    let at_first = simp to_z-of_z at c.in-Some.ensures in
    let inside = rw c.region.ensures.value at c.is_inside.ensures in
    takes_whole c.args.self.now _ cell.0 cell.1 c.args.form.now _
    (whole_least c.args.self.now _ cell.0 cell.1 c.args.form.now c.args.least c.requires.least.bound _ at_first.0 at_first.1) _ c.least_sum-sum.ensures
    c.args.least c.is_inside.result
    (whole_value c.args.self.now _ cell.0 cell.1 c.args.form.now c.args.least c.requires.least.bound _ at_first.0 at_first.1) inside.0 inside.1

pub is_inside-requires : goal.is_inside-requires
is_inside-requires c =
    let cell = c.corners-corners.ensures in
    rw c.region.ensures.value (least_in_halves c.args.self.now _ cell.1.corners.hull.inside c.args.form.now c.in-Some.first _ c.least_sum-sum.ensures)
