use Rattle.std.proofs.Common.{◌≡◌, ◌∷◌, ◌++◌, List, subst}
use Rattle.srs_num.specs.Points.{LinearForm}
use Rattle.srs_cell.specs.Corners.{box}
use Rattle.srs_cell.specs.Cutting.{IsSection}
use Rattle.srs_cell.proofs.ends.Section.boxed.Goals as goal

pub returns-clause-section : goal.returns-clause-section
returns-clause-section c = λ hs i.
    let P : List LinearForm → Type 0 = λ ks. IsSection ks c.tightened.result in
    let bottom = c.side.result in
    let left = c.side-2.result in
    let top = c.side-3.result in
    let right = c.side-4.result in
    let first = c.tightened-bottom.ensures.section hs i in
    let second = c.tightened-left.ensures.section (bottom ∷ hs) first in
    let third = c.tightened-top.ensures.section (left ∷ bottom ∷ hs) second in
    let last = c.tightened.ensures.section (top ∷ left ∷ bottom ∷ hs) third in
    let e : right ∷ top ∷ left ∷ bottom ∷ hs ≡ box ++ hs = cc in
    subst P e last
