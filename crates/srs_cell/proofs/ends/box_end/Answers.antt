use Rattle.std.proofs.Common.{◌≡◌, [], ◌∷◌, pos, ◌≤ℤ◌, List, subst}
use Rattle.std.proofs.lemmas.List.Elements.{All-nil}
use Rattle.srs_num.specs.Points.{LinearForm}
use Rattle.srs_num.specs.Lines.{meet}
use Rattle.srs_cell.specs.Corners.{box}
use Rattle.srs_cell.specs.Cutting.{IsFirstEnd}
use Rattle.srs_cell.proofs.ends.box_end.Goals as goal

pub returns : goal.returns
returns c =
    let g = c.args.line.now in
    let P : List LinearForm → Type 0 = λ hs. IsFirstEnd g hs c.nearer.result in
    let right = c.side.result in
    let top = c.side-2.result in
    let left = c.side-3.result in
    let bottom = c.side-4.result in
    let first = c.nearer-right.ensures [] (All-nil (λ h. (meet h g).d ≤ℤ pos 0)) in
    let second = c.nearer-top.ensures (right ∷ []) first in
    let third = c.nearer-left.ensures (right ∷ top ∷ []) second in
    let last = c.nearer.ensures (right ∷ top ∷ left ∷ []) third in
    let e : right ∷ top ∷ left ∷ bottom ∷ [] ≡ box = cc in
    subst P e last
