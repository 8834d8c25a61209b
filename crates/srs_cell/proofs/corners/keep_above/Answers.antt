use Rattle.std.proofs.Common.{◌≡◌, ◌+◌, ◌<◌, ◌^◌, length, take, [], ◌∷◌, ◌++◌, ap, sym, ◌∙◌, pos, ◌<ℤ◌, ◌≤ℤ◌, arith}
use Rattle.std.proofs.lemmas.Int.{ints}
use Rattle.std.proofs.lemmas.List.{take_more}
use Rattle.std.proofs.lemmas.List.Elements.{All-contains}
use Rattle.srs_num.specs.Points.{IsPointWithin}
use Rattle.srs_cell.proofs.Keeping.{kept_push, kept_skip}
use Rattle.srs_cell.proofs.Signs.{at_least_by, below_by}
use Rattle.srs_cell.proofs.corners.keep_above.Goals as goal
use Rattle.srs_cell.proofs.corners.keep_above.Goals.{then-value_of-ge0+in_ok-add_corner, else-value_of-ge0}

pub value_of-requires : goal.value_of-requires
value_of-requires c = λ short.
    All-contains (IsPointWithin (2 ^ 38)) c.args.corners.now c.corner-item.result (c.requires.short short) (c.loop-corner.corner-index, c.loop-corner-test.true, sym c.corner-item.is)

pub loop-corner-preserved : goal.loop-corner-preserved
loop-corner-preserved c =
    let i = c.loop-corner.corner-index in
    let cs = c.args.corners.now in
    let g = c.args.line.now in
    let x = c.corner-item.result in
    let within : i < length cs = omega arith in
    let e : take (i + 1) cs ≡ take i cs ++ x ∷ [] = take_more cs i x within ∙ ap (λ x. take i cs ++ x ∷ []) (sym c.corner-item.is) in
    rw e (elim c.if-value_of-ge0.branch [
      | then-value_of-ge0+in_ok-add_corner w ↦
          let up : pos 0 ≤ℤ c.value_of.result = omega (arith, ints) in
          rw (w.kept-is, w.in_ok-add_corner.ensures) (kept_push g (take i cs) c.loop-corner.kept.items x (at_least_by c.value_of.result _ c.value_of.ensures up) c.loop-corner.invariant)
      | else-value_of-ge0 w ↦
          let low : c.value_of.result <ℤ pos 0 = omega (arith, ints) in
          rw w.kept-is (kept_skip g (take i cs) c.loop-corner.kept.items x (below_by c.value_of.result _ c.value_of.ensures low) c.loop-corner.invariant)
    ])
