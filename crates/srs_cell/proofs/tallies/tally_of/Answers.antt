use Rattle.std.proofs.Common.{◌≡◌, ◌+◌, ◌<◌, ◌^◌, length, take, [], ◌∷◌, ◌++◌, ap, sym, ◌∙◌, pos, ◌<ℤ◌, arith}
use Rattle.std.proofs.lemmas.Int.{ints}
use Rattle.std.proofs.lemmas.List.{take_more}
use Rattle.std.proofs.lemmas.List.Elements.{All-contains}
use Rattle.srs_num.specs.Points.{IsPointWithin}
use Rattle.srs_cell.proofs.Counting.{tally_none, tally_above, tally_on, tally_below, same_zero}
use Rattle.srs_cell.proofs.Signs.{above_by, below_by}
use Rattle.srs_cell.proofs.tallies.tally_of.Goals as goal
use Rattle.srs_cell.proofs.tallies.tally_of.Goals.{then-value-gt0, else-value-gt0+then-value-lt0, else-value-gt0+else-value-lt0}

pub value_of-value-requires : goal.value_of-value-requires
value_of-value-requires c = λ short.
    All-contains (IsPointWithin (2 ^ 38)) c.args.corners.now c.corner-item.result (c.requires.short short) (c.loop-corner.corner-index, c.loop-corner-test.true, sym c.corner-item.is)

pub loop-corner-init : goal.loop-corner-init
loop-corner-init c = tally_none c.args.line.now

pub loop-corner-preserved : goal.loop-corner-preserved
loop-corner-preserved c =
    let i = c.loop-corner.corner-index in
    let cs = c.args.corners.now in
    let g = c.args.line.now in
    let x = c.corner-item.result in
    let t = c.loop-corner.tally in
    let v = c.value_of-value.result in
    let within : i < length cs = omega arith in
    let e : take (i + 1) cs ≡ take i cs ++ x ∷ [] = take_more cs i x within ∙ ap (λ x. take i cs ++ x ∷ []) (sym c.corner-item.is) in
    rw e (elim c.if-value-gt0.branch [
      | then-value-gt0 w ↦
          let up : pos 0 <ℤ v = omega (arith, ints) in
          rw w.tally-is (tally_above g (take i cs) t x c.loop-corner.invariant (above_by v _ c.value_of-value.ensures up))
      | else-value-gt0+then-value-lt0 w ↦
          let low : v <ℤ pos 0 = omega (arith, ints) in
          rw w.tally-is (tally_below g (take i cs) t x c.loop-corner.invariant (below_by v _ c.value_of-value.ensures low))
      | else-value-gt0+else-value-lt0 w ↦
          let flat : v ≡ pos 0 = omega (arith, ints) in
          rw w.tally-is (tally_on g (take i cs) t x c.loop-corner.invariant (same_zero v _ c.value_of-value.ensures flat))
    ])
