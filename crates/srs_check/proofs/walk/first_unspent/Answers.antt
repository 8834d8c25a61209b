use Rattle.std.proofs.Common.{◌+◌, ◌<◌, get_or, refl, sym, subst, arith, true≢false}
use Rattle.srs_check.specs.Walks.{IsFirstUnspent}
use Rattle.srs_check.proofs.Walking.{found_more, same_more}
use Rattle.srs_check.proofs.walk.first_unspent.Goals as goal
use Rattle.srs_check.proofs.walk.first_unspent.Goals.{then-line-ne0+then-not-spends_cells, else-line-ne0, else-line-ne0-via-then-line-ne0+else-not-spends_cells, else-line-ne0-via-else-line-ne0}

pub loop-depth-preserved : goal.loop-depth-preserved
loop-depth-preserved c = λ H rows.
    let old = c.loop-depth.invariant H rows in
    elim c.if-line-ne0.branch [
      | then-line-ne0+then-not-spends_cells w ↦
          let some : 0 < get_or c.args.left.now c.loop-depth.depth 0 = omega (arith, w.if-line-ne0.true) in
          subst (IsFirstUnspent c.args.limits.now H c.args.left.now (c.loop-depth.depth + 1)) (sym w.first-is)
          (found_more c.args.limits.now H c.args.left.now c.loop-depth.depth c.loop-depth.first w.sooner.result old some (λ s. true≢false (sym ((w.if-not-spends_cells.ensures H rows).1 s))) w.sooner.ensures)
      | else-line-ne0 w ↦
          subst (IsFirstUnspent c.args.limits.now H c.args.left.now (c.loop-depth.depth + 1)) (sym w.first-is)
          (same_more c.args.limits.now H c.args.left.now c.loop-depth.depth c.loop-depth.first old (λ some. elim w.else-line-ne0.branch [
            | else-line-ne0-via-then-line-ne0+else-not-spends_cells v ↦ (v.if-not-spends_cells.ensures H rows).0 refl
            | else-line-ne0-via-else-line-ne0 v ↦ absurd (omega (arith, some, v.if-line-ne0.false))
          ]))
    ]
