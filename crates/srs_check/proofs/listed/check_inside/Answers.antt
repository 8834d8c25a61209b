use Rattle.std.proofs.Common.{arith}
use Rattle.std.proofs.lemmas.Result.{err_from_is_err_and}
use Rattle.srs_check.proofs.Entries.{closed_more, first_open, all_closed}
use Rattle.srs_check.proofs.listed.check_inside.Goals as goal

pub returns-in_err-check_entry-clause-err : goal.returns-in_err-check_entry-clause-err
returns-in_err-check_entry-clause-err c =
    let p = err_from_is_err_and c.from_residual-in_err-check_entry.result c.from_residual-in_err-check_entry.ensures.1 in
    rw (p.1, p.2) (first_open c.args.cell.now c.args.ranks.now c.loop-i.i c.in_err-check_entry.field-0.0 (omega arith) c.in_ok-check_units.ensures.ok c.loop-i.invariant c.in_err-check_entry.ensures.err)

pub loop-i-preserved : goal.loop-i-preserved
loop-i-preserved c = closed_more c.args.cell.now c.args.ranks.now c.loop-i.i c.loop-i.invariant c.in_ok-check_entry.ensures.ok

pub returns-clause-ok : goal.returns-clause-ok
returns-clause-ok c = all_closed c.args.cell.now c.args.ranks.now c.loop-i.i (omega arith) c.in_ok-check_units.ensures.ok c.loop-i.invariant
