use Rattle.std.proofs.Common.{pos, negsuc}
use Rattle.std.proofs.lemmas.Result.{err_from_is_err_and}
use Rattle.srs_map.specs.Step.{pair}
use Rattle.std.proofs.lemmas.Result.{on_ok_weaker}
use Rattle.srs_check.proofs.Answering.{if_err}
use Rattle.srs_check.proofs.Entries.{first_left, first_down, first_up, first_right, all_units}
use Rattle.srs_check.proofs.listed.check_units.Goals as goal

pub returns-in_err-check_unit-clause-err : goal.returns-in_err-check_unit-clause-err
returns-in_err-check_unit-clause-err c =
    let p = err_from_is_err_and c.from_residual.result c.from_residual.ensures.1 in
    rw (p.1, p.2) (pair (negsuc 0) (pos 0), c.in_err-check_unit.ensures.err.0, first_left c.args.ranks.now c.in_err-check_unit.ensures.err.1)

pub returns-in_err-check_unit-2-clause-err : goal.returns-in_err-check_unit-2-clause-err
returns-in_err-check_unit-2-clause-err c =
    let p = err_from_is_err_and c.from_residual-in_err-check_unit-2.result c.from_residual-in_err-check_unit-2.ensures.1 in
    rw (p.1, p.2) (pair (pos 0) (negsuc 0), c.in_err-check_unit-2.ensures.err.0, first_down c.args.ranks.now c.in_ok-check_unit.ensures.ok c.in_err-check_unit-2.ensures.err.1)

pub returns-in_err-check_unit-3-clause-err : goal.returns-in_err-check_unit-3-clause-err
returns-in_err-check_unit-3-clause-err c =
    let p = err_from_is_err_and c.from_residual-in_err-check_unit-3.result c.from_residual-in_err-check_unit-3.ensures.1 in
    rw (p.1, p.2) (pair (pos 0) (pos 1), c.in_err-check_unit-3.ensures.err.0, first_up c.args.ranks.now c.in_ok-check_unit.ensures.ok c.in_ok-check_unit-2.ensures.ok c.in_err-check_unit-3.ensures.err.1)

pub returns-clause-ok : goal.returns-clause-ok
returns-clause-ok c =
    on_ok_weaker c.check_unit-4.result (λ h. all_units c.args.ranks.now c.in_ok-check_unit.ensures.ok c.in_ok-check_unit-2.ensures.ok c.in_ok-check_unit-3.ensures.ok h) c.check_unit-4.ensures.ok

pub returns-clause-err : goal.returns-clause-err
returns-clause-err c =
    if_err c.check_unit-4.result
    (λ fault h. (pair (pos 1) (pos 0), h.0, first_right c.args.ranks.now c.in_ok-check_unit.ensures.ok c.in_ok-check_unit-2.ensures.ok c.in_ok-check_unit-3.ensures.ok h.1)) c.check_unit-4.ensures.err
