use Rattle.std.proofs.Common.{ℕ}
use Rattle.std.proofs.lemmas.Result.{err_from_is_err_and}
use Rattle.srs_num.specs.declared.pairs.V2.{V2}
use Rattle.srs_check.specs.Listed.{IsClosedAt, IsFaultAt}
use Rattle.std.proofs.lemmas.Result.{on_ok_weaker}
use Rattle.srs_check.proofs.Answering.{if_err}
use Rattle.srs_check.proofs.Entries.{narrow_at, at_entry, fault_back}
use Rattle.srs_check.proofs.listed.check_entry.Goals as goal

pub check_ahead-requires : goal.check_ahead-requires
check_ahead-requires c = narrow_at c.args.ranks.now c.requires.list c.args.i c.entry-rank.result c.entry-rank.ensures

pub returns-in_err-check_ahead-clause-err : goal.returns-in_err-check_ahead-clause-err
returns-in_err-check_ahead-clause-err c =
    let p = err_from_is_err_and c.from_residual.result c.from_residual.ensures.1 in
    rw (p.1, p.2) (at_entry c.args.ranks.now (λ (e : V2 × ℕ). IsFaultAt c.args.cell.now c.args.ranks.now e c.in_err-check_ahead.field-0.0) c.args.i c.entry-rank.result c.entry-rank.ensures c.in_err-check_ahead.ensures.err)

pub check_back-requires : goal.check_back-requires
check_back-requires c = narrow_at c.args.ranks.now c.requires.list c.args.i c.entry-rank.result c.entry-rank.ensures

pub returns-clause-ok : goal.returns-clause-ok
returns-clause-ok c =
    on_ok_weaker c.check_back.result
    (λ back. at_entry c.args.ranks.now (IsClosedAt c.args.cell.now c.args.ranks.now) c.args.i c.entry-rank.result c.entry-rank.ensures (record { ahead = c.in_ok-check_ahead.ensures.ok; back = back }))
    c.check_back.ensures.ok

pub returns-clause-err : goal.returns-clause-err
returns-clause-err c =
    if_err c.check_back.result
    (λ fault first. at_entry c.args.ranks.now (λ (e : V2 × ℕ). IsFaultAt c.args.cell.now c.args.ranks.now e fault) c.args.i c.entry-rank.result c.entry-rank.ensures
    (fault_back c.args.cell.now c.args.ranks.now c.entry-rank.result c.in_ok-check_ahead.ensures.ok fault first))
    c.check_back.ensures.err
