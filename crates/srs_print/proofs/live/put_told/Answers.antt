use Rattle.std.proofs.Common.{◌≡◌, ◌++◌, codes}
use Rattle.std.proofs.lemmas.Result.{err_from_is_err_and, on_err_weaker}
use Rattle.srs_cert.specs.Texts.{count_text, ended}
use Rattle.srs_cert.specs.Lives.{journal_text, sessions_text}
use Rattle.srs_print.proofs.FrontLemmas.{nothing, sooner, later, both}
use Rattle.srs_print.proofs.live.put_told.Goals as goal

pub returns-in_err-put_count-clause-err : goal.returns-in_err-put_count-clause-err
returns-in_err-put_count-clause-err c =
    let p = err_from_is_err_and c.from_residual.result c.from_residual.ensures.1 in
    let live = count_text (codes "live") 1 in
    let journal = journal_text c.args.journal.now in
    let told = sessions_text c.args.told.now in
    let new = c.put_count.new.out in
    rw p.1 (sooner c.args.out.now (live ++ journal ++ told) (ended (codes "end")) new
    (sooner c.args.out.now (live ++ journal) told new (sooner c.args.out.now live journal new c.in_err-put_count.ensures.err)))

pub returns-in_err-put_journal-clause-err : goal.returns-in_err-put_journal-clause-err
returns-in_err-put_journal-clause-err c =
    let p = err_from_is_err_and c.from_residual-in_err-put_journal.result c.from_residual-in_err-put_journal.ensures.1 in
    let live = count_text (codes "live") 1 in
    let journal = journal_text c.args.journal.now in
    let told = sessions_text c.args.told.now in
    let new = c.put_journal.new.out in
    rw p.1 (sooner c.args.out.now (live ++ journal ++ told) (ended (codes "end")) new
    (sooner c.args.out.now (live ++ journal) told new (later c.args.out.now c.put_count.new.out live journal new c.in_ok-put_count.ensures.ok c.in_err-put_journal.ensures.err)))

pub returns-in_err-put_sessions-clause-err : goal.returns-in_err-put_sessions-clause-err
returns-in_err-put_sessions-clause-err c =
    let p = err_from_is_err_and c.from_residual-in_err-put_sessions.result c.from_residual-in_err-put_sessions.ensures.1 in
    let live = count_text (codes "live") 1 in
    let journal = journal_text c.args.journal.now in
    let told = sessions_text c.args.told.now in
    let new = c.put_sessions.new.out in
    let front = both c.args.out.now c.put_count.new.out live journal c.put_journal.new.out c.in_ok-put_count.ensures.ok c.in_ok-put_journal.ensures.ok in
    rw p.1 (sooner c.args.out.now (live ++ journal ++ told) (ended (codes "end")) new (later c.args.out.now c.put_journal.new.out (live ++ journal) told new front c.in_err-put_sessions.ensures.err))

pub returns-clause-err : goal.returns-clause-err
returns-clause-err c =
    let live = count_text (codes "live") 1 in
    let journal = journal_text c.args.journal.now in
    let told = sessions_text c.args.told.now in
    let front = both c.args.out.now c.put_count.new.out live journal c.put_journal.new.out c.in_ok-put_count.ensures.ok c.in_ok-put_journal.ensures.ok in
    let all = both c.args.out.now c.put_journal.new.out (live ++ journal) told c.put_sessions.new.out front c.in_ok-put_sessions.ensures.ok in
    on_err_weaker c.extend.result (λ (e : c.extend.new.self ≡ c.put_sessions.new.out).
    later c.args.out.now c.put_sessions.new.out (live ++ journal ++ told) (ended (codes "end")) c.extend.new.self all
    (nothing c.put_sessions.new.out (ended (codes "end")) c.extend.new.self e)) c.extend.ensures.err
