use Rattle.std.proofs.Common.{◌≡◌, ◌≤◌, ◌+◌, ℕ, List, length, Some, slice_get, get_or, refl, ◌∙◌, arith}
use Rattle.std.proofs.lemmas.List.{take_all}
use Rattle.std.specs.List.{enumerate_from}
use Rattle.std.proofs.lemmas.Result.{err_from_is_err_and}
use Rattle.std.proofs.lemmas.Option.{slice_get-get_or, slice_get_within, get_or_from_slice_get}
use Rattle.std.proofs.lemmas.List.FromFn.{get_or-enumerate_from, length-enumerate_from}
use Rattle.srs_cert.specs.Lives.{session_text}
use Rattle.srs_print.proofs.FrontLemmas.{in_item, one_more}
use Rattle.srs_print.proofs.live.put_sessions.Goals as goal

-- session i, with its number
numbered : {X : Type 0} (xs : List X) (i : ℕ) (x : X) → slice_get xs i ≡ Some x → slice_get (enumerate_from 1 xs) i ≡ Some (i + 1, x)
numbered {X} xs i x at =
    let lt = slice_get_within xs i x at in
    let d : ℕ × X = (0, x) in
    let there = slice_get-get_or (enumerate_from 1 xs) i d (omega (arith, length-enumerate_from 1 xs, lt)) in
    let number : 1 + i ≡ i + 1 = omega arith in
    let entry : get_or (enumerate_from 1 xs) i d ≡ (i + 1, x) = get_or-enumerate_from 1 xs i d lt ∙ rw (number, get_or_from_slice_get xs i x x at) refl in
    rw entry at there

pub returns-in_err-put_session-clause-err : goal.returns-in_err-put_session-clause-err
returns-in_err-put_session-clause-err c =
    let p = err_from_is_err_and c.from_residual.result c.from_residual.ensures.1 in
    rw p.1 (in_item session_text (enumerate_from 1 c.args.told.now) c.loop-i.i (c.loop-i.i + 1, c.get.result.now) c.args.out.now c.loop-i.out c.put_session.new.out (numbered c.args.told.now c.loop-i.i c.get.result.now c.get.ensures) c.loop-i.invariant c.in_err-put_session.ensures.err)

pub loop-i-preserved : goal.loop-i-preserved
loop-i-preserved c =
    one_more session_text (enumerate_from 1 c.args.told.now) c.loop-i.i (c.loop-i.i + 1, c.get.result.now) c.args.out.now c.loop-i.out c.put_session.new.out (numbered c.args.told.now c.loop-i.i c.get.result.now c.get.ensures) c.loop-i.invariant c.in_ok-put_session.ensures.ok

pub returns-clause-ok : goal.returns-clause-ok
returns-clause-ok c =
    let told = c.args.told.now in
    let numbered = enumerate_from 1 told in
    let end : length numbered ≤ c.loop-i.i = omega (arith, length-enumerate_from 1 told) in
    rw (take_all c.loop-i.i numbered end) at c.loop-i.invariant
