-- What the sessions before were told, and this one. What a session's closure holds may cross threads, since what it shares may be
-- shared; the lemma knows of nothing else, so that the search stays short.
use Rattle.std.proofs.Common.{◌-◌, inl, inr, sym, ap, subst, take, arith}
use Rattle.std.proofs.Crossing.{crosses}
use contract.Lifetimes.{Lfts}
use denote.Param.Send.{IsSend, IsSync, sendable, param_send}
use Rattle.srs_turn.specs.Prefixes.{Begins}
use Rattle.srs_turn.proofs.PrefixLemmas.{begins_refl}
use Rattle.srs_session.specs.Playing.{IsPlayed}
use Rattle.srs_session.proofs.Crossing.{sessions}
use Rattle.srs_crew.specs.Telling.{IsToldIn, AreToldIn, IsOneMore}
use Rattle.srs_crew.proofs.Crossing.{held}
use Rattle.srs_crew.proofs.Working.{if_ok}
use Rattle.srs_crew.proofs.Telling.{told_one_more, told_wider, played_wider}
use Rattle.srs_crew.proofs.sessions.+crew_and_sessions+fn-crew_and_sessions-join+arg2.Given as given
use Rattle.srs_crew.proofs.sessions.+crew_and_sessions+fn-crew_and_sessions-join+arg2.Lts-crew_and_sessions as lts
use Rattle.srs_crew.proofs.sessions.+crew_and_sessions+fn-crew_and_sessions-join+arg2.Goals as goal

pub returns-in_default-clause-told : goal.returns-in_default-clause-told
returns-in_default-clause-told g t c =
    let Root = c.args.atlas.now.fixed.root in
    let before = c.args.pass.seen in
    let after = c.crew_and_sessions-pass.result.0.seen in
    let k = c.args.shift.now.round in
    let script = c.args.script.now in
    let session = c.get-session.result.now in
    if_ok (IsOneMore c.crew_and_sessions-pass.result.1 _) (AreToldIn Root before after k (take c.args.n script)) c.with_one.result
    (λ all more. told_one_more Root before after k script c.args.n session c.crew_and_sessions-pass.result.1 _ all (omega (arith, c.if-n-eq0.false)) c.get-session.ensures more c.crew_and_sessions-pass.ensures.told
    (inl (c.in_default.ensures.none, c.new-in_default.ensures)))
    c.with_one.ensures

pub returns-clause-told : goal.returns-clause-told
returns-clause-told g t c =
    let Root = c.args.atlas.now.fixed.root in
    let before = c.args.pass.seen in
    let after = c.join_pass.new.pass.seen in
    let k = c.args.shift.now.round in
    let script = c.args.script.now in
    let session = c.get-session.result.now in
    let told = c.join-first.result.0.1 in
    let one = c.join-first.result.1.1 in
    let end = c.join-first.result.0.0.seen in
    let end_one = c.join-first.result.1.0.seen in
    let start = c.split_pass-other.new.pass.seen in
    let start_one = c.split_pass-other.result.seen in
    let a : Begins before start = subst (Begins before) (sym (ap (λ p. p.seen) c.split_pass-other.ensures.kept)) (begins_refl before) in
    let b : Begins before start_one = subst (Begins before) (sym (ap (λ p. p.seen) c.split_pass-other.ensures.new)) (begins_refl before) in
    if_ok (IsOneMore told one) (AreToldIn Root before after k (take c.args.n script)) c.with_one-2.result
    (λ all more. told_one_more Root before after k script c.args.n session told one all (omega (arith, c.if-n-eq0.false)) c.get-session.ensures more
    (if_ok (AreToldIn Root start end k (take (c.args.n - 1) script)) (AreToldIn Root before after k (take (c.args.n - 1) script)) told
    (λ list. told_wider Root before start end after k (take (c.args.n - 1) script) list a c.join-first.ensures.first.1.0 c.join_pass.ensures.both.0) c.join-first.ensures.first.1.1)
    (if_ok (IsPlayed Root start_one end_one c.in-Some.segment.now) (IsToldIn Root before after k session) one
    (λ list played. inr (
      c.in-Some.segment.now,
      c.in-Some.ensures.some.0,
      c.in-Some.ensures.some.1,
      played_wider Root before start_one end_one after c.in-Some.segment.now list b c.join-first.ensures.second.1.0 c.join_pass.ensures.both.1 played,
    ))
    c.join-first.ensures.second.1.1))
    c.with_one-2.ensures

session_send : (g : given.Over) (κs : Lfts 15) → IsSync g.row.R → IsSync g.row.G → IsSend (lts.arg-9-1 g.row.R g.row.G g.R.laws g.G.laws g.R.Threads-dict g.R.Wait-dict g.G.Gate-dict κs)
session_send g κs r s = search (sendable, crosses, held, sessions) depth 60

pub join-first-requires-send-F : goal.join-first-requires-send-F
join-first-requires-send-F g t c κs within = param_send 1 _ (session_send g κs (search sendable) (search sendable))

pub join-first-requires-send-A : goal.join-first-requires-send-A
join-first-requires-send-A g t c κs within = search (sendable, crosses, held, sessions) depth 20
