-- All cells are done, and what was told fits.
use Rattle.std.proofs.Common.{sym, ap}
use Rattle.srs_turn.proofs.PrefixLemmas.{begins_trans}
use Rattle.srs_atlas.specs.declared.book.Terms.{Terms}
use Rattle.srs_crew.proofs.Running.{ran}
use Rattle.srs_crew.proofs.Telling.{fits_all}
use Rattle.srs_crew.proofs.runs.run_levels.Goals as goal

pub returns : goal.returns
returns g c =
    let t = c.in_ok-atlas.atlas.fixed in
    let journal = c.finish-version.result.1 in
    let rounds = c.all_rounds.new.pass.seen in
    let last = c.transcripts.new.pass.seen in
    let done = c.in_ok-rounds.ensures.all in
    ran t c.args.limits (ap (λ (x : Terms). x.plan) c.in_ok-atlas.ensures.atlas) done.0 journal c.finish-version.result.0 c.args.script.now c.in_ok-transcripts.transcripts c.args.cell
    (fits_all t.root t.w journal c.finish-version.ensures.lawful.legal last c.args.script.now c.in_ok-transcripts.transcripts c.finish-version.ensures.seen c.in_ok-transcripts.ensures.told)
    (sym (ap (λ (x : Terms). x.root) c.in_ok-atlas.ensures.atlas)) done.2
    (begins_trans done.0 rounds journal done.1 (begins_trans rounds last journal c.transcripts.ensures.seen c.finish-version.ensures.seen)) c.finish-version.ensures.lawful c.finish-version.ensures.version
