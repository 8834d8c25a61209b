use Rattle.std.proofs.Common.{◌++◌, Ok, ap, subst, ◌∙◌, arith}
use Rattle.std.proofs.lemmas.Result.{err_from_is_err_and}
use Rattle.std.specs.declared.result.Result.{Result}
use Rattle.srs_text.specs.declared.transfer.ReadErr.{ReadErr}
use Rattle.srs_text.specs.declared.feeds.Fed.{Fed}
use Rattle.srs_text.specs.Feeds.{FeedsOn}
use Rattle.srs_line.specs.Machine.{lines_text}
use Rattle.srs_check.proofs.Streaming.{fed_nothing, feeds_on, fed_line, less_left, fed_all, fed_more, checks_all, stops_reading, stops_at_end}
use Rattle.srs_check.proofs.stream.check_from.Goals as goal

pub loop-check-init : goal.loop-check-init
loop-check-init g c = record { fed = fed_nothing (g.S.Source.left c.args.source.now) c.args.limit c.in_ok-feed.feed c.in_ok-check.check c.in_ok-feed.ensures c.in_ok-check.ensures; later = omega arith }

pub loop-check-preserved : goal.loop-check-preserved
loop-check-preserved g c =
    let s = c.loop-check.invariant.fed in
    let left = g.S.Source.left in
    let on = feeds_on (left c.loop-check.source) (left c.next.new.source) c.loop-check.feed c.next.follows.lender-at-none c.next.result s.works c.next.follows.holds-at-none in
    let f = subst (λ (r : Result Fed ReadErr). FeedsOn c.loop-check.feed (left c.loop-check.source) (left c.next.new.source) r c.next.follows.lender-at-none) (c.in_ok-line.was ∙ ap (λ x. Ok x) c.in-Line.is) on in
    record {
      fed = fed_line (left c.args.source.now) (left c.loop-check.source) (left c.next.new.source) c.args.limit c.loop-check.feed c.loop-check.check s c.next.follows.lender-at-none f.0 c.in-Line.line.now c.line.new.self f.1 f.2 f.3
          (c.in_ok-line-in-Line.ensures s.lines s.checked);
      later = omega (arith, c.loop-check.invariant.later, c.next.ensures.later);
    }

pub loop-check-smaller : goal.loop-check-smaller
loop-check-smaller g c =
    let s = c.loop-check.invariant.fed in
    let left = g.S.Source.left in
    let on = feeds_on (left c.loop-check.source) (left c.next.new.source) c.loop-check.feed c.next.follows.lender-at-none c.next.result s.works c.next.follows.holds-at-none in
    let f = subst (λ (r : Result Fed ReadErr). FeedsOn c.loop-check.feed (left c.loop-check.source) (left c.next.new.source) r c.next.follows.lender-at-none) (c.in_ok-line.was ∙ ap (λ x. Ok x) c.in-Line.is) on in
    less_left (left c.args.source.now) (left c.loop-check.source) (left c.next.new.source) c.args.limit c.loop-check.feed c.loop-check.check s c.next.follows.lender-at-none f.0 c.in-Line.line.now f.2 f.3

pub returns-in_err-line-clause-stopped : goal.returns-in_err-line-clause-stopped
returns-in_err-line-clause-stopped g c =
    let left = g.S.Source.left in
    let faults = g.S.Source.faults in
    let p = err_from_is_err_and c.from_residual-in_err-line.result c.from_residual-in_err-line.ensures.1 in
    rw p.1 (stops_reading (left c.args.source.now) (left c.loop-check.source) (left c.next.new.source) c.args.limit (faults c.args.source.now) (faults c.loop-check.source) (faults c.next.new.source)
    c.loop-check.feed c.loop-check.check c.loop-check.invariant.fed c.loop-check.invariant.later c.next.result c.next.ensures.long c.next.ensures.fault c.next.ensures.cut c.next.ensures.want
    c.in_err-line.field-0.0 p.0 c.in_err-line.was p.2)

pub returns-in_err-line-in-Line-clause-stopped : goal.returns-in_err-line-in-Line-clause-stopped
returns-in_err-line-in-Line-clause-stopped g c =
    let s = c.loop-check.invariant.fed in
    let left = g.S.Source.left in
    let on = feeds_on (left c.loop-check.source) (left c.next.new.source) c.loop-check.feed c.next.follows.lender-at-none c.next.result s.works c.next.follows.holds-at-none in
    let f = subst (λ (r : Result Fed ReadErr). FeedsOn c.loop-check.feed (left c.loop-check.source) (left c.next.new.source) r c.next.follows.lender-at-none) (c.in_ok-line.was ∙ ap (λ x. Ok x) c.in-Line.is) on in
    let p = err_from_is_err_and c.from_residual-in_err-line-in-Line.result c.from_residual-in_err-line-in-Line.ensures.1 in
    rw (p.1, p.2) (fed_more (left c.args.source.now) (left c.loop-check.source) (left c.next.new.source) c.args.limit c.loop-check.feed c.loop-check.check s c.next.follows.lender-at-none f.0 f.1 f.2)

pub returns-in_err-end-in-End-clause-stopped : goal.returns-in_err-end-in-End-clause-stopped
returns-in_err-end-in-End-clause-stopped g c =
    let s = c.loop-check.invariant.fed in
    let left = g.S.Source.left in
    let faults = g.S.Source.faults in
    let on = feeds_on (left c.loop-check.source) (left c.next.new.source) c.loop-check.feed c.next.follows.lender-at-none c.next.result s.works c.next.follows.holds-at-none in
    let f = subst (λ (r : Result Fed ReadErr). FeedsOn c.loop-check.feed (left c.loop-check.source) (left c.next.new.source) r c.next.follows.lender-at-none) (c.in_ok-line.was ∙ ap (λ x. Ok x) c.in-End.is) on in
    let text = lines_text s.lines ++ c.in-End.rest.now in
    let all = fed_all (left c.args.source.now) (left c.loop-check.source) (left c.next.new.source) c.args.limit c.loop-check.feed c.loop-check.check s c.next.follows.lender-at-none f.0 c.in-End.rest.now f.1 f.2 f.3.0 f.3.3 in
    let took = fed_more (left c.args.source.now) (left c.loop-check.source) (left c.next.new.source) c.args.limit c.loop-check.feed c.loop-check.check s c.next.follows.lender-at-none f.0 f.1 f.2 in
    let p = err_from_is_err_and c.from_residual-in_err-end-in-End.result c.from_residual-in_err-end-in-End.ensures.1 in
    rw p.1 (stops_at_end (left c.args.source.now) (left c.next.new.source) (faults c.args.source.now) (faults c.next.new.source) c.args.limit text c.in_err-end-in-End.field-0.0 p.0 all took
    (c.in_err-end-in-End.ensures.refused s.lines s.checked) p.2)

pub returns-in-End-clause-answered : goal.returns-in-End-clause-answered
returns-in-End-clause-answered g c =
    let s = c.loop-check.invariant.fed in
    let left = g.S.Source.left in
    let on = feeds_on (left c.loop-check.source) (left c.next.new.source) c.loop-check.feed c.next.follows.lender-at-none c.next.result s.works c.next.follows.holds-at-none in
    let f = subst (λ (r : Result Fed ReadErr). FeedsOn c.loop-check.feed (left c.loop-check.source) (left c.next.new.source) r c.next.follows.lender-at-none) (c.in_ok-line.was ∙ ap (λ x. Ok x) c.in-End.is) on in
    let text = lines_text s.lines ++ c.in-End.rest.now in
    let all = fed_all (left c.args.source.now) (left c.loop-check.source) (left c.next.new.source) c.args.limit c.loop-check.feed c.loop-check.check s c.next.follows.lender-at-none f.0 c.in-End.rest.now f.1 f.2 f.3.0 f.3.3 in
    checks_all (left c.args.source.now) (left c.next.new.source) c.args.limit text c.in_ok-end-in-End.field-0 all (c.in_ok-end-in-End.ensures.accepted s.lines s.checked)
