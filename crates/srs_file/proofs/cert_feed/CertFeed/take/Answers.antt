use Rattle.std.proofs.Common.{◌≡◌, rules}
use Rattle.srs_file.specs.CertReading.{CertEnds}
use Rattle.srs_file.specs.Feeding.{CertFeedView, IsFed}
use Rattle.srs_file.proofs.FeedLaws.{good_line, line_refused, tail_refused}
use Rattle.srs_file.proofs.cert_feed.CertFeed.take.Goals as goal

pub returns-then-is_done-clause-refused : goal.returns-then-is_done-clause-refused
returns-then-is_done-clause-refused c lines s fed =
    let f = c.self.inside in
    let old : CertFeedView = record { reader = f.reader; count = f.count; failed = f.failed } in
    let was : IsFed old lines s = rw (← c.self.view_is) at fed in
    let ends : CertEnds old.reader = search rules in
    tail_refused lines s c.args.line.now old c.in_ok-at.at was ends c.in_ok-at.ensures.ok

pub returns-in-Ok-clause-good : goal.returns-in-Ok-clause-good
returns-in-Ok-clause-good c lines s fed =
    let f = c.self.inside in
    let old : CertFeedView = record { reader = f.reader; count = f.count; failed = f.failed } in
    let was : IsFed old lines s = rw (← c.self.view_is) at fed in
    good_line lines s c.args.line.now old c.advance.new.self c.in-Ok.node c.told.result c.in_ok-at.at was c.requires c.in-Ok.ensures.ok c.in-Ok.ensures.bare c.in_ok-at.ensures.ok c.told.ensures

pub returns-in-Err-clause-refused : goal.returns-in-Err-clause-refused
returns-in-Err-clause-refused c lines s fed =
    let f = c.self.inside in
    let old : CertFeedView = record { reader = f.reader; count = f.count; failed = f.failed } in
    let was : IsFed old lines s = rw (← c.self.view_is) at fed in
    let goes : ¬ (CertEnds old.reader) = search rules in
    line_refused lines s c.args.line.now old c.in_ok-at.at c.in-Err.error c.refusal.result was c.requires goes c.in-Err.ensures.err c.in_ok-at.ensures.ok c.refusal.ensures
