use Rattle.std.proofs.Common.{◌≡◌, ◌≢◌, ◌++◌, [], length, arith, rules}
use Rattle.std.proofs.lemmas.Bool.Decides.{nat_tests}
use Rattle.srs_line.specs.declared.slip.Slip.TheVariants.{Missing, Tail}
use Rattle.srs_line.specs.declared.slip.FileErr.TheVariants.{At}
use Rattle.srs_line.specs.Machine.{lines_text}
use Rattle.srs_file.specs.CertReading.{CertEnds}
use Rattle.srs_file.specs.Feeding.{CertFeedView, IsFed}
use Rattle.srs_file.proofs.CertRuns.{no_cert}
use Rattle.srs_file.proofs.FeedLaws.{rest_missing, rest_refused, lines_whole, no_bytes}
use Rattle.srs_file.proofs.cert_feed.CertFeed.end.Goals as goal

pub returns-then-not-is_done-clause-refused : goal.returns-then-not-is_done-clause-refused
returns-then-not-is_done-clause-refused c lines s fed =
    let f = c.self.inside in
    let old : CertFeedView = record { reader = f.reader; count = f.count; failed = f.failed } in
    let was : IsFed old lines s = rw (← c.self.view_is) at fed in
    let goes : ¬ (CertEnds old.reader) = search rules in
    rest_missing lines s c.args.rest.now old c.in_ok-at.at was goes c.requires c.in_ok-at.ensures.ok

pub returns-then-not-is_done-clause-outside : goal.returns-then-not-is_done-clause-outside
returns-then-not-is_done-clause-outside c lines s fed =
    no_cert (lines_text lines ++ c.args.rest.now) (At c.in_ok-at.at Missing) (returns-then-not-is_done-clause-refused c lines s fed)

pub returns-then-not-is_empty-clause-refused : goal.returns-then-not-is_empty-clause-refused
returns-then-not-is_empty-clause-refused c lines s fed =
    let f = c.self.inside in
    let old : CertFeedView = record { reader = f.reader; count = f.count; failed = f.failed } in
    let was : IsFed old lines s = rw (← c.self.view_is) at fed in
    let ends : CertEnds old.reader = search rules in
    let more : c.args.rest.now ≢ [] = search rules in
    rest_refused lines s c.args.rest.now old c.in_ok-at.at was ends more c.in_ok-at.ensures.ok

pub returns-then-not-is_empty-clause-outside : goal.returns-then-not-is_empty-clause-outside
returns-then-not-is_empty-clause-outside c lines s fed =
    no_cert (lines_text lines ++ c.args.rest.now) (At c.in_ok-at.at Tail) (returns-then-not-is_empty-clause-refused c lines s fed)

pub returns-clause-accepted : goal.returns-clause-accepted
returns-clause-accepted c lines s fed =
    let f = c.self.inside in
    let old : CertFeedView = record { reader = f.reader; count = f.count; failed = f.failed } in
    let was : IsFed old lines s = rw (← c.self.view_is) at fed in
    let ends : CertEnds old.reader = search rules in
    let zero : length c.args.rest.now ≡ 0 = grind (arith, nat_tests) in
    lines_whole lines s c.args.rest.now old was ends (no_bytes c.args.rest.now zero)
