use Rattle.std.proofs.Common.{◌+◌}
use Rattle.srs_wit.specs.Listing.{AreTooMany}
use Rattle.srs_wit.specs.Spans.{pairs_from}
use Rattle.srs_wit.proofs.Adding.{shown_along}
use Rattle.srs_wit.proofs.Following.{long_shows_many}
use Rattle.srs_wit.proofs.closure.Search.refusal.Goals as goal

pub returns-in-Long : goal.returns-in-Long
returns-in-Long c = λ R stopped.
    let w = c.in-Long.w in
    let span = c.in-Long.span in
    c.too_many.ensures R
    (shown_along (AreTooMany R c.args.bound) (pairs_from w span.low (c.args.bound + 1)) c.first_pairs.result c.first_pairs.ensures
    (long_shows_many R c.args.bound w span (rw c.in-Long.is at stopped)))
