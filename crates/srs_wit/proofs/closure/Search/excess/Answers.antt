use Rattle.std.proofs.Common.{◌+◌, take}
use Rattle.srs_wit.specs.Halves.{with_opposites}
use Rattle.srs_wit.specs.Listing.{AreTooMany}
use Rattle.srs_wit.proofs.Adding.{shown_along}
use Rattle.srs_wit.proofs.BothSides.{shows_many}
use Rattle.srs_wit.specs.PairSets.{all_of}
use Rattle.srs_wit.proofs.closure.Search.excess.Goals as goal

pub returns : goal.returns
returns c R h =
    let keys = (all_of c.args.self.now.found) in
    let met = c.args.self.now.origin in
    c.too_many.ensures R (shown_along (AreTooMany R c.args.bound) (take (c.args.bound + 1) (with_opposites keys met)) c.first.result c.first.ensures
    (shows_many R keys met h c.args.bound c.requires.many))
