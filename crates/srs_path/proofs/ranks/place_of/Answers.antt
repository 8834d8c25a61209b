use Rattle.srs_path.proofs.Search.{searched}
use Rattle.srs_path.proofs.ranks.place_of.Goals as goal

pub returns : goal.returns
returns c = rw c.ok.ensures.value (searched c.args.pairs.now c.args.w.now c.binary_search.result c.requires c.binary_search.ensures.bound c.binary_search.ensures.position)
