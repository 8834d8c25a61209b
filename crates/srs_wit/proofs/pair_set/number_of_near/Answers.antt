use Rattle.srs_wit.proofs.Indexing.{near_bits}
use Rattle.srs_wit.proofs.pair_set.number_of_near.Goals as goal

pub returns : goal.returns
returns c = near_bits c.args.side c.args.v c.cast_unsigned-row.result c.cast_unsigned-column.result c.requires.small c.requires.near c.cast_unsigned-row.ensures c.cast_unsigned-column.ensures
