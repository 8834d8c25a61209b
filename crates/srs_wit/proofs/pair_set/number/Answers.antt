use Rattle.srs_wit.proofs.Indexing.{near_from_bits}
use Rattle.srs_wit.proofs.pair_set.number.Goals as goal

pub returns : goal.returns
returns c =
    near_from_bits c.args.side c.args.v c.cast_unsigned-row.result c.cast_unsigned-column.result c.requires.small c.requires.narrow c.cast_unsigned-row.ensures c.if-row-side.false
    c.cast_unsigned-column.ensures c.if-column-side.false
