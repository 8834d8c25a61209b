use Rattle.std.proofs.Common.{arith, refl, get_or, ◌/◌}
use Rattle.srs_wit.proofs.Marking.{marked_more}
use Rattle.srs_wit.proofs.marks.mark.Goals as goal

pub returns : goal.returns
returns c = marked_more c.args.words.now c.args.k (get_or c.args.words.now (c.args.k / 64) 0) (omega arith) refl
