use Rattle.std.proofs.Common.{arith, refl, ◌-◌, pos}
use Rattle.std.proofs.lemmas.List.{get_or_default}
use Rattle.std.proofs.lemmas.List.Sorted.{all_adjacent_more}
use Rattle.srs_path.specs.Core.{Precedes}
use Rattle.srs_path.proofs.Order.{ascends_from_adjacent}
use Rattle.srs_path.proofs.ranks.ascends.Goals as goal

pub loop-i-preserved : goal.loop-i-preserved
loop-i-preserved c = all_adjacent_more c.args.pairs.now Precedes c.loop-i.i (omega arith) c.loop-i.invariant (λ d.
    rw (get_or_default c.args.pairs.now (c.loop-i.i - 1) d (record { a = pos 0; b = pos 0 }) (omega arith), get_or_default c.args.pairs.now c.loop-i.i d (record { a = pos 0; b = pos 0 }) (omega arith))
    (c.if-not-precedes.ensures.0 refl))

pub returns : goal.returns
returns c = ((λ _. ascends_from_adjacent c.args.pairs.now (λ k d lt. c.loop-i.invariant k d (omega arith))), (λ _. refl))
