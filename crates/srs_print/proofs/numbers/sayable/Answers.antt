use Rattle.std.proofs.Common.{All, arith}
use Rattle.srs_cert.specs.Sayings.{IsSayable}
use Rattle.srs_print.proofs.Firsts.{all_next, all_of}
use Rattle.srs_print.proofs.numbers.sayable.Goals as goal

pub loop-i-preserved : goal.loop-i-preserved
loop-i-preserved c = all_next (All IsSayable) c.args.told.now c.loop-i.i c.get.result.now c.get.ensures c.loop-i.invariant c.sayable_session.ensures

pub returns : goal.returns
returns c = all_of (All IsSayable) c.args.told.now c.loop-i.i (omega arith) c.loop-i.invariant
