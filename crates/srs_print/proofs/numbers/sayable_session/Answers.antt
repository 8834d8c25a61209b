use Rattle.std.proofs.Common.{arith}
use Rattle.srs_cert.specs.Sayings.{IsSayable}
use Rattle.srs_print.proofs.Firsts.{all_next, all_of}
use Rattle.srs_print.proofs.numbers.sayable_session.Goals as goal

pub loop-i-preserved : goal.loop-i-preserved
loop-i-preserved c = all_next IsSayable c.args.told.now c.loop-i.i c.get.result.now c.get.ensures c.loop-i.invariant c.sayable_said.ensures

pub returns : goal.returns
returns c = all_of IsSayable c.args.told.now c.loop-i.i (omega arith) c.loop-i.invariant
