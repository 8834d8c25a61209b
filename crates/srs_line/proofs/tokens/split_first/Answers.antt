use Rattle.std.proofs.Common.{take_all}
use Rattle.srs_line.proofs.TokenLemmas.{tokens_here, tokens_alone}
use Rattle.srs_line.proofs.tokens.split_first.Goals as goal

pub returns-then-byte-eq32 : goal.returns-then-byte-eq32
returns-then-byte-eq32 c = tokens_here c.args.text.now c.loop-at.at 0 c.loop-at-test.true c.if-byte-eq32.true c.loop-at.invariant

pub returns : goal.returns
returns c = tokens_alone c.args.text.now (rw (take_all c.loop-at.at c.args.text.now c.loop-at-test.false) at c.loop-at.invariant)
