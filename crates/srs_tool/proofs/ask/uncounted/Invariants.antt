-- The first questions have their lines.
use Rattle.std.proofs.Common.{take}
use Rattle.srs_tool.specs.Replies.{IsReplyText}
use Rattle.srs_tool.proofs.ask.uncounted.Given as goal

abbrev pub invariant-loop-i : goal.invariant-loop-i
invariant-loop-i g l = IsReplyText l.cert (take l.i l.queries) l.text
