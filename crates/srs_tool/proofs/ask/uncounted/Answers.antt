-- One question more.
use Rattle.std.proofs.Common.{List, take, sym, subst, arith}
use Rattle.std.proofs.lemmas.List.{take_all}
use Rattle.srs_tree.specs.declared.queries.Query.{Query}
use Rattle.srs_cert.proofs.Preordered.{take_here}
use Rattle.srs_tool.specs.Replies.{IsReplyText}
use Rattle.srs_tool.proofs.Replying.{replies_none, one_reply_more}
use Rattle.srs_tool.proofs.ask.uncounted.Goals as goal

pub loop-i-init : goal.loop-i-init
loop-i-init g c = replies_none c.args.cert.now c.new-text.result c.new-text.ensures

pub put_reply-requires-clause-asked : goal.put_reply-requires-clause-asked
put_reply-requires-clause-asked g c = c.requires.asked c.loop-i.i c.get.result.now c.get.ensures

pub loop-i-preserved : goal.loop-i-preserved
loop-i-preserved g c =
    subst (λ (qs : List Query). IsReplyText c.args.cert.now qs c.put_reply.new.text) (sym (take_here c.args.queries.now c.loop-i.i c.get.result.now c.get.ensures))
    (one_reply_more c.args.cert.now (take c.loop-i.i c.args.queries.now) c.get.result.now c.loop-i.text c.put_reply.new.text c.loop-i.invariant c.in_ok-put_reply.ensures)

pub returns : goal.returns
returns g c = subst (λ (qs : List Query). IsReplyText c.args.cert.now qs c.loop-i.text) (take_all c.loop-i.i c.args.queries.now (omega arith)) c.loop-i.invariant
