use Rattle.std.proofs.Common.{refl}
use Rattle.srs_tree.specs.Answers.{reply_of}
use Rattle.srs_tool.proofs.Replying.{answer_by_leaf, answer_beyond}
use Rattle.srs_tool.proofs.ask.answer_at.Goals as goal

pub returns-in-Some : goal.returns-in-Some
returns-in-Some g c =
    answer_by_leaf c.args.cert.now c.args.version.now c.requires c.args.r.now c.in-Some.path (reply_of c.leaf_answer.result) c.in-Some.ensures.leaf c.leaf_answer.ensures

pub returns-in-None : goal.returns-in-None
returns-in-None g c = answer_beyond c.args.cert.now c.args.version.now c.requires c.args.r.now _ c.in-None.ensures.leaf refl
