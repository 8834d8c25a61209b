use Rattle.std.proofs.Common.{refl}
use Rattle.srs_tree.specs.declared.queries.Said.TheVariants.{Point}
use Rattle.srs_tree.specs.Answers.{reply_of}
use Rattle.srs_tool.proofs.ask.put_point.Goals as goal

pub returns-in-Ok : goal.returns-in-Ok
returns-in-Ok g c =
    let reply = reply_of c.answer_at.result in
    (Point c.args.r.now reply, (reply, refl, c.answer_at.ensures), c.in-Ok.ensures.ok)
