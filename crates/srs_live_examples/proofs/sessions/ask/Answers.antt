-- Each question is askable.
use Rattle.std.proofs.lemmas.List.Elements.{All-push}
use Rattle.srs_tree.specs.Questions.{IsAskable}
use Rattle.srs_live_examples.proofs.sessions.ask.Goals as goal

pub push-requires : goal.push-requires
push-requires c = All-push IsAskable c.args.queries.now c.args.query c.len.ensures.keeps c.requires
