use Rattle.std.proofs.lemmas.List.Elements.{All-push}
use Rattle.srs_tree.specs.Questions.{IsAskable}
use Rattle.srs_file.proofs.questions.Questions.ask.Goals as goal

pub push-requires : goal.push-requires
push-requires c = All-push IsAskable c.args.self.now.queries c.args.query c.len.ensures.keeps c.requires
