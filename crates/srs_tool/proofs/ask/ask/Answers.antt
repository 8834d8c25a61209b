use Rattle.std.proofs.Common.{subst}
use Rattle.srs_file.specs.AskReading.{IsAskRefusal, IsNoAsk}
use Rattle.srs_check.specs.Builds.{IsBuiltFrom}
use Rattle.srs_tool.specs.declared.commands.Command.TheVariants.{Ask}
use Rattle.srs_tool.proofs.Owing.{owed_refusal, owed_fault}
use Rattle.srs_tool.proofs.Replying.{are_asked}
use Rattle.srs_tool.proofs.ask.ask.Goals as goal

pub returns-in-Err-At : goal.returns-in-Err-At
returns-in-Err-At c =
    let first = subst (IsAskRefusal c.args.input.now) c.in-Err-At.field-0-is c.in-Err-At.ensures.refused in
    let none = subst (IsNoAsk c.args.input.now) c.in-Err-At.field-0-is c.in-Err-At.ensures.outside in
    owed_refusal Ask c.args.input.now c.in-Err-At.line c.in-Err-At.slip c.refused.result first (λ has. none has.0 has.1.0 has.1.1) c.refused.ensures

pub replies-requires-clause-asked : goal.replies-requires-clause-asked
replies-requires-clause-asked c = are_asked c.in-Ok.ensures.accepted.questions c.in-Ok.read.1 c.in-Ok.ensures.accepted.of_questions

pub returns : goal.returns
returns c =
    let checked = subst (IsBuiltFrom c.in-Ok.read.0) c.in-Bad.is c.in_ok-version.ensures in
    owed_fault Ask c.args.input.now c.in-Ok.read.0 c.in-Bad.line c.in-Bad.fault c.bad.result (c.in-Ok.read.1, c.in-Ok.ensures.accepted) checked.0 c.bad.ensures
