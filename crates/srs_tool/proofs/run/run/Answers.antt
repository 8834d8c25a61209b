use Rattle.std.proofs.Common.{◌≡◌, map, string_bytes, rules, subst}
use Rattle.srs_tool.specs.declared.commands.Command.{Command}
use Rattle.srs_tool.specs.declared.commands.Command.TheVariants.{Live}
use Rattle.srs_tool.specs.declared.commands.Input.TheVariants.{Nothing, Sessions}
use Rattle.srs_tool.specs.Words.{SpellsCommand}
use Rattle.srs_tool.specs.Inputs.{input_of}
use Rattle.srs_tool.proofs.Asking.{one_command, plain_asked}
use Rattle.srs_tool.proofs.run.run.Goals as goal

pub returns-in-Some-clause-unread : goal.returns-in-Some-clause-unread
returns-in-Some-clause-unread g c command asked none =
    let live : Command = Live c.in-Some.limits c.in-Some.workers in
    let this : SpellsCommand (map string_bytes c.args.words.now) live = search rules in
    let reads : Sessions ≡ Nothing =
    subst (λ (d : Command). input_of d ≡ Nothing)
    (one_command _ command live asked this) none in
    absurd cc

pub returns-in-None-clause-unread : goal.returns-in-None-clause-unread
returns-in-None-clause-unread g c command asked none =
    c.plain.ensures.unread command (plain_asked _ c.in-None.ensures.none command asked) none

pub returns-in-None-clause-ends : goal.returns-in-None-clause-ends
returns-in-None-clause-ends g c other =
    let end = c.plain.ensures.ends other in record { command = end.command; asked = end.asked.0; end = end.end }

pub returns-in-None-clause-complete : goal.returns-in-None-clause-complete
returns-in-None-clause-complete g c good =
    c.plain.ensures.complete
    (record {
      command = good.command;
      asked = plain_asked _ c.in-None.ensures.none good.command good.asked;
      served = good.served;
    })
