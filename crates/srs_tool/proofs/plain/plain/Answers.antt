use Rattle.std.proofs.Common.{◌≡◌, subst}
use Rattle.srs_tool.specs.declared.commands.Command.{Command}
use Rattle.srs_tool.specs.declared.commands.Input.TheVariants.{Nothing}
use Rattle.srs_tool.specs.Words.{AsksPlain}
use Rattle.srs_tool.specs.Inputs.{input_of}
use Rattle.srs_tool.proofs.Asking.{one_plain_command}
use Rattle.srs_tool.proofs.Completing.{completes}
use Rattle.srs_tool.proofs.plain.plain.Goals as goal

pub read_and_answer-requires-clause-range : goal.read_and_answer-requires-clause-range
read_and_answer-requires-clause-range g c = c.in-Some.ensures.some.0.1

pub read_and_answer-requires-clause-plain : goal.read_and_answer-requires-clause-plain
read_and_answer-requires-clause-plain g c = c.in-Some.ensures.some.1

pub returns-in-Some-clause-ends : goal.returns-in-Some-clause-ends
returns-in-Some-clause-ends g c other =
    record { command = c.in-Some.command; asked = c.in-Some.ensures.some; end = c.read_and_answer.ensures.ends }

pub returns-in-Some-clause-unread : goal.returns-in-Some-clause-unread
returns-in-Some-clause-unread g c command asked none =
    c.read_and_answer.ensures.unread
    (subst (λ (d : Command). input_of d ≡ Nothing)
    (one_plain_command _ command c.in-Some.command asked c.in-Some.ensures.some) none)

pub returns-in-Some-clause-complete : goal.returns-in-Some-clause-complete
returns-in-Some-clause-complete g c good =
    completes AsksPlain _ _ _ _ _ (one_plain_command _) good _ _ _ _ _
    (record { command = c.in-Some.command; asked = c.in-Some.ensures.some; end = c.read_and_answer.ensures.ends })

pub returns-in-None-clause-complete : goal.returns-in-None-clause-complete
returns-in-None-clause-complete g c good = absurd (c.in-None.ensures.none good.command good.asked)
