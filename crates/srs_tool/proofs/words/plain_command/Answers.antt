use Rattle.std.proofs.Common.{refl}
use Rattle.std.proofs.lemmas.Bool.{false≢true}
use Rattle.srs_tool.specs.declared.commands.Command.TheVariants.{Certify, Live, Check, Map, Ask, Make, Bench}
use Rattle.srs_tool.proofs.Spelling.{asked_alone}
use Rattle.srs_tool.proofs.words.plain_command.Goals as goal

pub returns-in-None-clause-none : goal.returns-in-None-clause-none
returns-in-None-clause-none c (Certify limits) = λ asked. c.in-None.ensures.none limits asked.0
returns-in-None-clause-none c (Live limits workers) = λ asked. absurd asked.1
returns-in-None-clause-none c Check = λ asked. false≢true (c.if-is_alone.ensures.1 (asked_alone _ Check refl asked.0))
returns-in-None-clause-none c (Map columns rows) = λ asked. c.in_default.ensures.none columns rows asked.0
returns-in-None-clause-none c (Make s n) =
    λ asked. c.in_default-sample_size.ensures.none s n asked.0
returns-in-None-clause-none c (Bench s n) =
    λ asked. c.in_default-sample_size-2.ensures.none s n asked.0
returns-in-None-clause-none c Ask = λ asked. false≢true (c.if-is_alone-2.ensures.1 (asked_alone _ Ask refl asked.0))
