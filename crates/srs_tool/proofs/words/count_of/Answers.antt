use Rattle.std.proofs.Common.{arith}
use Rattle.srs_tool.proofs.Spelling.{none_weaker}
use Rattle.srs_tool.proofs.words.count_of.Goals as goal

pub returns-clause-none : goal.returns-clause-none
returns-clause-none c =
    none_weaker c.small_number.result
    (λ none n below is. none n is (omega arith)) c.small_number.ensures.none
