-- The segments of each session ascend.
use Rattle.std.proofs.Common.{[], sym, subst, arith}
use Rattle.std.proofs.lemmas.Option.{slice_get_within}
use Rattle.srs_tree.specs.Sessions.{AreAscending}
use Rattle.srs_crew.specs.Telling.{AreToldBelow}
use Rattle.srs_crew.proofs.Telling.{first_ones, rounds_none}
use Rattle.srs_crew.proofs.transcripts.no_round.Goals as goal

pub loop-i-preserved : goal.loop-i-preserved
loop-i-preserved c = first_ones AreAscending c.args.script.now c.loop-i.i c.get.result.now c.get.ensures c.len.ensures.keeps c.loop-i.invariant

pub returns : goal.returns
returns c Root =
    subst (AreToldBelow Root [] 0 c.args.script.now) (sym c.new.ensures)
    (rounds_none Root c.args.script.now (λ i session g. c.loop-i.invariant i session g (let w = slice_get_within c.args.script.now i session g in omega (arith, w, c.loop-i-test.false, c.len-i-end.ensures.len))))
