-- The questions at the first points.
use Rattle.std.proofs.Common.{◌≡◌, ◌++◌, take}
use Rattle.std.specs.List.{flat_map}
use Rattle.srs_gen.specs.Inputs.{question_text}
use Rattle.srs_gen.proofs.inputs.put_questions.Given as goal

abbrev pub invariant-loop-r : goal.invariant-loop-r
invariant-loop-r l = l.text ≡ l.fn.text ++ flat_map question_text (take l.r-index l.points)
