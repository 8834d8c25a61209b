use Rattle.std.proofs.Common.{ℕ, ◌<◌}
use Rattle.srs_cut.specs.Judgement.{HoldsThrough}
use Rattle.srs_cut.proofs.judgement.judge.Given as goal

abbrev pub invariant-loop-at : goal.invariant-loop-at
invariant-loop-at l = (j : ℕ) → j < l.at → HoldsThrough l.cell l.c j
