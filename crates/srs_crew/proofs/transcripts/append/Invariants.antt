use Rattle.std.proofs.Common.{◌≡◌, ◌++◌, take}
use Rattle.srs_crew.proofs.transcripts.append.Given as goal

abbrev pub invariant-loop-i : goal.invariant-loop-i
invariant-loop-i l = l.told ≡ l.initial.told ++ take l.i l.more
