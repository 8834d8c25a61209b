use Rattle.std.proofs.Common.{◌≡◌, take}
use Rattle.srs_crew.specs.Telling.{told_to}
use Rattle.srs_crew.proofs.transcripts.told_over.Given as goal

abbrev pub invariant-loop-k : goal.invariant-loop-k
invariant-loop-k l = l.one ≡ told_to l.place (take l.k l.told)
