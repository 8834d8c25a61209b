use Rattle.std.proofs.Common.{◌≡◌, ◌++◌, take}
use Rattle.std.specs.List.{flat_map, enumerate_from}
use Rattle.srs_cert.specs.Lives.{session_text}
use Rattle.srs_print.proofs.live.put_sessions.Given as goal

abbrev pub invariant-loop-i : goal.invariant-loop-i
invariant-loop-i l = l.out ≡ l.fn.out ++ flat_map session_text (take l.i (enumerate_from 1 l.told))
