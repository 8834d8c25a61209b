use Rattle.std.proofs.Common.{◌++◌, take, arith, length-append, length-take}
use Rattle.std.proofs.KnownBytes.{Consumes-trans}
use Rattle.srs_text.proofs.transfer.read_all.Goals as goal

-- What was taken before, then what the read just gave.
pub returns-then-is_err-clause-want : goal.returns-then-is_err-clause-want
returns-then-is_err-clause-want g c said =
    let given = take c.in-Ok.count c.read.new.into in (
      c.loop-chunk.bytes ++ given,
      Consumes-trans _ _ _ _ _ c.loop-chunk.invariant.taken c.in-Ok.ensures.bytes.0,
      omega (arith, c.read.auto.into, c.in-Ok.ensures.bound, length-append c.loop-chunk.bytes given, length-take c.min-room.result c.loop-chunk.chunk),
    )
