use Rattle.std.proofs.Common.{◌+◌, ◌≤◌, length, arith}
use Rattle.srs_check.proofs.Stacked.{pushed}
use Rattle.srs_check.proofs.waiting.push.Goals as goal

pub returns : goal.returns
returns g c kept room =
    let fits : length c.args.cells.now.items + 1 ≤ c.args.cells.now.capacity = omega (arith, kept.room, room) in
    pushed c.args.cells.now.items c.push.new.self.items c.args.cells.now.capacity c.push.new.self.capacity c.args.cell kept room c.push.result
    (c.push.ensures.succeeds fits) c.push.ensures.ok (c.push.ensures.had_room fits)
