use Rattle.std.proofs.Common.{subst}
use Rattle.srs_check.specs.Builds.{IsBuiltFrom}
use Rattle.srs_tool.specs.declared.commands.Command.TheVariants.{Map}
use Rattle.srs_tool.proofs.Owing.{owed_fault}
use Rattle.srs_tool.proofs.map.draw.Goals as goal

pub returns : goal.returns
returns c =
    let checked = subst (IsBuiltFrom c.in-Ok.cert) c.in-Bad.is c.in_ok-version.ensures in
    owed_fault (Map c.args.columns c.args.rows) c.args.input.now c.in-Ok.cert c.in-Bad.line c.in-Bad.fault c.bad.result c.in-Ok.ensures.accepted checked.0 c.bad.ensures
