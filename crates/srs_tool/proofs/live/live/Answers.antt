use Rattle.std.proofs.Common.{subst}
use Rattle.srs_file.specs.LiveReading.{IsLiveRefusal, IsNoLive}
use Rattle.srs_tool.specs.declared.commands.Command.TheVariants.{Live}
use Rattle.srs_tool.proofs.Owing.{owed_refusal}
use Rattle.srs_tool.proofs.live.live.Goals as goal

pub returns-in-Err-At : goal.returns-in-Err-At
returns-in-Err-At g c =
    let first = subst (IsLiveRefusal c.args.input.now) c.in-Err-At.field-0-is c.in-Err-At.ensures.refused in
    let none = subst (IsNoLive c.args.input.now) c.in-Err-At.field-0-is c.in-Err-At.ensures.outside in
    owed_refusal (Live c.args.limits.now c.args.workers) c.args.input.now c.in-Err-At.line c.in-Err-At.slip c.refused.result first (λ has. none has.0 has.1.0 has.1.1) c.refused.ensures
