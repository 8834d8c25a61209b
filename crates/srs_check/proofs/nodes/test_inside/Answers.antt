use Rattle.std.proofs.Common.{refl}
use Rattle.srs_path.specs.declared.outcomes.Outcome.TheVariants.{Inside}
use Rattle.srs_check.proofs.Soundness.{inside_sound}
use Rattle.srs_check.proofs.nodes.test_inside.Goals as goal

pub returns-in-Ok : goal.returns-in-Ok
returns-in-Ok c = λ L k. record {
  no_cut = λ h q. cc;
  proves = λ H. c.in-Ok.ensures.ok;
  sound = inside_sound c.args.cell.now c.args.ranks.now (Inside c.args.ranks.now) refl c.in-Ok.ensures.ok;
}
