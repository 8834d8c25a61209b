use Rattle.srs_path.specs.Cutout.{lower_form, upper_form}
use Rattle.srs_cut.proofs.Twos.{twos_pushed}
use Rattle.srs_cut.proofs.forms.cutout.Goals as goal

pub loop-i-preserved : goal.loop-i-preserved
loop-i-preserved c =
    twos_pushed (lower_form c.args.c.now) (upper_form c.args.c.now) c.loop-i.i _ _ _ _ _ c.loop-i.invariant c.lower_form.ensures c.upper_form.ensures c.in_ok-add_form.ensures c.in_ok-add_form-2.ensures
