use Rattle.std.proofs.Common.{◌≡◌}
use Rattle.srs_path.specs.Cutout.{lower_form, upper_form}
use Rattle.srs_cut.proofs.Twos.{twos}
use Rattle.srs_cut.proofs.forms.cutout.Given as goal

abbrev pub invariant-loop-i : goal.invariant-loop-i
invariant-loop-i l = l.forms ≡ twos (lower_form l.c) (upper_form l.c) 0 l.i
