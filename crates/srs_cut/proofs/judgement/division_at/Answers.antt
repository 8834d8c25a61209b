use Rattle.std.proofs.Common.{inr, refl}
use Rattle.srs_cut.proofs.Divisions.{not_divided}
use Rattle.srs_cut.proofs.judgement.division_at.Goals as goal

pub returns-then-divides-2 : goal.returns-then-divides-2
returns-then-divides-2 c =
    inr (c.upper_form-upper.ensures, not_divided _ _ _ c.lower_form-lower.ensures c.if-divides.ensures.1, c.if-divides-2.ensures.0 refl)
