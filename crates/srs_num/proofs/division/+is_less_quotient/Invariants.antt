use Rattle.std.proofs.Common.{unsigned_abs, ◌+◌}
use Rattle.srs_num.proofs.division.+is_less_quotient.Given as goal

abbrev pub decreases-is_less_quotient : goal.decreases-is_less_quotient
decreases-is_less_quotient l = unsigned_abs l.d1 + unsigned_abs l.d2
