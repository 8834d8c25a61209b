use Rattle.std.proofs.Common.{◌≡◌, ◌<◌, ◌^◌, drop}
use Rattle.srs_text.specs.Spelling.{AreDigits, value_after}
use Rattle.srs_text.proofs.spelling.short_value.Given as goal

abbrev pub invariant-loop-digit : goal.invariant-loop-digit
invariant-loop-digit l = record {
  value : value_after 0 l.digits ≡ value_after l.n (drop l.digit-index l.digits);
  digits : AreDigits (drop l.digit-index l.digits) → AreDigits l.digits;
  short : l.n < 2 ^ 63;
}
