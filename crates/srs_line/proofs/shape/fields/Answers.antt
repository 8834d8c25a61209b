use Rattle.std.proofs.Common.{◌≡◌, ◌∷◌, ◌+◌, length, inr, refl, ap, arith, rules}
use Rattle.srs_line.specs.Fields.{tokens}
use Rattle.srs_line.proofs.shape.fields.Goals as goal

pub returns-clause-err : goal.returns-clause-err
returns-clause-err c =
    let same : c.in-Some.first.now ≡ c.args.word.now = c.if-not-is_word.ensures.0 (search rules) in
    let just : length (tokens c.args.line.now) ≡ length c.args.into.now + 1 = c.if-not-has_just.ensures.0 (search rules) in
    let whole : tokens c.args.line.now ≡ c.args.word.now ∷ c.next.new.self = let read = c.in-Some.ensures.some in cc (c.new-left.ensures, read) in
    let count : length c.next.new.self ≡ length c.args.into.now = omega (arith, just, ap length whole) in
    let bad = c.if-numbers.ensures.no (search rules) count in
    inr (record { shape = record { fields = c.next.new.self; split = whole; count_is = count }; bad = bad }, refl)
