use Rattle.std.proofs.Common.{pos, neg_ℤ, ◌-ℤ◌, ◌+ℤ◌, ◌≤ℤ◌, ◌<ℤ◌, arith}
use Rattle.std.proofs.lemmas.Int.{ints}
use Rattle.srs_wit.proofs.Running.{near_downward, near_upward}
use Rattle.srs_wit.proofs.pair_set.is_near_run.Goals as goal

pub returns-then-run-side-2 : goal.returns-then-run-side-2
returns-then-run-side-2 c = λ t.
    let r = c.args.run in
    let from : pos 0 ≤ℤ r.a = omega (arith, ints) in
    let below : r.a <ℤ pos c.args.side = omega (arith, ints) in
    let first : r.first <ℤ pos c.args.side = omega (arith, ints, c.requires.first) in
    let last : neg_ℤ (pos c.args.side) ≤ℤ (r.first -ℤ (pos r.count -ℤ pos 1)) = omega (arith, ints, t, c.requires.first) in
    near_downward c.args.side r from below c.if-run.true first last

pub returns-then-side-run : goal.returns-then-side-run
returns-then-side-run c = λ t.
    let r = c.args.run in
    let from : pos 0 ≤ℤ r.a = omega (arith, ints) in
    let below : r.a <ℤ pos c.args.side = omega (arith, ints) in
    let first : neg_ℤ (pos c.args.side) ≤ℤ r.first = omega (arith, ints, c.requires.first) in
    let last : (r.first +ℤ (pos r.count -ℤ pos 1)) <ℤ pos c.args.side = omega (arith, ints, t, c.requires.first) in
    near_upward c.args.side r from below c.if-run.false first last
