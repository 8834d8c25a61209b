use Rattle.std.proofs.Common.{length, ◌≡◌, arith, below_more, ⊎_elim}
use Rattle.srs_cut.specs.Judgement.{IsUndivided}
use Rattle.srs_cut.proofs.Divisions.{none_divides, first_lower, first_upper, holds_undivided}
use Rattle.srs_cut.proofs.judgement.first_division.Goals as goal

pub loop-i-init : goal.loop-i-init
loop-i-init c = λ j lt. holds_undivided c.args.cell.now c.args.c.now j (c.requires.before j lt)

pub returns-in-Some : goal.returns-in-Some
returns-in-Some c =
    let R = c.args.cell.now in
    let cycle = c.args.c.now in
    let i = c.loop-i.i in
    ⊎_elim
    (λ w. first_lower R cycle i c.in-Some.form (omega arith) c.loop-i.invariant w.0 w.1)
    (λ w. first_upper R cycle i c.in-Some.form (omega arith) c.loop-i.invariant w.0 w.1 w.2)
    c.in-Some.ensures

pub loop-i-preserved : goal.loop-i-preserved
loop-i-preserved c = below_more (IsUndivided c.args.cell.now c.args.c.now) _ c.loop-i.invariant c.in_default.ensures

pub returns : goal.returns
returns c =
    let end : length c.args.c.now ≡ c.loop-i.i = omega arith in
    none_divides c.args.cell.now c.args.c.now c.loop-i.i end c.loop-i.invariant
