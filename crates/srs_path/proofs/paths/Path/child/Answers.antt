use Rattle.std.proofs.Common.{arith, ◌*◌, ◌+◌, subst, sym, ℕ}
use Rattle.srs_path.specs.Paths.{IsPacked}
use Rattle.srs_path.proofs.Digits.{packed_more}
use Rattle.srs_path.proofs.paths.Path.child.Goals as goal

pub invariant_of-result : goal.invariant_of-result
invariant_of-result c =
    let short = c.self.invariant.short in
    subst (λ (d : ℕ). IsPacked (c.self.inside.len + 1) (c.self.inside.digits * 2 + d)) (sym c.digit.ensures)
    (packed_more c.self.inside.len c.self.inside.digits c.args.s c.self.invariant (omega (arith, short, c.if-self-eq-MOST_DEPTH.false)))
