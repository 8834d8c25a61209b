use Rattle.std.proofs.Common.{List, ◌∙◌, ◌+◌, ◌*◌, ◌^◌, ◌≤◌, ◌<◌, ap, sym, arith, lit<}
use Rattle.std.proofs.Math.Nat.{mod-eq_of_lt, pow-le-pow_right}
use Rattle.srs_path.specs.declared.paths.Side.{Side}
use Rattle.srs_path.specs.Paths.{digits_then}
use Rattle.srs_path.proofs.Digits.{number_is}
use Rattle.srs_path.proofs.paths.Path.number.Goals as goal

pub returns : goal.returns
returns c =
    let n = c.self.inside.len in
    let few : 2 ^ n ≤ 2 ^ 48 = pow-le-pow_right (lit< tt) c.self.invariant.short in
    let held : 1 * 2 ^ n < 2 ^ 64 = omega (arith, few) in
    ap (λ k. k + c.self.inside.digits) (mod-eq_of_lt held) ∙ omega arith ∙ sym (number_is n c.self.inside.digits c.self.invariant.below)
    ∙ ap (λ (v : List Side). digits_then 1 v) c.self.view_is
