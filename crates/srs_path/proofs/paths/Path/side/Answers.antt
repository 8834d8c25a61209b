use Rattle.std.proofs.Common.{List, length, arith, sym, ap, ◌∙◌}
use Rattle.std.specs.Prelude.{slice_get}
use Rattle.srs_path.specs.declared.paths.Side.{Side}
use Rattle.srs_path.proofs.Digits.{ge_at, lt_at}
use Rattle.srs_path.proofs.paths.Path.side.Goals as goal

pub returns-then-self-i-eq0 : goal.returns-then-self-i-eq0
returns-then-self-i-eq0 c =
    ap (λ (v : List Side). slice_get v c.args.i) (sym c.self.view_is)
    ∙ ge_at c.self.inside.len c.self.inside.digits c.args.i (omega (arith, c.requires, ap (length {A = Side}) c.self.view_is, c.self.invariant.count)) c.if-self-i-eq0.true

pub returns-else-self-i-eq0 : goal.returns-else-self-i-eq0
returns-else-self-i-eq0 c =
    ap (λ (v : List Side). slice_get v c.args.i) (sym c.self.view_is)
    ∙ lt_at c.self.inside.len c.self.inside.digits c.args.i (omega (arith, c.requires, ap (length {A = Side}) c.self.view_is, c.self.invariant.count)) c.if-self-i-eq0.false
