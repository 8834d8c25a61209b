use Rattle.std.proofs.Common.{arith, sym, ◌∙◌, ◌-◌, ◌%◌}
use Rattle.srs_path.specs.Paths.{side_of}
use Rattle.srs_path.proofs.Digits.{packed_fewer, fewer}
use Rattle.srs_path.proofs.paths.Path.parent.Goals as goal

pub invariant_of-result : goal.invariant_of-result
invariant_of-result c = packed_fewer c.self.inside.len (c.self.inside.len - 1) c.self.inside.digits (omega (arith, c.if-self-eq0.false)) c.self.invariant

pub returns : goal.returns
returns c =
    (side_of (c.self.inside.digits % 2), sym c.self.view_is ∙ fewer c.self.inside.len (c.self.inside.len - 1) c.self.inside.digits (omega (arith, c.if-self-eq0.false)))
