use Rattle.std.proofs.Common.{ap₂, sym, ◌∙◌}
use Rattle.std.proofs.lemmas.Bool.Decides.{Decides-eqb}
use Rattle.srs_path.specs.Paths.{sides_of}
use Rattle.srs_path.proofs.Digits.{packed_once}
use Rattle.srs_path.proofs.paths.Path.same.Goals as goal

pub returns-then-self-other : goal.returns-then-self-other
returns-then-self-other c = (
  λ yes. sym c.self.view_is ∙ ap₂ sides_of ((Decides-eqb c.self.inside.len c.other.inside.len).0 yes) c.if-self-other.true ∙ c.other.view_is,
  λ e. (Decides-eqb c.self.inside.len c.other.inside.len).1 (packed_once _ _ _ _ c.self.invariant c.other.invariant (c.self.view_is ∙ e ∙ sym c.other.view_is)).1,
)

pub returns-else-self-other : goal.returns-else-self-other
returns-else-self-other c = (
  λ yes. absurd (c.if-self-other.false ((Decides-eqb c.self.inside.digits c.other.inside.digits).0 yes)),
  λ e. absurd (c.if-self-other.false (packed_once _ _ _ _ c.self.invariant c.other.invariant (c.self.view_is ∙ e ∙ sym c.other.view_is)).0),
)
