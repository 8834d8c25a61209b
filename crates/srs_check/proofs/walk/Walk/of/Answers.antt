use Rattle.std.proofs.Common.{◌∷◌, [], refl, ap, ◌∙◌}
use Rattle.srs_plane.specs.Regions.{Area}
use Rattle.srs_check.proofs.Walking.{comes_first}
use Rattle.srs_check.proofs.walk.Walk.of.Goals as goal

pub returns : goal.returns
returns c = λ d is root. comes_first d _ is (c.new.ensures d.events) (c.of.ensures ∙ ap (λ (R : Area). R ∷ []) root) refl refl
