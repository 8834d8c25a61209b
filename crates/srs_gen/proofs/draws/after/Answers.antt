use Rattle.std.proofs.Common.{refl}
use Rattle.srs_gen.specs.Draws.{next_state}
use Rattle.srs_gen.proofs.draws.after.Goals as goal

pub returns-clause-state : goal.returns-clause-state
unfolding next_state
returns-clause-state c = refl
