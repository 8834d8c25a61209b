use Rattle.std.proofs.Common.{◌≡◌, ℕ, ◌/◌, ◌%◌, ap}
use Rattle.srs_gen.specs.Draws.{next_state, draw_from}
use Rattle.srs_gen.proofs.draws.Generator.below.Goals as goal

pub returns-clause-drawn : goal.returns-clause-drawn
unfolding draw_from
returns-clause-drawn c =
    let state : c.after-self-inside.result ≡ next_state c.args.self.now = cc in
    ap (λ (x : ℕ). (x / 65536) % c.args.m) state
