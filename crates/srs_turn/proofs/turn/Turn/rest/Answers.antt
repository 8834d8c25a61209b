use Rattle.std.proofs.Common.{◌+◌, ◌-◌, ◌%◌, ◌^◌, rules, subst, sym}
use Rattle.srs_turn.specs.TurnWords.{IsIdle}
use Rattle.srs_turn.proofs.TurnSteps.{rests}
use Rattle.srs_turn.proofs.turn.Turn.rest.Goals as goal

pub fetch_add-requires : goal.fetch_add-requires
fetch_add-requires g c = (search rules, search rules, rests _ _ _ _ _ _ (λ n. (n + 1) % 2 ^ 64) 1 c.requires.1)

pub fetch_sub-requires : goal.fetch_sub-requires
fetch_sub-requires g c = (search rules, search rules, rests _ _ _ _ _ _ (λ n. (n + (2 ^ 64 - 1)) % 2 ^ 64) 1 (subst (λ m. IsIdle m) (sym c.fetch_add.ensures.2) c.requires.1))
