use Rattle.std.proofs.Common.{refl, arith}
use Rattle.std.proofs.lemmas.Int.{ints}
use Rattle.srs_num.proofs.Crossings.{turned_up, crossing_first, crossing_second, not_parallel, parallel, above_not, below_not, neither}
use Rattle.srs_num.proofs.lines.cross.Goals as goal

pub crossing_of-requires-then-turned-lt0 : goal.crossing_of-requires-then-turned-lt0
crossing_of-requires-then-turned-lt0 c = turned_up _ _ c.turn-turned.result c.turn-turned.ensures (omega (arith, ints))

pub returns-then-turned-gt0-clause-none : goal.returns-then-turned-gt0-clause-none
returns-then-turned-gt0-clause-none c =
    (λ e. absurd (cc), λ e. absurd (above_not c.turn-turned.result (omega (arith, ints)) (not_parallel _ _ _ c.turn-turned.ensures e)))

pub returns-then-turned-gt0-clause-some : goal.returns-then-turned-gt0-clause-some
returns-then-turned-gt0-clause-some c = crossing_first _ _ _ c.crossing_of.ensures.value c.crossing_of.ensures.sized

pub returns-then-turned-lt0-clause-none : goal.returns-then-turned-lt0-clause-none
returns-then-turned-lt0-clause-none c =
    (λ e. absurd (cc), λ e. absurd (below_not c.turn-turned.result (omega (arith, ints)) (not_parallel _ _ _ c.turn-turned.ensures e)))

pub returns-then-turned-lt0-clause-some : goal.returns-then-turned-lt0-clause-some
returns-then-turned-lt0-clause-some c =
    crossing_second _ _ _ c.crossing_of-then-turned-lt0.ensures.value c.crossing_of-then-turned-lt0.ensures.sized

pub returns-else-turned-lt0-clause-none : goal.returns-else-turned-lt0-clause-none
returns-else-turned-lt0-clause-none c =
    (λ e. parallel _ _ c.turn-turned.result c.turn-turned.ensures (neither _ (omega (arith, ints)) (omega (arith, ints))), λ e. refl)
