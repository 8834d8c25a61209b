-- Numbers that are drawn from a seed.
use Rattle.std.specs.Prelude.{ℕ, zero, suc, ◌+◌, ◌*◌, ◌/◌, ◌%◌, ◌^◌}

-- the state behind x
unfoldable pub next_state : ℕ → ℕ
next_state x = (x * 1103515245 + 12345) % 2 ^ 31

-- what is drawn below m in the state x: by the state behind it, without its low 16 bits
unfoldable pub draw_from : ℕ → ℕ → ℕ
draw_from x m = (next_state x / 65536) % m

-- the state after so many draws from the seed
abbrev pub state_after : ℕ → ℕ → ℕ
state_after seed zero = seed
state_after seed (suc n) = next_state (state_after seed n)
