-- Numbers that are drawn.
use Rattle.std.specs.Prelude.{ℕ, zero, suc, ◌+◌, ◌*◌, ◌/◌, ◌%◌, ◌^◌}

-- the state of the generator after this one
unfoldable pub next_state : ℕ → ℕ
next_state x = (x * 6364136223846793005 + 1442695040888963407) % 2 ^ 64

-- the number below m that a state stands for, by its high bits
abbrev pub high_bits : ℕ → ℕ → ℕ
high_bits x m = x / 2 ^ 33 % m

-- the state after this many draws from state x
unfoldable pub generator_after : ℕ → ℕ → ℕ
generator_after x zero = x
generator_after x (suc k) = next_state (generator_after x k)

-- the k-th number that is drawn from state x, counted from 1, below m
abbrev pub draw_at : ℕ → ℕ → ℕ → ℕ
draw_at x k m = high_bits (generator_after x k) m
