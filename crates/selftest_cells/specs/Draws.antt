-- The numbers that a run draws for its own cells and changes: a linear congruential generator, whose high bits are taken.
use Rattle.std.specs.Prelude.{ℕ, ◌+◌, ◌*◌, ◌/◌, ◌%◌}

-- the number after this one
abbrev pub next : ℕ → ℕ
next x = (1103515245 * x + 12345) % 2147483648

-- a number below m that this one stands for
abbrev pub pick : ℕ → ℕ → ℕ
pick x m = (x / 65536) % m
