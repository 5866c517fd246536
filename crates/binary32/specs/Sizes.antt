-- The value of a word in whole numbers: its absolute value in units of 2^(−149).
use Rattle.std.specs.Prelude.{ℕ, ◌+◌, ◌-◌, ◌*◌, ◌/◌, ◌%◌, ◌^◌, cond, ◌==◌}
use Rattle.binary32.specs.Words.{sign_bit, magnitude_of}

-- The absolute value of a magnitude from 0 to 7F800000, in units of 2^(−149). The highest stands for 2^128.
unfoldable pub size : ℕ → ℕ
size m = cond (m / 2 ^ 23 == 0) (m % 2 ^ 23) ((2 ^ 23 + m % 2 ^ 23) * 2 ^ (m / 2 ^ 23 - 1))

-- The value of a word, counted from that of the negative infinity, which is as far below 0 as 2^128 is above.
abbrev pub level : ℕ → ℕ
level w = cond (sign_bit w) (2 ^ 277 - size (magnitude_of w)) (2 ^ 277 + size (magnitude_of w))

-- The same order in fewer bits: magnitudes rise with their sizes.
abbrev pub rank_of : ℕ → ℕ
rank_of w = cond (sign_bit w) (2 ^ 31 - magnitude_of w) (2 ^ 31 + magnitude_of w)
