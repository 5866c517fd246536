-- The number that an element of the pair stands for.
use Rattle.std.specs.Prelude.{ℕ, ◌+◌, ◌-◌, ◌*◌, ◌%◌}

-- The number below 2147483647 * 2013265921 that leaves `first` and `second`: as many steps of 2147483647 above `first` as bring the
-- other remainder from that of `first` to `second`. One such step is undone by 1039104991, since their product leaves 1 modulo
-- 2013265921. (Twice 2013265921 is added since `first` may be larger than `second`.)
abbrev pub joined : ℕ → ℕ → ℕ
joined first second = first + 2147483647 * ((second + 2 * 2013265921 - first) * 1039104991 % 2013265921)
